use Rattle.std.proofs.Common.{◌++◌, ◌-◌, length, take, drop, sym, ◌∙◌, arith}
use Rattle.mx_warn.specs.Warnings.{place_through, statements_warnings}
use Rattle.mx_warn.proofs.WarningTurns.{place-at, place-none, statement-at, statement-none}
use Rattle.mx_warn.proofs.telling.add_statements.Goals as goal

pub loop-rest-preserved : goal.loop-rest-preserved
loop-rest-preserved c =
    let l = c.loop-rest in
    let survey = c.args.survey.now in
    let line = c.args.line.now in
    let later = take (length l.rest.now - 1) (drop 1 l.rest.now) in
    record {
      told = l.invariant.told
          ∙ statement-at l.told survey line l.current l.rest.now c.statement-item.result c.statement-item.is c.in-len1-up.len_at_least
          ∙ (λ i. sym c.in_ok-add_statement.ensures i ++ statements_warnings survey line (sym c.next_place-current.ensures i) later);
      place = l.invariant.place
          ∙ place-at survey line.number l.current l.rest.now c.statement-item.result c.statement-item.is c.in-len1-up.len_at_least
          ∙ (λ i. place_through survey line.number (sym c.next_place-current.ensures i) later);
    }

pub returns-clause-told : goal.returns-clause-told
returns-clause-told c =
    sym (c.loop-rest.invariant.told ∙ statement-none c.loop-rest.told _ _ _ c.loop-rest.rest.now (omega (arith, c.in_default.len_below)))

pub returns-clause-place : goal.returns-clause-place
returns-clause-place c = sym (c.loop-rest.invariant.place ∙ place-none _ _ _ c.loop-rest.rest.now (omega (arith, c.in_default.len_below)))
