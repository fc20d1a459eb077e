use Rattle.std.proofs.Common.{◌++◌, ◌-◌, length, take, drop, sym, ◌∙◌, arith}
use Rattle.mx_warn.specs.Warnings.{lines_warnings}
use Rattle.mx_warn.proofs.WarningTurns.{line-at, line-none}
use Rattle.mx_warn.proofs.telling.add_lines.Goals as goal

pub loop-rest-preserved : goal.loop-rest-preserved
loop-rest-preserved c =
    let l = c.loop-rest in
    let survey = c.args.survey.now in
    let later = take (length l.rest.now - 1) (drop 1 l.rest.now) in
    l.invariant
    ∙ line-at l.told survey l.place l.rest.now c.line-item.result c.line-item.is c.in-len1-up.len_at_least
    ∙ (λ i. sym c.in_ok-place.ensures.told i ++ lines_warnings survey (sym c.in_ok-place.ensures.place i) later)

pub returns : goal.returns
returns c = sym (c.loop-rest.invariant ∙ line-none c.loop-rest.told _ _ c.loop-rest.rest.now (omega (arith, c.in_default.len_below)))
