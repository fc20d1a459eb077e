use Rattle.std.proofs.Common.{sym, ◌∙◌, ap, Err, subst, arith}
use Rattle.mx_asm.proofs.Fronts.{taken-none, taken-fault, taken-failed, taken-next, taken-front, within-line, after-line, front-same, front-trans}
use Rattle.mx_asm.proofs.OnePassLaw.{no-statement}
use Rattle.mx_asm.specs.Fronts.{IsFront}
use Rattle.mx_asm.proofs.Fitting.{grows-on}
use Rattle.mx_asm.proofs.lines.take_statements.Goals as goal

pub returns-in-Ok-None-clause-taken : goal.returns-in-Ok-None-clause-taken
returns-in-Ok-None-clause-taken c = λ memory.
    sym (taken-none c.args.line c.args.text.now c.statements.at c.statements.out c.statements.assembly c.in-Ok-None.field-0 (cc) c.in-Ok-None.ensures.list) ∙ c.statements.invariant.1

pub statements-preserved : goal.statements-preserved
statements-preserved c = (
  within-line c.statements.at _ c.in-Ok-Some.cut c.in-Ok-Some.field-0 (cc) c.in-Ok-Some.ensures.order,
  taken-next c.args.line c.args.text.now c.statements.at c.statements.out c.take_cut.new.out c.statements.assembly c.take_cut.new.assembly c.in-Ok-Some.cut c.in-Ok-Some.field-0 (cc) c.in-Ok-Some.ensures.list
      (c.in_default.ensures.taken (λ same. cc))
      ∙ c.statements.invariant.1,
  λ none. absurd (no-statement c.args.text.now c.statements.at c.in-Ok-Some.field-0 c.in-Ok-Some.cut (c.statements.invariant.2 none) (cc) c.in-Ok-Some.ensures.list none),
  grows-on _ _ _ c.statements.invariant.3 c.in_default.ensures.fits,
  λ first. absurd (omega (arith, first, after-line c.statements.at _ c.in-Ok-Some.cut c.in-Ok-Some.field-0 (cc) c.in-Ok-Some.ensures.order)),
)

pub returns-in-Err-clause-taken : goal.returns-in-Err-clause-taken
returns-in-Err-clause-taken c = rw c.refuse_at-in-Err.ensures.answer (λ memory.
    ap (λ r. (c.statements.out, Err r)) c.at.ensures
    ∙ sym (taken-fault c.args.line c.args.text.now c.statements.at c.statements.out c.statements.assembly c.in-Err.fault c.in-Err.ensures.list)
    ∙ c.statements.invariant.1)

pub returns-in-Err-take_cut-clause-taken : goal.returns-in-Err-take_cut-clause-taken
returns-in-Err-take_cut-clause-taken c = rw c.refuse_at.ensures.answer (λ memory.
    sym (taken-failed c.args.line c.args.text.now c.statements.at c.statements.out c.take_cut.new.out c.statements.assembly c.in-Ok-Some.cut c.in-Err-take_cut.refused c.in-Ok-Some.field-0 (cc) c.in-Ok-Some.ensures.list
    (c.in-Err-take_cut.ensures.taken (λ same. memory (cc))))
    ∙ c.statements.invariant.1)

pub returns-in-Ok-None-clause-front : goal.returns-in-Ok-None-clause-front
returns-in-Ok-None-clause-front c =
    front-same _ _ (ap (λ p. p.0) (sym (taken-none c.args.line c.args.text.now c.statements.at c.statements.out c.statements.assembly c.in-Ok-None.field-0 (cc) c.in-Ok-None.ensures.list) ∙ c.statements.invariant.1))

pub returns-in-Err-clause-front : goal.returns-in-Err-clause-front
returns-in-Err-clause-front c =
    front-same _ _ (ap (λ p. p.0) (sym (taken-fault c.args.line c.args.text.now c.statements.at c.statements.out c.statements.assembly c.in-Err.fault c.in-Err.ensures.list) ∙ c.statements.invariant.1))

pub returns-in-Err-take_cut-clause-front : goal.returns-in-Err-take_cut-clause-front
returns-in-Err-take_cut-clause-front c =
    subst (λ p. IsFront c.take_cut.new.out p.0) c.statements.invariant.1
    (front-trans _ _ _ c.in-Err-take_cut.ensures.front
    (taken-front c.args.line c.args.text.now c.statements.at c.statements.out c.statements.assembly c.in-Ok-Some.cut c.in-Ok-Some.field-0 (cc) c.in-Ok-Some.ensures.list))

pub returns-in-Err-take_cut-clause-fits : goal.returns-in-Err-take_cut-clause-fits
returns-in-Err-take_cut-clause-fits c = grows-on _ _ _ c.statements.invariant.3 c.in-Err-take_cut.ensures.fits
