use Rattle.std.proofs.Common.{◌∙◌, sym}
use Rattle.std.proofs.lemmas.Result.{err_from_is_err_and}
use Rattle.mx_core.specs.Kept.{state_of}
use Rattle.mx_dump.specs.Dump as spec
use Rattle.mx_files.proofs.WrittenLines.{writes-hidden, writes-shown, writes-line, writes-lacking}
use Rattle.mx_dump.proofs.lines.put_special.Goals as goal

pub returns-then-not-is_special_shown : goal.returns-then-not-is_special_shown
returns-then-not-is_special_shown g c = writes-hidden _ _ (spec.is_special_shown (state_of c.args.machine.now) c.args.code) _ (sym c.is_special_shown.ensures ∙ c.if-not-is_special_shown.true)

pub returns : goal.returns
returns g c =
    writes-shown _ _ _ _ _ (spec.is_special_shown (state_of c.args.machine.now) c.args.code) _ (sym c.is_special_shown.ensures ∙ c.if-not-is_special_shown.false)
    (writes-line _ _ _ _ _ _ _ (c.as_slice.ensures ∙ c.in_ok-line.ensures) c.write_line.ensures)

pub returns-in_err-line : goal.returns-in_err-line
returns-in_err-line g c =
    let p = err_from_is_err_and c.from_residual.result c.from_residual.ensures.1 in
    rw (p.1, p.2) (writes-shown _ _ _ _ _ (spec.is_special_shown (state_of c.args.machine.now) c.args.code) _ (sym c.is_special_shown.ensures ∙ c.if-not-is_special_shown.false) (writes-lacking _ _ _))
