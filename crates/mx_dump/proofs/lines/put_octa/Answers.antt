use Rattle.std.proofs.Common.{◌∙◌}
use Rattle.std.proofs.lemmas.Result.{err_from_is_err_and}
use Rattle.mx_files.proofs.WrittenLines.{writes-line, writes-lacking}
use Rattle.mx_dump.proofs.lines.put_octa.Goals as goal

pub returns : goal.returns
returns g c = writes-line _ _ _ _ _ _ _ (c.as_slice.ensures ∙ c.in_ok-line.ensures) c.write_line.ensures

pub returns-in_err-line : goal.returns-in_err-line
returns-in_err-line g c =
    let p = err_from_is_err_and c.from_residual.result c.from_residual.ensures.1 in
    rw (p.1, p.2) (writes-lacking _ _ _)
