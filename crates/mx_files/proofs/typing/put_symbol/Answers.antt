use Rattle.std.proofs.Common.{◌∙◌}
use Rattle.std.proofs.lemmas.Result.{err_from_is_err_and}
use Rattle.mx_files.proofs.FileParts.{line-made, line-lacks}
use Rattle.mx_files.proofs.typing.put_symbol.Goals as goal

pub returns : goal.returns
returns g c = line-made _ _ _ _ _ _ _ (c.as_slice.ensures ∙ c.in_ok-line.ensures) c.write_line.ensures

pub returns-in_err-line : goal.returns-in_err-line
returns-in_err-line g c =
    let p = err_from_is_err_and c.from_residual.result c.from_residual.ensures.1 in
    rw (p.1, p.2) (line-lacks _ _ _)
