use Rattle.std.proofs.lemmas.Result.{err_from_is_err_and}
use Rattle.mx_files.proofs.FileParts.{file-read, file-unopened}
use Rattle.mx_files.proofs.source.whole_file.Goals as goal

pub returns : goal.returns
returns g c = file-read _ _ _ _ _ _ _ _ _ c.in_ok-open_input.ensures c.read_open.ensures

pub returns-in_err-open_input : goal.returns-in_err-open_input
returns-in_err-open_input g c =
    let p = err_from_is_err_and c.from_residual.result c.from_residual.ensures.1 in
    rw (p.1, p.2) (file-unopened _ _ _ _ _ _ _ c.in_err-open_input.ensures)
