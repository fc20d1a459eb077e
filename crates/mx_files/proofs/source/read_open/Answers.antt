use Rattle.std.proofs.lemmas.Result.{err_from_is_err_and}
use Rattle.mx_files.proofs.FileParts.{read-closed, read-unclosed, read-ends}
use Rattle.mx_files.proofs.source.read_open.Goals as goal

pub returns : goal.returns
returns g c = read-closed _ _ _ _ _ _ _ _ c.in_ok-bytes.ensures c.in_ok-close_file.ensures

pub returns-in_err-close_file : goal.returns-in_err-close_file
returns-in_err-close_file g c =
    let p = err_from_is_err_and c.from_residual-in_err-close_file.result c.from_residual-in_err-close_file.ensures.1 in
    rw (p.1, p.2) (read-unclosed _ _ _ _ _ _ _ _ _ c.in_ok-bytes.ensures c.in_err-close_file.ensures)

pub returns-in_err-bytes : goal.returns-in_err-bytes
returns-in_err-bytes g c =
    let p = err_from_is_err_and c.from_residual.result c.from_residual.ensures.1 in
    rw (p.1, p.2) (read-ends _ _ _ _ _ _ c.in_err-bytes.ensures)
