use Rattle.std.proofs.lemmas.Result.{err_from_is_err_and}
use Rattle.mx_files.proofs.FileParts.{object-closed, object-unclosed}
use Rattle.mx_files.proofs.emit.close_object.Goals as goal

pub returns : goal.returns
returns g c = object-closed _ _ _ _ _ _ c.answer_of_source.ensures c.in_ok-close_file.ensures

pub returns-in_err-close_file : goal.returns-in_err-close_file
returns-in_err-close_file g c =
    let p = err_from_is_err_and c.from_residual.result c.from_residual.ensures.1 in
    rw (p.1, p.2) (object-unclosed _ _ _ _ _ _ c.in_err-close_file.ensures)
