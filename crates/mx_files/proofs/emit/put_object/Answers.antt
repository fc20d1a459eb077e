use Rattle.std.proofs.lemmas.Result.{err_from_is_err_and}
use Rattle.mx_files.proofs.FileParts.{object-put, object-unput}
use Rattle.mx_files.proofs.emit.put_object.Goals as goal

pub returns : goal.returns
returns g c = object-put _ _ _ _ _ _ _ _ _ c.in_ok-put_text.ensures c.close_object.ensures

pub returns-in_err-put_text : goal.returns-in_err-put_text
returns-in_err-put_text g c =
    let p = err_from_is_err_and c.from_residual.result c.from_residual.ensures.1 in
    rw (p.1, p.2) (object-unput _ _ _ _ _ _ _ c.in_err-put_text.ensures)
