use Rattle.std.proofs.lemmas.Result.{err_from_is_err_and}
use Rattle.mx_files.proofs.FileParts.{into-put, into-unopened}
use Rattle.mx_files.proofs.emit.put_into.Goals as goal

pub returns : goal.returns
returns g c = into-put _ _ _ _ _ _ _ _ _ c.in_ok-open_object.ensures c.put_source.ensures

pub returns-in_err-open_object : goal.returns-in_err-open_object
returns-in_err-open_object g c =
    let p = err_from_is_err_and c.from_residual.result c.from_residual.ensures.1 in
    rw (p.1, p.2) (into-unopened _ _ _ _ _ _ _ c.in_err-open_object.ensures)
