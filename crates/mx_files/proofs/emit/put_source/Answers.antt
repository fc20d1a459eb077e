use Rattle.std.proofs.lemmas.Result.{err_from_is_err_and}
use Rattle.mx_files.proofs.FileParts.{source-put, source-lacks}
use Rattle.mx_files.proofs.emit.put_source.Goals as goal

pub returns : goal.returns
returns g c = source-put _ _ _ _ _ _ _ _ _ c.in_ok-bytes.ensures c.as_slice.ensures c.put_object.ensures

pub returns-in_err-bytes : goal.returns-in_err-bytes
returns-in_err-bytes g c =
    let p = err_from_is_err_and c.from_residual.result c.from_residual.ensures.1 in
    rw (p.1, p.2) (source-lacks _ _ _)
