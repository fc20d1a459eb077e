use Rattle.std.proofs.lemmas.Result.{err_from_is_err_and}
use Rattle.mx_files.proofs.FileParts.{listed-file, unread-object}
use Rattle.mx_files.proofs.typing.list_whole.Goals as goal

pub returns : goal.returns
returns g c = listed-file _ _ _ _ _ _ _ _ _ _ c.as_slice.ensures c.in_ok-bytes.ensures.works c.list_object.ensures

pub returns-in_err-bytes : goal.returns-in_err-bytes
returns-in_err-bytes g c =
    let p = err_from_is_err_and c.from_residual.result c.from_residual.ensures.1 in
    rw (p.1, p.2) (unread-object _ _ _ _ _ _ c.in_err-bytes.ensures.works)
