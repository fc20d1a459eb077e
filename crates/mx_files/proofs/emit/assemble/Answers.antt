use Rattle.std.proofs.lemmas.Result.{err_from_is_err_and}
use Rattle.mx_files.proofs.FileParts.{assembled-file, unread-source}
use Rattle.mx_files.proofs.emit.assemble.Goals as goal

pub returns : goal.returns
returns g c = assembled-file _ _ _ _ _ _ _ _ _ _ _ c.as_slice.ensures c.in_ok-text.ensures.works c.put_into.ensures

pub returns-in_err-text : goal.returns-in_err-text
returns-in_err-text g c =
    let p = err_from_is_err_and c.from_residual.result c.from_residual.ensures.1 in
    rw (p.1, p.2) (unread-source _ _ _ _ _ _ _ c.in_err-text.ensures.works)
