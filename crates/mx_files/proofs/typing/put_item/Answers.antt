use Rattle.std.proofs.Common.{◌∙◌}
use Rattle.std.proofs.lemmas.Result.{err_from_is_err_and}
use Rattle.mx_files.proofs.FileParts.{item-made, item-lacks}
use Rattle.mx_files.proofs.typing.put_item.Goals as goal

pub returns-clause-put : goal.returns-clause-put
returns-clause-put g c = item-made _ _ _ _ _ _ _ (c.as_slice.ensures ∙ c.in_ok-item_into.ensures.text) c.put_shown.ensures

pub returns-in_err-item_into-clause-put : goal.returns-in_err-item_into-clause-put
returns-in_err-item_into-clause-put g c =
    let p = err_from_is_err_and c.from_residual.result c.from_residual.ensures.1 in
    rw (p.1, p.2) (item-lacks _ _ _)
