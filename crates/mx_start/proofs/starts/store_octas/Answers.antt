use Rattle.std.proofs.Common.{◌∙◌}
use Rattle.std.proofs.lemmas.Result.{err_from_is_err_and}
use Rattle.mx_start.proofs.StoredOctas.{octas-more, octas-refused, octas-done}
use Rattle.mx_start.proofs.starts.store_octas.Goals as goal

pub returns-in_err-store_next : goal.returns-in_err-store_next
returns-in_err-store_next c =
    let p = err_from_is_err_and c.from_residual.result c.from_residual.ensures.1 in
    rw (p.1, p.2) (λ ne. c.loop-rest.invariant ∙ octas-refused _ _ _ c.in-len1-up.len_at_least (c.in_err-store_next.ensures.stored ne))

pub loop-rest-preserved : goal.loop-rest-preserved
loop-rest-preserved c = c.loop-rest.invariant ∙ octas-more _ _ _ _ c.in-len1-up.len_at_least (c.in_ok-store_next.ensures.stored (λ e. cc))

pub returns : goal.returns
returns c = λ ne. c.loop-rest.invariant ∙ octas-done _ _ _ c.in_default.len_below
