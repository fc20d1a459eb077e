use Rattle.std.proofs.Common.{◌++◌, sym, ◌∙◌, ap, append_assoc}
use Rattle.mx_mmo.proofs.Splits.{octas-next}
use Rattle.mx_mmo.proofs.parts.octas_of.Goals as goal

pub loop-rest-preserved : goal.loop-rest-preserved
loop-rest-preserved c =
    rw (c.in_ok-push.ensures.ok, append_assoc)
    (ap (λ l. c.loop-rest.octas ++ l) (sym (octas-next _ _ c.in-len8-up.len_at_least c.octa_of.ensures)) ∙ c.loop-rest.invariant)
