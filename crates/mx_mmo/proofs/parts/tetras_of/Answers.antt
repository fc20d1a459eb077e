use Rattle.std.proofs.Common.{◌++◌, sym, ◌∙◌, ap, append_assoc}
use Rattle.mx_mmo.proofs.Splits.{tetras-next}
use Rattle.mx_mmo.proofs.parts.tetras_of.Goals as goal

pub loop-rest-preserved : goal.loop-rest-preserved
loop-rest-preserved c =
    rw (c.in_ok-push.ensures.ok, append_assoc)
    (ap (λ l. c.loop-rest.tetras ++ l) (sym (tetras-next _ _ c.in-len4-up.len_at_least c.tetra_of.ensures)) ∙ c.loop-rest.invariant)
