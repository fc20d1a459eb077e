use Rattle.std.proofs.Common.{refl, ◌∙◌}
use Rattle.mx_mem.proofs.Copies.{copy-holds}
use Rattle.mx_mem.proofs.memory.Memory.copy.Goals as goal

pub invariant_of-result : goal.invariant_of-result
invariant_of-result c = copy-holds _ _ (c.in_ok-pages.ensures ∙ c.as_slice.ensures.value) c.in_ok-places.ensures refl refl refl c.self.invariant
