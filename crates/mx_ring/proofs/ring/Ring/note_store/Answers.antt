use Rattle.std.proofs.Common.{◌≤◌, length, sym, subst}
use Rattle.mx_ring.proofs.StepsBack.{spilled-few}
use Rattle.mx_ring.proofs.ring.Ring.note_store.Goals as goal

pub octa_after_spill-octa-requires-clause-few : goal.octa_after_spill-octa-requires-clause-few
octa_after_spill-octa-requires-clause-few c =
    subst (λ n. n ≤ length c.args.self.now.hidden.resident) (sym c.count_spilled_by-count.ensures.value) (spilled-few c.args.self.now c.args.k c.count_spilled_by-count.ensures.bounds)
