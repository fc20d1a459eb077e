use Rattle.std.proofs.Common.{subst, ◌≤◌}
use Rattle.mx_core.specs.Bounds.{IsMachine}
use Rattle.mx_core.specs.Kept.{Kept, state_of}
use Rattle.mx_core.specs.Way.Parts.{kept}
use Rattle.mx_core.proofs.Kept.Marks.{machine_kept}
use Rattle.mx_core.proofs.bounds.machines_keep_the_invariant.Goals as goal

pub returns : goal.returns
returns c =
    let bound = subst (λ n. n ≤ 65536) c.pages.ensures.value c.pages.ensures.few in
    subst (λ (k : Kept). IsMachine (state_of k) k.ring) c.machine.view_is
    (machine_kept (kept c.machine.inside) c.know_bounds.ensures bound c.know_count.ensures c.machine.invariant.1 c.machine.invariant.2)
