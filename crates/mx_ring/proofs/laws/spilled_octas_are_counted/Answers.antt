use Rattle.mx_ring.proofs.Keeps.{set-spills, push-spills, pop-spills, save-spills, unsave-spills}
use Rattle.mx_ring.proofs.laws.spilled_octas_are_counted.Goals as goal

pub returns : goal.returns
returns c =
    record { set = set-spills; push = push-spills; pop = pop-spills; save = save-spills; unsave = unsave-spills }
