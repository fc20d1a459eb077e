use Rattle.std.proofs.Common.{◌≡◌, ◌≤◌, ◌-◌}
use Rattle.mx_core.specs.Kept.{state_of}
use Rattle.mx_core.specs.Walks.{Goes}
use Rattle.mx_core.specs.Way.KeptPage.{IsHere, address_in, placed}
use Rattle.mx_core.proofs.KeptSteps.{steps_after}
use Rattle.mx_core.proofs.machine.Machine.make_from.Given as goal

abbrev pub invariant-loop-made : goal.invariant-loop-made
invariant-loop-made l = (l.made ≤ l.n) × IsHere l.self l.index × (l.place ≡ l.self.memory.code_place)
    × Goes l.made (state_of l.fn.self) (placed (state_of l.self) (address_in l.self l.index) (steps_after l.self l.made))

abbrev pub decreases-loop-made : goal.decreases-loop-made
decreases-loop-made l = l.n - l.made
