use Rattle.std.proofs.Common.{◌≡◌, ◌++◌, length}
use Rattle.mx_marks.specs.Under.{tildes, tildes_after}
use Rattle.mx_marks.proofs.under.add_tildes.Given as goal

abbrev pub invariant-loop-rest : goal.invariant-loop-rest
invariant-loop-rest l = l.fn.text ++ tildes l.marked ≡ l.text ++ tildes_after 0 l.rest

abbrev pub decreases-loop-rest : goal.decreases-loop-rest
decreases-loop-rest l = length l.rest
