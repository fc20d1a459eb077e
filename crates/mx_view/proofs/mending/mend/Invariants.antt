use Rattle.mx_view.specs.Mending.{IsStopped}
use Rattle.mx_view.proofs.mending.mend.Given as goal

abbrev pub invariant-loop-stop : goal.invariant-loop-stop
invariant-loop-stop l = IsStopped l.fn.s l.s l.fn.first.text l.stop

abbrev pub decreases-loop-stop : goal.decreases-loop-stop
decreases-loop-stop l = l.s.left
