use Rattle.mx_back.specs.History.{AreNotesOf}
use Rattle.mx_core.specs.Kept.{state_of}
use Rattle.test_steps.proofs.back.walk.step_back.Given as goal

abbrev pub invariant-loop-turn : goal.invariant-loop-turn
invariant-loop-turn l = AreNotesOf l.back (state_of l.machine)
