-- Where no call that is made fails, turns and runs come to the same whatever the count of calls, and whatever the list of
-- those that fail.
use Rattle.std.proofs.Common.{◌≡◌, ℕ, Bool, true, false, cond, refl, sym, ◌∙◌, ap}
use Rattle.mx_host.specs.HostModel.{HostModel}
use Rattle.mx_host.proofs.Still.{still}
use Rattle.mx_alu.specs.declared.call.TrapCall.{TrapCall}
use Rattle.mx_plan.specs.Counts.{NoneFailed, unscheduled}
use Rattle.mx_plan.specs.Wild.{Course, ends, meets_wild, world_of, course}
use Rattle.mx_plan.proofs.Spared.{Spares, uncalled, after, still-same}
use Rattle.mx_plan.proofs.WildLaws.{course_still, SparedCourse, course_spared}
use Rattle.mx_trap.specs.FileTraps.{trap_answer}
use Rattle.mx_trap.specs.Moves.{Leaves}
use Rattle.mx_trap.specs.Touches.{touches}
use Rattle.mx_trap.specs.declared.answer.TrapAnswer.{TrapAnswer}
use Rattle.mx_trap.specs.declared.answer.TrapAnswer.TheVariants as trap
use Rattle.mx_trap.proofs.KeptTraps.{SparedLeaves, trap-steady}
use Rattle.mx_core.specs.MachineSpace.{machine_contents, state_in}
use Rattle.mx_core.specs.State.{State}
use Rattle.mx_core.specs.Step.{Stepped, went, calls, stopped, step}
use Rattle.mx_run.specs.Counts.{turn_unscheduled, end_unscheduled, end_host}
use Rattle.mx_run.specs.RunPlans.{RunCall, turning, looking, RunWorld, running, run_plan}
use Rattle.mx_run.specs.Runs.{FlagsOf}
use Rattle.mx_run.specs.Turns.{Turn, went_on, halts, stops, area_size, turn_with, trap_turn, turn_of, turn, turn_answer}
use Rattle.mx_run.specs.WildRuns.{MachineKind, ends_wild, run_goes, run_by, host_after}
use Rattle.mx_run.specs.declared.end.End.{End}
use Rattle.mx_run.specs.declared.turn_answer.TurnAnswer.{TurnAnswer}

-- ---- turns

-- the turn with the still model in place of the one that it leaves
abbrev pub turn_still : Turn → Turn
turn_still (went_on s m trace) = went_on s (still m) trace
turn_still (halts status s m) = halts status s (still m)
turn_still (stops reason s m) = stops reason s (still m)

abbrev pub SparedTurns : HostModel → Turn → Turn → Type 0
SparedTurns m t u = Spares m (host_after t) (turn_still t) u

with-steady : (touching : Bool) (call : TrapCall) (s : State) (m : HostModel) (answer : TrapAnswer) → SparedTurns m (turn_with touching call s m answer) (turn_with touching call s (still m) answer)
with-steady touching call s m (trap.Value value) = uncalled
with-steady touching call s m trap.Halt = uncalled
with-steady touching call s m (trap.Stopped why) = uncalled
with-steady touching call s m trap.OutOfMemory = uncalled

trap_turn-steady : {m : HostModel} (touching : Bool) (call : TrapCall) (t u : Leaves TrapAnswer State) → SparedLeaves m t u → SparedTurns m (trap_turn touching call t) (trap_turn touching call u)
trap_turn-steady touching call (answer, c, n) u h = after (trap_turn touching call) h (with-steady touching call (state_in c area_size) n answer)

stepped-steady : (s : State) (m : HostModel) (x : Stepped) → SparedTurns m (turn_of s m x) (turn_of s (still m) x)
stepped-steady s m (went t trace) = uncalled
stepped-steady s m (stopped reason) = uncalled
stepped-steady s m (calls call) =
    trap_turn-steady (touches (machine_contents s).bytes call) call (trap_answer (machine_contents s) m call) (trap_answer (machine_contents s) (still m) call) (trap-steady (machine_contents s) m call)

pub turn-steady : (s : State) (m : HostModel) → SparedTurns m (turn s m) (turn s (still m))
unfolding turn
turn-steady s m = stepped-steady s m (step s)

-- ---- runs

-- the end with the still model in place of the one that it leaves
abbrev pub still-world : RunWorld → RunWorld
still-world w = (w.0, still w.1)

abbrev run-host : RunWorld → HostModel
run-host w = w.1

abbrev pub end_still : Course End RunWorld → Course End RunWorld
end_still c = course_still still-world c

abbrev pub SparedEnds : HostModel → Course End RunWorld → Course End RunWorld → Type 0
SparedEnds m t u = Spares m (end_host t) (end_still t) u

-- a turn that is made
abbrev made-by : Turn → Course TurnAnswer RunWorld
made-by t = ends (turn_answer t).0 ((turn_answer t).1, (turn_answer t).2)

turned-case : (t : Turn) → Spares (host_after t) (run-host (world_of (made-by t))) (course_still still-world (made-by t)) (made-by (turn_still t))
turned-case (went_on s m trace) = uncalled
turned-case (halts status s m) = uncalled
turned-case (stops reason s m) = uncalled

call-steady : (kind : MachineKind) (o : RunCall) (w : RunWorld) → SparedCourse run-host still-world w (run_goes kind o w) (run_goes kind o (still-world w))
unfolding running
call-steady kind turning w = by (ends_wild kind w.0)
  where
    by : (b : Bool) → SparedCourse run-host still-world w (cond b (meets_wild w) (made-by (turn w.0 w.1))) (cond b (meets_wild (still-world w)) (made-by (turn w.0 (still w.1))))
    by true = uncalled
    by false = after made-by (turn-steady w.0 w.1) (turned-case (turn w.0 w.1))
call-steady kind looking w = uncalled

pub run-steady : (kind : MachineKind) (n : ℕ) (f : FlagsOf) (pass : Bool) (s : State) (m : HostModel) → SparedEnds m (run_by kind n f pass s m) (run_by kind n f pass s (still m))
unfolding run_by
run-steady kind n f pass s m = course_spared run-host still-world (run_goes kind) (call-steady kind) (run_plan n f pass) (s, m)

-- ---- two models that differ in the number of calls and the list of those that fail

turn-unscheduled : (t : Turn) → turn_unscheduled t ≡ turn_unscheduled (turn_still t)
turn-unscheduled (went_on s m trace) = refl
turn-unscheduled (halts status s m) = refl
turn-unscheduled (stops reason s m) = refl

pub turn-same : (s : State) (m n : HostModel) → unscheduled m ≡ unscheduled n → NoneFailed m (host_after (turn s m)) → NoneFailed n (host_after (turn s n)) →
    turn_unscheduled (turn s m) ≡ turn_unscheduled (turn s n)
turn-same s m n e h k =
    let a = (turn-steady s m).same h in
    let b = (turn-steady s n).same k in
    turn-unscheduled (turn s m) ∙ ap turn_unscheduled (a ∙ ap (turn s) (still-same m n e) ∙ sym b) ∙ sym (turn-unscheduled (turn s n))

end-unscheduled : (c : Course End RunWorld) → end_unscheduled c ≡ end_unscheduled (end_still c)
end-unscheduled (ends end w) = refl
end-unscheduled (meets_wild w) = refl

pub run-same : (kind : MachineKind) (most : ℕ) (f : FlagsOf) (pass : Bool) (s : State) (m n : HostModel) → unscheduled m ≡ unscheduled n →
    NoneFailed m (end_host (run_by kind most f pass s m)) → NoneFailed n (end_host (run_by kind most f pass s n)) →
    end_unscheduled (run_by kind most f pass s m) ≡ end_unscheduled (run_by kind most f pass s n)
run-same kind most f pass s m n e h k =
    let a = (run-steady kind most f pass s m).same h in
    let b = (run-steady kind most f pass s n).same k in
    end-unscheduled (run_by kind most f pass s m) ∙ ap end_unscheduled (a ∙ ap (run_by kind most f pass s) (still-same m n e) ∙ sym b) ∙ sym (end-unscheduled (run_by kind most f pass s n))

pub ruleset steady = (turn-same, run-same)
