-- How many steps a turn and a run count.
use Rattle.std.proofs.Common.{◌≡◌, ℕ, suc, ◌+◌, ◌-◌, ◌≤◌, ◌%◌, ◌^◌, Bool, Ok, Err, arith, le_refl, refl, subst, ◌∙◌, ap}
use Rattle.std.specs.Prelude.{Result}
use Rattle.mx_host.specs.HostModel.{HostModel}
use Rattle.mx_mem.specs.Space.{Contents}
use Rattle.mx_plan.proofs.WildLaws.{EndsSo}
use Rattle.mx_alu.specs.declared.call.TrapCall.{TrapCall}
use Rattle.mx_trap.specs.FileTraps.{trap_answer}
use Rattle.mx_trap.specs.Moves.{Leaves}
use Rattle.mx_trap.specs.Touches.{touches}
use Rattle.mx_trap.specs.declared.answer.TrapAnswer.{TrapAnswer}
use Rattle.mx_trap.specs.declared.answer.TrapAnswer.TheVariants as trap
use Rattle.mx_trap.proofs.KeptTraps.{rest-kept}
use Rattle.mx_core.specs.MachineSpace.{machine_contents, state_in}
use Rattle.mx_core.specs.State.{State}
use Rattle.mx_core.specs.Step.{Stepped, went, calls, stopped, step}
use Rattle.mx_core.proofs.StepCounts.{CountsOne, step-count}
use Rattle.mx_run.specs.RunPlans.{RunWorld}
use Rattle.mx_run.specs.Runs.{FlagsOf, run, IsLater}
use Rattle.mx_run.specs.Turns.{Turn, went_on, halts, stops, area_size, turn_with, turn_of, turn, turn_answer}
use Rattle.mx_run.specs.WildRuns.{window_machine}
use Rattle.mx_run.specs.declared.end.End.{End}
use Rattle.mx_run.proofs.BothMachines.{window-ends}
use Rattle.mx_run.proofs.Later.{one-later, none-later, begun-later, both-later, few-later, trapped-count}
use Rattle.mx_run.proofs.RunCases.{OnOr, LeadsTo, run-ends-so}

-- ---- a turn counts one step, unless the machine stops

abbrev pub CountsTurn : State → Turn → Type 0
CountsTurn s (went_on t m trace) = t.steps ≡ (s.steps + 1) % 2 ^ 64
CountsTurn s (halts status t m) = t.steps ≡ (s.steps + 1) % 2 ^ 64
CountsTurn s (stops reason t m) = t.steps ≡ s.steps

left-count : (c : Contents State) (n : ℕ) → (state_in c n).steps ≡ c.rest.steps
unfolding state_in
left-count c n = refl

answered-count : (touching : Bool) (call : TrapCall) (s t : State) (m : HostModel) (answer : TrapAnswer) → t.steps ≡ s.steps → CountsTurn s (turn_with touching call t m answer)
answered-count touching call s t m (trap.Value value) h = trapped-count t call value ∙ ap (λ n. (n + 1) % 2 ^ 64) h
answered-count touching call s t m trap.Halt h = ap (λ n. (n + 1) % 2 ^ 64) h
answered-count touching call s t m (trap.Stopped why) h = h
answered-count touching call s t m trap.OutOfMemory h = h

stepped-count : (s : State) (m : HostModel) (x : Stepped) → CountsOne s x → CountsTurn s (turn_of s m x)
stepped-count s m (went t trace) h = h
stepped-count s m (calls call) h =
    let t : Leaves TrapAnswer State = trap_answer (machine_contents s) m call in
    answered-count (touches (machine_contents s).bytes call) call s (state_in t.1 area_size) t.2 t.0 (left-count t.1 area_size ∙ ap (λ (r : State). r.steps) (rest-kept (machine_contents s) m call))
stepped-count s m (stopped reason) h = refl

pub turn-count : (s : State) (m : HostModel) → CountsTurn s (turn s m)
unfolding turn
turn-count s m = stepped-count s m (step s) (step-count s)

-- ---- a run

turn-later : (s : State) (t : Turn) → CountsTurn s t → IsLater 1 s (turn_answer t).1
turn-later s (went_on u m trace) h = one-later s u h
turn-later s (halts status u m) h = one-later s u h
turn-later s (stops reason u m) h = none-later 1 s u h

module _ (n : ℕ) (s : State) where
  -- this many steps of n are left
  abbrev Left : ℕ → RunWorld → Type 0
  Left left w = (left ≤ n) × IsLater (n - left) s w.0

  abbrev Later : End → RunWorld → Type 0
  Later end w = IsLater n s w.0

  turned : (left : ℕ) (w v : RunWorld) (r : Result (Unit {0}) End) → Left (suc left) w → IsLater 1 w.0 v.0 → OnOr (Left left) Later r v
  turned left w v (Ok u) g one = (omega (arith, g.0), few-later (n - left) (n - suc left + 1) s v.0 (omega (arith, g.0)) (both-later (n - suc left) 1 s w.0 v.0 g.1 one))
  turned left w v (Err end) g one = few-later n (n - suc left + 1) s v.0 (omega (arith, g.0)) (both-later (n - suc left) 1 s w.0 v.0 g.1 one)

  leads : (f : FlagsOf) → LeadsTo f (λ w a v. IsLater 1 w.0 v.0) Left Later
  leads f = record {
    spent = λ w g. few-later n (n - 0) s w.0 (omega arith) g.1;
    broken = λ left w e g. few-later n (n - suc left) s w.0 (omega arith) g.1;
    turned = λ left a w v g one. turned left w v _ g one;
  }

pub run-count : (n : ℕ) (f : FlagsOf) (pass : Bool) (s : State) (m : HostModel) → IsLater n s (run n f pass s m).state
run-count n f pass s m =
    subst (EndsSo (Later n s)) (window-ends n f pass s m)
    (run-ends-so window_machine f (λ w a v. IsLater 1 w.0 v.0) (Left n s) (Later n s) (leads n s f) (λ t k tame. turn-later t (turn t k) (turn-count t k)) n pass s m (le_refl n, few-later (n - n) 0 s s (omega arith) (begun-later s)))

pub ruleset counts = (run-count)
