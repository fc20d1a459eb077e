-- A run without flags does not break, is not traced, and by its definition does not lack memory.
use Rattle.std.proofs.Common.{◌≡◌, ◌≢◌, ℕ, false, true, refl, subst, sym}
use Rattle.std.specs.Prelude.{Result}
use Rattle.mx_host.specs.HostModel.{HostModel}
use Rattle.mx_core.specs.State.{State}
use Rattle.mx_plan.specs.Wild.{Course, ends, meets_wild}
use Rattle.mx_plan.proofs.WildLaws.{EndsSo}
use Rattle.mx_run.specs.RunPlans.{RunWorld, end_of_turn}
use Rattle.mx_run.specs.Runs.{no_flags}
use Rattle.mx_run.specs.Turns.{turn}
use Rattle.mx_run.specs.WildRuns.{MachineKind, run_by}
use Rattle.mx_run.specs.declared.end.End.{End}
use Rattle.mx_run.specs.declared.turn_answer.TurnAnswer.{TurnAnswer}
use Rattle.mx_run.specs.declared.turn_answer.TurnAnswer.TheVariants as answer
use Rattle.mx_run.proofs.FreeTurns.{trace-free}
use Rattle.mx_run.proofs.RunCases.{OnOr, LeadsTo, AnyWay, HasMemory, has-memory, run-ends-so}
use Rattle.mx_begin.specs.Ends.{outcome_of}
use Rattle.law_runs.specs.Unbroken.{is_outcome_told, is_run_told}

abbrev pub Told : End → RunWorld → Type 0
Told end w = (steps : ℕ) → is_outcome_told (outcome_of steps end) ≡ true

turned : (n pc : ℕ) (a : TurnAnswer) (w : RunWorld) → a ≢ answer.OutOfMemory → OnOr (AnyWay n) Told (end_of_turn no_flags pc a) w
turned n pc (answer.Went trace) w h = subst (λ (r : Result (Unit {0}) End). OnOr (AnyWay n) Told r w) (sym (trace-free trace)) tt
turned n pc (answer.Halted status) w h = λ steps. refl
turned n pc (answer.Stopped reason) w h = λ steps. refl
turned n pc answer.OutOfMemory w h = absurd (h refl)

leads : LeadsTo no_flags HasMemory AnyWay Told
leads = record { spent = λ w g steps. refl; broken = λ n w e. absurd (cc); turned = λ n a w v g h. turned n w.0.pc a v h }

pub run-course-told : (kind : MachineKind) (steps : ℕ) (s : State) (m : HostModel) → EndsSo Told (run_by kind steps no_flags false s m)
run-course-told kind steps s m = run-ends-so kind no_flags HasMemory AnyWay Told leads (λ t k tame. has-memory (turn t k)) steps false s m tt

course-told : (steps : ℕ) (c : Course End RunWorld) → EndsSo Told c → is_run_told steps c ≡ true
course-told steps (ends e w) h = h steps
course-told steps (meets_wild w) h = refl

pub runs-told : (kind : MachineKind) (steps : ℕ) (s : State) (m : HostModel) → is_run_told steps (run_by kind steps no_flags false s m) ≡ true
runs-told kind steps s m = course-told steps (run_by kind steps no_flags false s m) (run-course-told kind steps s m)

pub ruleset unbroken = (runs-told)
