-- A program that halts does so with the low byte of its register $255.
use Rattle.std.proofs.Common.{◌≡◌, ℕ, ◌%◌, ◌^◌, Bool, false, refl, sym, subst, ◌∙◌, ap}
use Rattle.std.specs.Prelude.{Result}
use Rattle.mx_host.specs.HostModel.{HostModel}
use Rattle.mx_ring.specs.Stack.{register}
use Rattle.mx_plan.specs.Wild.{ends}
use Rattle.mx_plan.proofs.WildLaws.{EndsSo}
use Rattle.mx_trap.specs.FileTraps.{trap_answer}
use Rattle.mx_trap.specs.Moves.{Leaves}
use Rattle.mx_trap.specs.Touches.{touches}
use Rattle.mx_trap.specs.declared.answer.TrapAnswer.{TrapAnswer}
use Rattle.mx_trap.specs.declared.answer.TrapAnswer.TheVariants as trap
use Rattle.mx_core.specs.MachineSpace.{machine_contents, state_in}
use Rattle.mx_core.specs.State.{State}
use Rattle.mx_core.specs.Step.{Stepped, went, calls, stopped, step}
use Rattle.mx_run.specs.RunPlans.{RunWorld, end_of_turn}
use Rattle.mx_run.specs.Runs.{no_flags}
use Rattle.mx_run.specs.Turns.{Turn, went_on, halts, stops, area_size, status_of, turn_with, trap_turn, turn_of, turn, turn_answer}
use Rattle.mx_run.specs.WildRuns.{MachineKind, run_by}
use Rattle.mx_run.specs.declared.end.End.{End}
use Rattle.mx_run.specs.declared.end.End.TheVariants as ending
use Rattle.mx_run.specs.declared.turn_answer.TurnAnswer.{TurnAnswer}
use Rattle.mx_run.specs.declared.turn_answer.TurnAnswer.TheVariants as answers
use Rattle.mx_run.proofs.FreeTurns.{trace-free}
use Rattle.mx_run.proofs.RunCases.{OnOr, LeadsTo, AnyWay, run-ends-so}

-- ---- turns

abbrev TurnIsLow : Turn → Type 0
TurnIsLow (halts status s m) = status ≡ status_of s
TurnIsLow (went_on s m trace) = Unit {0}
TurnIsLow (stops reason s m) = Unit {0}

with-low : (touching : Bool) (call : _) (s : State) (m : HostModel) (answer : TrapAnswer) → TurnIsLow (turn_with touching call s m answer)
with-low touching call s m (trap.Value value) = tt
with-low touching call s m trap.Halt = refl
with-low touching call s m (trap.Stopped why) = tt
with-low touching call s m trap.OutOfMemory = tt

trap_turn-low : (touching : Bool) (call : _) (t : Leaves TrapAnswer State) → TurnIsLow (trap_turn touching call t)
trap_turn-low touching call (answer, c, m) = with-low touching call (state_in c area_size) m answer

stepped-low : (s : State) (m : HostModel) (x : Stepped) → TurnIsLow (turn_of s m x)
stepped-low s m (went t trace) = tt
stepped-low s m (stopped reason) = tt
stepped-low s m (calls call) = trap_turn-low (touches (machine_contents s).bytes call) call (trap_answer (machine_contents s) m call)

turn-low : (s : State) (m : HostModel) → TurnIsLow (turn s m)
unfolding turn
turn-low s m = stepped-low s m (step s)

-- ---- runs

abbrev AnswersLow : RunWorld → TurnAnswer → RunWorld → Type 0
AnswersLow w a v = (status : ℕ) → a ≡ answers.Halted status → status ≡ status_of v.0

abbrev EndsLow : End → RunWorld → Type 0
EndsLow end w = (status : ℕ) → end ≡ ending.Halted status → status ≡ status_of w.0

turned-low : (n pc : ℕ) (a : TurnAnswer) (w v : RunWorld) → AnswersLow w a v → OnOr (AnyWay n) EndsLow (end_of_turn no_flags pc a) v
turned-low n pc (answers.Went trace) w v h = subst (λ (r : Result (Unit {0}) End). OnOr (AnyWay n) EndsLow r v) (sym (trace-free trace)) tt
turned-low n pc (answers.Halted status) w v h = λ other e. h other (let same : status ≡ other = cc in ap answers.Halted same)
turned-low n pc (answers.Stopped reason) w v h = λ status e. absurd (cc)
turned-low n pc answers.OutOfMemory w v h = λ status e. absurd (cc)

answer-low : (s : State) (m : HostModel) (t : Turn) → TurnIsLow t → AnswersLow (s, m) (turn_answer t).0 ((turn_answer t).1, (turn_answer t).2)
answer-low s m (went_on u k trace) h = λ status e. absurd (cc)
answer-low s m (halts b u k) h = λ status e. let same : b ≡ status = cc in sym same ∙ h
answer-low s m (stops reason u k) h = λ status e. absurd (cc)

leads-low : LeadsTo no_flags AnswersLow AnyWay EndsLow
leads-low = record { spent = λ w g status e. absurd (cc); broken = λ n w x g status e. absurd (cc); turned = λ n a w v g h. turned-low n w.0.pc a w v h }

run-low : (kind : MachineKind) (n : ℕ) (s : State) (m : HostModel) → EndsSo EndsLow (run_by kind n no_flags false s m)
run-low kind n s m = run-ends-so kind no_flags AnswersLow AnyWay EndsLow leads-low (λ t k tame. answer-low t k (turn t k) (turn-low t k)) n false s m tt

pub halts-low : (kind : MachineKind) (steps status : ℕ) (s left : State) (m after : HostModel) → run_by kind steps no_flags false s m ≡ ends (ending.Halted status) (left, after) → status ≡ register left.stack 255 % 2 ^ 8
halts-low kind steps status s left m after h = subst (EndsSo EndsLow) h (run-low kind steps s m) status refl
