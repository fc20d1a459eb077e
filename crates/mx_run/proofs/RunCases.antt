-- What is known of the end of a run, by what is known of its turns.
use Rattle.std.proofs.Common.{◌≡◌, ◌≢◌, ℕ, zero, suc, ◌/◌, Bool, true, false, cond, None, Ok, Err, refl}
use Rattle.std.specs.Prelude.{Result, ◌&&◌, not}
use Rattle.std.proofs.lemmas.Bool.{and_parts}
use Rattle.mx_host.specs.HostModel.{HostModel}
use Rattle.mx_plan.specs.Plan.{returns, bind}
use Rattle.mx_plan.specs.Wild.{ends, meets_wild, course}
use Rattle.mx_plan.proofs.Giving.{Knows}
use Rattle.mx_plan.proofs.WildLaws.{EndsSo, course_knows}
use Rattle.mx_core.specs.State.{State}
use Rattle.mx_run.specs.RunPlans.{RunCall, turning, looking, RunSays, RunPlan, RunWorld, running, look, turn_plan, ended_turn, step_plan, run_next, run_plan, end_of_turn}
use Rattle.mx_run.specs.Runs.{FlagsOf}
use Rattle.mx_run.specs.Turns.{Turn, went_on, halts, stops, turn, turn_answer}
use Rattle.mx_run.specs.WildRuns.{MachineKind, ends_wild, run_goes, run_by}
use Rattle.mx_run.specs.declared.end.BreakKind.TheVariants.{Execute}
use Rattle.mx_run.specs.declared.end.End.{End}
use Rattle.mx_run.specs.declared.end.End.TheVariants.{Broke, Spent}
use Rattle.mx_run.specs.declared.turn_answer.TurnAnswer.{TurnAnswer}
use Rattle.mx_run.specs.declared.turn_answer.TurnAnswer.TheVariants as answer

-- what is known of a turn: of the world before it, its answer and the world that it leaves
abbrev pub OfTurn : Type 1
OfTurn = RunWorld → TurnAnswer → RunWorld → Type 0

abbrev pub OfCall : OfTurn → (o : RunCall) → RunWorld → RunSays o → RunWorld → Type 0
OfCall May turning w a v = May w a v
OfCall May looking w pc v = (pc ≡ w.0.pc) × (v ≡ w)

-- a step goes on, or the run ends with it
abbrev pub OnOr : (RunWorld → Type 0) → (End → RunWorld → Type 0) → Result (Unit {0}) End → RunWorld → Type 0
OnOr On Such (Ok u) w = On w
OnOr On Such (Err end) w = Such end w

-- With n steps left a world is on the way: where none is, or the run breaks before the next one, the end is such a one; and after a
-- turn it is such a one, or one step less is left.
pub record LeadsTo (f : FlagsOf) (May : OfTurn) (Way : ℕ → RunWorld → Type 0) (Such : End → RunWorld → Type 0) : Type 0 where
  pub spent : (w : RunWorld) → Way 0 w → Such Spent w
  pub broken : (n : ℕ) (w : RunWorld) → (f (w.0.pc / 4)).x ≡ true → Way (suc n) w → Such (Broke Execute w.0.pc None) w
  pub turned : (n : ℕ) (a : TurnAnswer) (w v : RunWorld) → Way (suc n) w → May w a v → OnOr (Way n) Such (end_of_turn f w.0.pc a) v

module _ (f : FlagsOf) (May : OfTurn) (Way : ℕ → RunWorld → Type 0) (Such : End → RunWorld → Type 0) (h : LeadsTo f May Way Such) where
  abbrev KnowsRun : RunPlan End → RunWorld → Type 0
  KnowsRun p w = Knows (OfCall May) Such p w

  next-known : (n : ℕ) (r : Result (Unit {0}) End) (v : RunWorld) → ((w : RunWorld) → Way n w → KnowsRun (run_plan n f false) w) → OnOr (Way n) Such r v → KnowsRun (run_next (run_plan n f false) r) v
  unfolding Knows
  next-known n (Ok u) v more g = more v g
  next-known n (Err end) v more g = g

  step-known : (n : ℕ) (b : Bool) (w : RunWorld) → (b ≡ true → (f (w.0.pc / 4)).x ≡ true) → ((v : RunWorld) → Way n v → KnowsRun (run_plan n f false) v) → Way (suc n) w →
      KnowsRun (bind (run_next (run_plan n f false)) (cond b (returns (Err (Broke Execute w.0.pc None))) (ended_turn f w.0.pc))) w
  unfolding Knows bind ended_turn turn_plan
  step-known n true w e more g = h.broken n w (e refl) g
  step-known n false w e more g = λ a v m. next-known n (end_of_turn f w.0.pc a) v more (h.turned n a w v g m)

  pub run-known : (n : ℕ) (pass : Bool) (w : RunWorld) → Way n w → KnowsRun (run_plan n f pass) w
  unfolding Knows bind run_plan step_plan look
  run-known zero pass w g = h.spent w g
  run-known (suc n) pass w g = λ pc v at.
      rw (at.0, at.1) (step-known n ((f (w.0.pc / 4)).x && not pass) w (λ e. (and_parts _ _ e).0) (λ x k. run-known n false x k) g)

-- on the way, where nothing is known
abbrev pub AnyWay : ℕ → RunWorld → Type 0
AnyWay n w = Unit {0}

-- a turn, by its definition, does not lack memory
abbrev pub HasMemory : OfTurn
HasMemory w a v = a ≢ answer.OutOfMemory

pub has-memory : (t : Turn) → (turn_answer t).0 ≢ answer.OutOfMemory
has-memory (went_on s m trace) = λ e. absurd (cc)
has-memory (halts status s m) = λ e. absurd (cc)
has-memory (stops reason s m) = λ e. absurd (cc)

-- ---- runs

pub run-ends-so : (kind : MachineKind) (f : FlagsOf) (May : OfTurn) (Way : ℕ → RunWorld → Type 0) (Such : End → RunWorld → Type 0) → LeadsTo f May Way Such →
    ((s : State) (m : HostModel) → ends_wild kind s ≡ false → May (s, m) (turn_answer (turn s m)).0 ((turn_answer (turn s m)).1, (turn_answer (turn s m)).2)) →
    (n : ℕ) (pass : Bool) (s : State) (m : HostModel) → Way n (s, m) → EndsSo Such (run_by kind n f pass s m)
unfolding run_by running
run-ends-so kind f May Way Such h may n pass s m g =
    course_knows (run_goes kind) (OfCall May) Such calls-so (run_plan n f pass) (s, m) (run-known f May Way Such h n pass (s, m) g)
  where
    by : (w : RunWorld) (b : Bool) → ends_wild kind w.0 ≡ b → EndsSo (May w) (cond b (meets_wild w) (ends (turn_answer (turn w.0 w.1)).0 ((turn_answer (turn w.0 w.1)).1, (turn_answer (turn w.0 w.1)).2)))
    by w true e = tt
    by w false e = may w.0 w.1 e

    calls-so : (o : RunCall) (w : RunWorld) → EndsSo (OfCall May o w) (run_goes kind o w)
    calls-so turning w = by w (ends_wild kind w.0) refl
    calls-so looking w = (refl, refl)
