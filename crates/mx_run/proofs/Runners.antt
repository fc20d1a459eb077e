-- What a runner's clauses say, from the plans that it carries out.
use Rattle.std.proofs.Common.{◌≡◌, ◌≢◌, ℕ, ◌+◌, ◌-◌, ◌<◌, suc, Bool, IsTrue, Ok, Err, arith, refl, subst, ◌∙◌, ap}
use Rattle.std.specs.Prelude.{Option, Result}
use Rattle.mx_word.specs.Lists.{IsFront}
use Rattle.mx_host.specs.HostModel.{HostModel, tells, contents}
use Rattle.mx_host.specs.Keeping.{Keeps}
use Rattle.mx_plan.specs.Clauses.{KeepsHost}
use Rattle.mx_plan.specs.Held.{KeepsStreams}
use Rattle.mx_plan.specs.Plan.{Comes}
use Rattle.mx_core.specs.State.{State}
use Rattle.mx_run.specs.Clauses.{IsRunBetween, IsTurnBetween}
use Rattle.mx_run.specs.RunCourses.{CarriesOutOnBothMachines}
use Rattle.mx_run.specs.RunPlans.{RunPlan, RunWorld, running, turn_plan, run_plan, SparesMemory, SparesAfter, SparesStep}
use Rattle.mx_run.specs.Runs.{FlagsOf, IsLater, ended, run}
use Rattle.mx_run.specs.Turns.{turn_answer, turn}
use Rattle.mx_run.specs.WildRuns.{HasWindow}
use Rattle.mx_run.specs.declared.end.End.{End}
use Rattle.mx_run.specs.declared.end.End.TheVariants as end
use Rattle.mx_run.specs.declared.turn_answer.TurnAnswer.{TurnAnswer}
use Rattle.mx_run.specs.declared.turn_answer.TurnAnswer.TheVariants as answer
use Rattle.mx_run.proofs.HeldRuns.{streams-end, streams-stop, output-front}
use Rattle.mx_run.proofs.ListSteps.{turn-goes}
use Rattle.mx_run.proofs.PlanEnds.{left-after, turn-end, run-end}
use Rattle.mx_run.proofs.RunBoth.{run-listed}

-- ---- what is kept

ended-streams : {A : Type 0} (v w : RunWorld) (none r : A) (p : RunPlan A) → Comes running v w none r p → r ≢ none → KeepsStreams v.1 w.1
ended-streams {A} v w none r p c ne = rw (ap (λ (t : A × RunWorld). t.1.1) (c.ending ne)) (streams-end p v)

turn-streams : (v w : RunWorld) (r : TurnAnswer) (p : RunPlan TurnAnswer) → Comes running v w answer.OutOfMemory r p → KeepsStreams v.1 w.1
turn-streams v w (answer.Went trace) p c = ended-streams v w _ _ p c (λ e. absurd (cc))
turn-streams v w (answer.Halted status) p c = ended-streams v w _ _ p c (λ e. absurd (cc))
turn-streams v w (answer.Stopped reason) p c = ended-streams v w _ _ p c (λ e. absurd (cc))
turn-streams v w answer.OutOfMemory p c = streams-stop p w v (c.stopping refl)

pub run-streams : (v w : RunWorld) (r : End) (p : RunPlan End) → Comes running v w end.OutOfMemory r p → KeepsStreams v.1 w.1
run-streams v w (end.Halted status) p c = ended-streams v w _ _ p c (λ e. absurd (cc))
run-streams v w (end.Stopped pc reason) p c = ended-streams v w _ _ p c (λ e. absurd (cc))
run-streams v w (end.Broke kind at traced) p c = ended-streams v w _ _ p c (λ e. absurd (cc))
run-streams v w (end.Traced trace) p c = ended-streams v w _ _ p c (λ e. absurd (cc))
run-streams v w end.Spent p c = ended-streams v w _ _ p c (λ e. absurd (cc))
run-streams v w end.OutOfMemory p c = streams-stop p w v (c.stopping refl)

pub keeps-by : (old new : Option HostModel) (earlier later : ℕ) → KeepsHost old new earlier later → (IsTrue (tells old) → KeepsStreams (contents old) (contents new)) → Keeps old new earlier later
keeps-by old new earlier later h k = record {
  telling = h.0;
  counting = h.1;
  input = λ t. (k t).input;
  output = λ t. (k t).output;
  errors = λ t. (k t).errors;
  growing = λ t. (k t).growing;
}

pub turn-keeps : (old new : Option HostModel) (earlier later : ℕ) (s u : State) (r : TurnAnswer) (p : RunPlan TurnAnswer) →
    (IsTrue (tells old) → Comes running (s, contents old) (u, contents new) answer.OutOfMemory r p) → KeepsHost old new earlier later → Keeps old new earlier later
turn-keeps old new earlier later s u r p c h = keeps-by old new earlier later h (λ t. turn-streams (s, contents old) (u, contents new) r p (c t))

pub run-keeps : (old new : Option HostModel) (earlier later : ℕ) (s u : State) (r : End) (p : RunPlan End) →
    (IsTrue (tells old) → Comes running (s, contents old) (u, contents new) end.OutOfMemory r p) → KeepsHost old new earlier later → Keeps old new earlier later
run-keeps old new earlier later s u r p c h = keeps-by old new earlier later h (λ t. run-streams (s, contents old) (u, contents new) r p (c t))

-- ---- a turn

pub turn-told : (s t : State) (m n : HostModel) (r : TurnAnswer) → Comes running (s, m) (t, n) answer.OutOfMemory r turn_plan → r ≢ answer.OutOfMemory → (r, t, n) ≡ turn_answer (turn s m)
turn-told s t m n r c ne = ap (λ (p : TurnAnswer × RunWorld). (p.0, p.1.0, p.1.1)) (c.ending ne ∙ turn-end s m)

pub turn-begun : (s t : State) (m n : HostModel) (r : TurnAnswer) → Comes running (s, m) (t, n) answer.OutOfMemory r turn_plan → r ≡ answer.OutOfMemory → IsFront n.output (turn_answer (turn s m)).2.output
turn-begun s t m n r c e = subst (λ (p : TurnAnswer × RunWorld). IsFront n.output p.1.1.output) (turn-end s m) (output-front turn_plan (t, n) (s, m) (c.stopping e))

-- what holds of a turn by its plan
pub turn-is : (old new : Option HostModel) (earlier later : ℕ) (s u : State) (r : TurnAnswer) → HasWindow s → (IsTrue (tells old) → Comes running (s, contents old) (u, contents new) answer.OutOfMemory r turn_plan) →
    IsLater 1 s u → KeepsHost old new earlier later → IsTurnBetween old new earlier later s u r
turn-is old new earlier later s u r w c b h = record {
  plan = c;
  told = λ t ne. turn-told s u _ _ r (c t) ne;
  front = λ t e. turn-begun s u _ _ r (c t) e;
  listed = λ t ne k. turn-goes s u _ _ r w (turn-told s u _ _ r (c t) ne) k;
  bound = b;
  keeps = turn-keeps old new earlier later s u r turn_plan c h;
}

pub turn-spared : (n : ℕ) (r : TurnAnswer) (t : State) → SparesAfter n r t → r ≢ answer.OutOfMemory
turn-spared n r t h e = subst (λ a. SparesAfter n a t) e h

pub ruleset turns = (turn-spared)

-- ---- a run

pub run-told : (n : ℕ) (f : FlagsOf) (pass : Bool) (s t : State) (m k : HostModel) (r : End) → Comes running (s, m) (t, k) end.OutOfMemory r (run_plan n f pass) → r ≢ end.OutOfMemory →
    ended r t k ≡ run n f pass s m
run-told n f pass s t m k r c ne = ap (λ (p : End × RunWorld). ended p.0 p.1.0 p.1.1) (c.ending ne ∙ run-end n f pass s m)

pub run-begun : (n : ℕ) (f : FlagsOf) (pass : Bool) (s t : State) (m k : HostModel) (r : End) → Comes running (s, m) (t, k) end.OutOfMemory r (run_plan n f pass) → r ≡ end.OutOfMemory →
    IsFront k.output (run n f pass s m).host.output
run-begun n f pass s t m k r c e = subst (λ (p : End × RunWorld). IsFront k.output p.1.1.output) (run-end n f pass s m) (output-front (run_plan n f pass) (t, k) (s, m) (c.stopping e))

-- what holds of a run by its plan over both machines
pub run-is : (old new : Option HostModel) (earlier later n : ℕ) (f : FlagsOf) (pass : Bool) (s u : State) (r : End) → CarriesOutOnBothMachines old new s u end.OutOfMemory r (run_plan n f pass) →
    IsLater n s u → KeepsHost old new earlier later → IsRunBetween old new earlier later s u n f pass r
run-is old new earlier later n f pass s u r c b h = record {
  told = λ t ne. run-told n f pass s u _ _ r (c t).window ne;
  front = λ t e. run-begun n f pass s u _ _ r (c t).window e;
  listed = λ t ne k. run-listed n f pass s u _ _ r (c t) ne k;
  bound = b;
  keeps = run-keeps old new earlier later s u r (run_plan n f pass) (λ t. (c t).window) h;
}

-- ---- where memory runs out, for the loops

pub spares-begun : (n : ℕ) (s : State) → SparesMemory n s → SparesMemory (n - 0) s
spares-begun n s h = let all : n - 0 ≡ n = omega arith in rw all h

abbrev pub Spares : Result (Unit {0}) End → State → State → Type 0
Spares r s t = (n : ℕ) → SparesMemory (suc n) s → SparesStep n r t

pub spares-went : (n i : ℕ) (s t : State) (u : Unit {0}) → i < n → Spares (Ok u) s t → SparesMemory (n - i) s → SparesMemory (n - (i + 1)) t
spares-went n i s t u l g h = g (n - (i + 1)) (subst (λ k. SparesMemory k s) (left-after n i l) h)

pub spares-ended : (n i : ℕ) (s t : State) (e : End) → i < n → Spares (Err e) s t → SparesMemory (n - i) s → e ≢ end.OutOfMemory
spares-ended n i s t e l g h o = subst (λ (x : End). SparesStep (n - (i + 1)) (Err x) t) o (g (n - (i + 1)) (subst (λ k. SparesMemory k s) (left-after n i l) h))
