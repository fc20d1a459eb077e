-- A run that something goes along with, after some of its steps and as a whole.
use Rattle.std.proofs.Common.{◌≡◌, ◌≢◌, ◌<◌, ◌≤◌, ◌+◌, ◌-◌, ℕ, false, IsTrue, Ok, Err, inl, inr, arith, refl, sym, subst, ◌∙◌, ap}
use Rattle.std.specs.Prelude.{Option, Result, ◌⊎◌}
use Rattle.mx_word.specs.Lists.{IsFront}
use Rattle.mx_host.specs.HostModel.{HostModel, tells, contents}
use Rattle.mx_plan.specs.Clauses.{KeepsHost}
use Rattle.mx_plan.specs.Held.{KeepsStreams}
use Rattle.mx_plan.specs.Plan.{Comes, Stops, end_of, end_after}
use Rattle.mx_plan.proofs.Plans.{end_bind}
use Rattle.mx_core.specs.Bounds.{as_list_state}
use Rattle.mx_core.specs.State.{State}
use Rattle.mx_run.specs.AccompaniedRuns.{AfterSteps, ComesAccompanied}
use Rattle.mx_run.specs.Clauses.{EndsAsList, GoesAsList, IsRunBetween}
use Rattle.mx_run.specs.RunCourses.{RunsBoth, RestsBoth}
use Rattle.mx_run.specs.RunPlans.{RunPlan, RunWorld, running, ended_world, run_next, run_plan, step_plan}
use Rattle.mx_run.specs.Runs.{Ended, IsLater, ended, ended_by, no_flags, run}
use Rattle.mx_run.specs.WildRuns.{HasWindow, list_machine, run_by}
use Rattle.mx_run.specs.declared.end.End.{End}
use Rattle.mx_run.specs.declared.end.End.TheVariants.{Halted, Stopped, Broke, Traced, Spent, OutOfMemory}
use Rattle.mx_run.proofs.FreeTurns.{run-from}
use Rattle.mx_run.proofs.HeldRuns.{streams-end, streams-stop}
use Rattle.mx_run.proofs.ListSteps.{list-window}
use Rattle.mx_run.proofs.Outputs.{run-front}
use Rattle.mx_run.proofs.PlanEnds.{run-end}
use Rattle.mx_run.proofs.RunBoth.{rest-went-both, rest-ended-both, rest-spent-both, run-listed}
use Rattle.mx_run.proofs.Runners.{run-told, run-begun, run-streams, keeps-by}

-- ---- after some of its steps: what is left of its plan, and what is made

abbrev pub Rest : ℕ → ℕ → RunWorld → RunWorld → Type 0
Rest n left now start = RestsBoth (run_plan left no_flags false) now (run_plan n no_flags false) start

abbrev pub Made : ℕ → RunWorld → RunWorld → Type 0
Made i now start = run i no_flags false start.0 start.1 ≡ ended Spent now.0 now.1

-- a step that goes on
abbrev pub GoesOn : Unit {0} → RunWorld → RunWorld → Type 0
GoesOn u v w = (Ok u, w) ≡ end_of running (step_plan no_flags false) v

pub went-rest : (n i : ℕ) (u : Unit {0}) (s t : State) (m k : HostModel) (start : RunWorld) → i < n → HasWindow s → GoesOn u (s, m) (t, k) → Rest n (n - i) (s, m) start → Rest n (n - (i + 1)) (t, k) start
went-rest n i u s t m k start l w e r =
    rest-went-both n i no_flags false u s t m k start (run_plan n no_flags false) l (list-window s w) (record { ending = λ ne. e; stopping = λ o. absurd (cc) }) r

one-made : (u : Unit {0}) (v w : RunWorld) → GoesOn u v w → Made 1 w v
unfolding run run_plan end_of
one-made u v w e =
    let more : Result (Unit {0}) End → RunPlan End = run_next (run_plan 0 no_flags false) in
    ap ended_by (end_bind running more (step_plan no_flags false) v ∙ ap (end_after running more) (sym e))

pub went-made : (i : ℕ) (u : Unit {0}) (v w start : RunWorld) → GoesOn u v w → Made i v start → Made (i + 1) w start
went-made i u v w start e h = run-from i 1 start.0 v.0 start.1 v.1 h ∙ one-made u v w e

-- ---- how it ends

abbrev pub Ends : ℕ → RunWorld → RunWorld → End → Type 0
Ends n start now r = RunsBoth start now OutOfMemory r (run_plan n no_flags false)

pub of-run : (n : ℕ) (v w : RunWorld) (r : End) → Comes running v w OutOfMemory r (run_plan n no_flags false) → ComesAccompanied n v w r
of-run n v w r c = record { ending = c.ending; stopping = λ o. inl (c.stopping o) }

pub ended-so : (n i : ℕ) (why : End) (s t : State) (m k : HostModel) (start : RunWorld) → i < n → HasWindow s → Rest n (n - i) (s, m) start →
    Comes running (s, m) (t, k) (Err OutOfMemory) (Err why) (step_plan no_flags false) → Ends n start (t, k) why
ended-so n i why s t m k start l w r c = rest-ended-both n i no_flags false why s t m k start (run_plan n no_flags false) l (list-window s w) c r

pub spent-so : (n i : ℕ) (w start : RunWorld) → n ≤ i → Rest n (n - i) w start → Ends n start w Spent
spent-so n i w start l r = rest-spent-both n i no_flags false w start (run_plan n no_flags false) l r

-- so beside the list machine, where what goes along has memory
pub ended-listed : (n i : ℕ) (why : End) (s t u : State) (m k h : HostModel) → i < n → HasWindow s → why ≢ OutOfMemory → (Err why, (t, k)) ≡ end_of running (step_plan no_flags false) (s, m) →
    Rest n (n - i) (s, m) (u, h) → u.touched ≡ false → GoesAsList (run_by list_machine n no_flags false (as_list_state u) h) why (t, k)
ended-listed n i why s t u m k h l w ne e r o =
    run-listed n no_flags false u t h k why (ended-so n i why s t m k (u, h) l w r (record { ending = λ x. e; stopping = λ x. absurd (ne (cc)) })) ne o

-- what goes along lacks memory
pub lacking-so : (n i : ℕ) (w start : RunWorld) → i ≤ n → Made i w start → ComesAccompanied n start w OutOfMemory
lacking-so n i w start l h = record { ending = λ ne. absurd (ne refl); stopping = λ o. inr (record { made = i; few = l; steps = h }) }

-- ---- what its clauses say

plain : (n : ℕ) (v w : RunWorld) (r : End) → ComesAccompanied n v w r → r ≢ OutOfMemory → Comes running v w OutOfMemory r (run_plan n no_flags false)
plain n v w r c ne = record { ending = c.ending; stopping = λ o. absurd (ne o) }

steps-front : (n : ℕ) (s t : State) (m k : HostModel) → AfterSteps n (s, m) (t, k) → IsFront k.output (run n no_flags false s m).host.output
steps-front n s t m k a =
    let all : a.made + (n - a.made) ≡ n = omega (arith, a.few) in
    subst (λ (e : Ended). IsFront k.output e.host.output)
    (sym (run-from a.made (n - a.made) s t m k a.steps) ∙ ap (λ j. run j no_flags false s m) all) (run-front (n - a.made) no_flags false t k)

stopped-front : (n : ℕ) (s t : State) (m k : HostModel) → Stops running (t, k) (run_plan n no_flags false) (s, m) ⊎ AfterSteps n (s, m) (t, k) → IsFront k.output (run n no_flags false s m).host.output
stopped-front n s t m k (inl h) = run-begun n no_flags false s t m k OutOfMemory (record { ending = λ ne. absurd (ne refl); stopping = λ o. h }) refl
stopped-front n s t m k (inr a) = steps-front n s t m k a

pub steps-streams : (n : ℕ) (v w : RunWorld) → AfterSteps n v w → KeepsStreams v.1 w.1
steps-streams n v w a =
    subst (λ (p : End × RunWorld). KeepsStreams v.1 p.1.1) (run-end a.made no_flags false v.0 v.1 ∙ ap ended_world a.steps) (streams-end (run_plan a.made no_flags false) v)

stopped-streams : (n : ℕ) (v w : RunWorld) → Stops running w (run_plan n no_flags false) v ⊎ AfterSteps n v w → KeepsStreams v.1 w.1
stopped-streams n v w (inl h) = streams-stop (run_plan n no_flags false) w v h
stopped-streams n v w (inr a) = steps-streams n v w a

all-streams : (n : ℕ) (v w : RunWorld) (r : End) → ComesAccompanied n v w r → KeepsStreams v.1 w.1
all-streams n v w (Halted status) c = run-streams v w _ _ (plain n v w _ c (λ e. absurd (cc)))
all-streams n v w (Stopped pc reason) c = run-streams v w _ _ (plain n v w _ c (λ e. absurd (cc)))
all-streams n v w (Broke kind at traced) c = run-streams v w _ _ (plain n v w _ c (λ e. absurd (cc)))
all-streams n v w (Traced trace) c = run-streams v w _ _ (plain n v w _ c (λ e. absurd (cc)))
all-streams n v w Spent c = run-streams v w _ _ (plain n v w _ c (λ e. absurd (cc)))
all-streams n v w OutOfMemory c = stopped-streams n v w (c.stopping refl)

pub accompanied-is : (old new : Option HostModel) (earlier later n : ℕ) (s t : State) (r : End) → (IsTrue (tells old) → ComesAccompanied n (s, contents old) (t, contents new) r) →
    EndsAsList old new s t r (λ u m. run_by list_machine n no_flags false u m) → IsLater n s t → KeepsHost old new earlier later → IsRunBetween old new earlier later s t n no_flags false r
accompanied-is old new earlier later n s t r c l b h = record {
  told = λ is ne. run-told n no_flags false s t _ _ r (plain n _ _ r (c is) ne) ne;
  front = λ is o. stopped-front n s t _ _ ((c is).stopping o);
  listed = l;
  bound = b;
  keeps = keeps-by old new earlier later h (λ is. all-streams n _ _ r (c is));
}
