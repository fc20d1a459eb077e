-- Steps of a run one after another, of the machine over a window and of that over the list that it represents.
use Rattle.std.proofs.Common.{◌≡◌, ◌≢◌, ℕ, suc, ◌+◌, ◌-◌, ◌/◌, ◌<◌, ◌≤◌, Bool, true, false, cond, List, [], None, Ok, Err, arith, refl, sym, subst, ◌∙◌, ap}
use Rattle.std.specs.Prelude.{Result, ◌&&◌, not}
use Rattle.mx_word.specs.Lists.{IsFront}
use Rattle.mx_word.proofs.Fronts.{front-through}
use Rattle.mx_host.specs.HostModel.{HostModel}
use Rattle.mx_plan.specs.Plan.{Comes, returns, bind, end_of}
use Rattle.mx_plan.specs.Wild.{Course, ends, meets_wild, then_on, course, GoesAs, GoesOn, alike}
use Rattle.mx_plan.specs.Wild as wild
use Rattle.mx_plan.proofs.BothWorlds.{begun-both, rest-both, done-both, whole-both}
use Rattle.mx_core.specs.Bounds.{as_list_state}
use Rattle.mx_core.specs.State.{State}
use Rattle.mx_run.specs.Clauses.{GoesAsList, TurnGoesAsList}
use Rattle.mx_run.specs.FlagMaps.{flags_at}
use Rattle.mx_run.specs.RunCourses.{as_list_world, IsUntouched, WritesOn, RunsBoth, RestsBoth}
use Rattle.mx_run.specs.RunPlans.{RunWorld, RunPlan, running, look, turn_plan, ended_turn, step_plan, run_next, run_plan, end_of_turn}
use Rattle.mx_run.specs.Runs.{FlagsOf, Ended, ended, no_flags}
use Rattle.mx_run.specs.Turns.{Answered, turn, turn_answer}
use Rattle.mx_run.specs.WildRuns.{list_machine, turn_is_wild, run_goes, run_by}
use Rattle.mx_run.specs.declared.end.BreakKind.TheVariants.{Execute}
use Rattle.mx_run.specs.declared.end.End.{End}
use Rattle.mx_run.specs.declared.end.End.TheVariants.{Broke, Spent, OutOfMemory}
use Rattle.mx_run.specs.declared.flags.Flags.{Flags}
use Rattle.mx_run.specs.declared.turn_answer.TurnAnswer.{TurnAnswer}
use Rattle.mx_run.proofs.ListTurns.{TurnWindow, wild-listed}
use Rattle.mx_run.proofs.ListSteps.{turn-listed-so}
use Rattle.mx_run.proofs.Outputs.{step-front}
use Rattle.mx_run.proofs.FreeTurns.{by-wild}
use Rattle.mx_run.proofs.PlanEnds.{turn_ended, step_by_break, run_step, step-answer, left-after, free-plan}

-- ---- one step

-- a course over the list machine, beside what the window's machine answered and left
abbrev pub AsList : {A : Type 0} → Course A RunWorld → Answered A → Type 0
AsList c a = GoesAs as_list_world IsUntouched WritesOn c a.0 (a.1, a.2)

turned : (f : FlagsOf) (pc : ℕ) (s : State) (m : HostModel) (c : Bool) (r : Answered TurnAnswer) → TurnGoesAsList c (as_list_state s) m r →
    AsList (then_on (λ a v. ends (end_of_turn f pc a) v)
    (cond c (meets_wild (as_list_state s, m)) (ends (turn_answer (turn (as_list_state s) m)).0 ((turn_answer (turn (as_list_state s) m)).1, (turn_answer (turn (as_list_state s) m)).2)))) (turn_ended f pc r)
turned f pc s m true r g = g
turned f pc s m false r g =
    (ap (λ (a : Answered TurnAnswer). end_of_turn f pc a.0) (sym g.0), (ap (λ (a : Answered TurnAnswer). (a.1, a.2)) (sym g.0), g.1))

by-break : (f : FlagsOf) (s : State) (m : HostModel) (b : Bool) → TurnWindow s → s.touched ≡ false →
    AsList (course (run_goes list_machine) (cond b (returns (Err (Broke Execute s.pc None))) (ended_turn f s.pc)) (as_list_world (s, m))) (step_by_break b f s m)
unfolding course ended_turn turn_plan bind running
by-break f s m true w u = (refl, (refl, u))
by-break f s m false w u = turned f s.pc s m (turn_is_wild (as_list_state s)) (turn_answer (turn s m)) (turn-listed-so s m w u)

step-listed : (f : FlagsOf) (pass : Bool) (s : State) (m : HostModel) → TurnWindow s → s.touched ≡ false →
    AsList (course (run_goes list_machine) (step_plan f pass) (as_list_world (s, m))) (run_step f pass s m)
unfolding course step_plan look bind running run_step
step-listed f pass s m w u = by-break f s m ((f (s.pc / 4)).x && not pass) w u

-- what the code knows of a step, of a machine over a window, is what is asked of it over both
pub step-both : (f : FlagsOf) (pass : Bool) (s t : State) (m k : HostModel) (r : Result (Unit {0}) End) → TurnWindow s → Comes running (s, m) (t, k) (Err OutOfMemory) r (step_plan f pass) →
    RunsBoth (s, m) (t, k) (Err OutOfMemory) r (step_plan f pass)
step-both f pass s t m k r w c = record {
  window = c;
  list = λ u ne.
      subst (AsList (course (run_goes list_machine) (step_plan f pass) (as_list_world (s, m)))) (sym (step-answer f pass s t m k r (c.ending ne))) (step-listed f pass s m w u);
}

-- a step adds to standard output, so what something wild was passed before stays so
step-writes : (f : FlagsOf) (pass : Bool) (s t : State) (m k : HostModel) (r : Result (Unit {0}) End) → r ≢ Err OutOfMemory → Comes running (s, m) (t, k) (Err OutOfMemory) r (step_plan f pass) →
    (v : RunWorld) → WritesOn v (s, m) → WritesOn v (t, k)
step-writes f pass s t m k r ne c v h =
    front-through v.1.output m.output k.output h
    (subst (λ (a : Answered (Result (Unit {0}) End)). IsFront m.output a.2.output) (sym (step-answer f pass s t m k r (c.ending ne))) (step-front f pass s m))

-- ---- a run

pub went-both : (n : ℕ) (f : FlagsOf) (pass : Bool) (u : Unit {0}) (s t : State) (m k : HostModel) (start : RunWorld) (whole : RunPlan End) → TurnWindow s →
    Comes running (s, m) (t, k) (Err OutOfMemory) (Ok u) (step_plan f pass) → RestsBoth (run_plan (suc n) f pass) (s, m) whole start → RestsBoth (run_plan n f false) (t, k) whole start
unfolding run_plan
went-both n f pass u s t m k start whole w c r =
    rest-both running (run_goes list_machine) as_list_world IsUntouched WritesOn (run_next (run_plan n f false)) (step_plan f pass) (Ok u) (Err OutOfMemory) (s, m) (t, k) start whole (λ e. absurd (cc))
    (step-writes f pass s t m k (Ok u) (λ e. absurd (cc)) c) (step-both f pass s t m k (Ok u) w c) r

pub ended-both : (n : ℕ) (f : FlagsOf) (pass : Bool) (end : End) (s t : State) (m k : HostModel) (start : RunWorld) (whole : RunPlan End) → TurnWindow s →
    Comes running (s, m) (t, k) (Err OutOfMemory) (Err end) (step_plan f pass) → RestsBoth (run_plan (suc n) f pass) (s, m) whole start → RunsBoth start (t, k) OutOfMemory end whole
unfolding run_plan
ended-both n f pass end s t m k start whole w c r =
    done-both running (run_goes list_machine) as_list_world IsUntouched WritesOn (run_next (run_plan n f false)) (step_plan f pass) (Err end) (Err OutOfMemory) OutOfMemory end (s, m) (t, k) start whole refl
    (λ ne e. ne (cc)) (ap Err) (λ some. step-writes f pass s t m k (Err end) some c) (step-both f pass s t m k (Err end) w c) r

none-done : (w : RunWorld) → RunsBoth w w OutOfMemory Spent (returns Spent)
unfolding course end_of
none-done w = record { window = record { ending = λ ne. refl; stopping = λ e. absurd (cc) }; list = λ u ne. (refl, (refl, u)) }

pub spent-both : (f : FlagsOf) (pass : Bool) (w start : RunWorld) (whole : RunPlan End) → RestsBoth (run_plan 0 f pass) w whole start → RunsBoth start w OutOfMemory Spent whole
unfolding run_plan
spent-both f pass w start whole r =
    whole-both running (run_goes list_machine) as_list_world IsUntouched WritesOn (returns Spent) whole OutOfMemory Spent w w start (λ v h. h) (none-done w) r

-- ---- after this many of n steps

pub rest-begun-both : (n : ℕ) (f : FlagsOf) (pass : Bool) (w : RunWorld) → RestsBoth (run_plan (n - 0) f pass) w (run_plan n f pass) w
rest-begun-both n f pass w = let all : n - 0 ≡ n = omega arith in rw all (begun-both running (run_goes list_machine) as_list_world IsUntouched WritesOn (run_plan n f pass) w)

pub rest-went-both : (n i : ℕ) (f : FlagsOf) (pass : Bool) (u : Unit {0}) (s t : State) (m k : HostModel) (start : RunWorld) (whole : RunPlan End) → i < n → TurnWindow s →
    Comes running (s, m) (t, k) (Err OutOfMemory) (Ok u) (step_plan f pass) → RestsBoth (run_plan (n - i) f pass) (s, m) whole start → RestsBoth (run_plan (n - (i + 1)) f false) (t, k) whole start
rest-went-both n i f pass u s t m k start whole l w c r =
    went-both (n - (i + 1)) f pass u s t m k start whole w c (subst (λ j. RestsBoth (run_plan j f pass) (s, m) whole start) (left-after n i l) r)

pub rest-ended-both : (n i : ℕ) (f : FlagsOf) (pass : Bool) (end : End) (s t : State) (m k : HostModel) (start : RunWorld) (whole : RunPlan End) → i < n → TurnWindow s →
    Comes running (s, m) (t, k) (Err OutOfMemory) (Err end) (step_plan f pass) → RestsBoth (run_plan (n - i) f pass) (s, m) whole start → RunsBoth start (t, k) OutOfMemory end whole
rest-ended-both n i f pass end s t m k start whole l w c r =
    ended-both (n - (i + 1)) f pass end s t m k start whole w c (subst (λ j. RestsBoth (run_plan j f pass) (s, m) whole start) (left-after n i l) r)

pub rest-spent-both : (n i : ℕ) (f : FlagsOf) (pass : Bool) (w start : RunWorld) (whole : RunPlan End) → n ≤ i → RestsBoth (run_plan (n - i) f pass) w whole start → RunsBoth start w OutOfMemory Spent whole
rest-spent-both n i f pass w start whole l r =
    let none : n - i ≡ 0 = omega arith in spent-both f pass w start whole (subst (λ j. RestsBoth (run_plan j f pass) w whole start) none r)

-- ---- without flags the first step goes as the others

pub free-both : (n : ℕ) (entries : List (ℕ × Flags)) (pass : Bool) (v w : RunWorld) (end : End) → entries ≡ [] → RunsBoth v w OutOfMemory end (run_plan n (flags_at entries) true) →
    RunsBoth v w OutOfMemory end (run_plan n (flags_at entries) pass)
free-both n entries pass v w end h c = subst (λ p. RunsBoth v w OutOfMemory end p) (sym (free-plan n entries pass h)) c

pub rest-freely-both : (n : ℕ) (entries : List (ℕ × Flags)) (pass : Bool) (v start : RunWorld) (whole : RunPlan End) → entries ≡ [] → RestsBoth (run_plan n (flags_at entries) pass) v whole start →
    RestsBoth (run_plan n (flags_at entries) true) v whole start
rest-freely-both n entries pass v start whole h r = subst (λ p. RestsBoth p v whole start) (free-plan n entries pass h) r

-- ---- as a whole

-- a run beside that of the list machine
pub run-listed : (n : ℕ) (f : FlagsOf) (pass : Bool) (s t : State) (m k : HostModel) (r : End) → RunsBoth (s, m) (t, k) OutOfMemory r (run_plan n f pass) → r ≢ OutOfMemory → s.touched ≡ false →
    GoesAsList (run_by list_machine n f pass (as_list_state s) m) r (t, k)
unfolding run_by
run-listed n f pass s t m k r c ne u = c.list u ne

-- ---- where it meets something wild

-- the run of the list machine, as a whole and from a state on: nothing was touched, and the rest goes on from the list that the state
-- represents; or something wild was met
pub data Beside (whole rest : Course End RunWorld) (s : State) : Type 0 where
  as_list : s.touched ≡ false → whole ≡ rest → Beside whole rest s
  was_wild : (w : RunWorld) → whole ≡ meets_wild w → Beside whole rest s

pub rest-listed : (n left : ℕ) (f : FlagsOf) (pass first : Bool) (s t : State) (m k : HostModel) → RestsBoth (run_plan left f first) (t, k) (run_plan n f pass) (s, m) → s.touched ≡ false →
    Beside (run_by list_machine n f pass (as_list_state s) m) (run_by list_machine left f first (as_list_state t) k) t
unfolding run_by
rest-listed n left f pass first s t m k r u = by (r.list u)
  where
    by : GoesOn as_list_world IsUntouched WritesOn (course (run_goes list_machine) (run_plan n f pass) (as_list_world (s, m))) (course (run_goes list_machine) (run_plan left f first) (as_list_world (t, k))) (t, k) →
        Beside (course (run_goes list_machine) (run_plan n f pass) (as_list_world (s, m))) (course (run_goes list_machine) (run_plan left f first) (as_list_world (t, k))) t
    by (alike a e) = as_list a e
    by (wild.was_wild v e h) = was_wild v e

pub meets-wild : (n i : ℕ) (s : State) (m : HostModel) → i < n → TurnWindow s → s.touched ≡ false → turn_is_wild s ≡ true → run_by list_machine (n - i) no_flags false (as_list_state s) m ≡ meets_wild (as_list_state s, m)
meets-wild n i s m l h u e =
    ap (λ j. run_by list_machine j no_flags false (as_list_state s) m) (left-after n i l) ∙ by-wild list_machine (n - (i + 1)) (as_list_state s) m (wild-listed s h.window h.machine u ∙ e)
