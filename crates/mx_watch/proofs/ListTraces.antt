-- The traces of the list machine, beside a run of the window machine.
use Rattle.std.proofs.Common.{◌≡◌, ◌≢◌, ◌<◌, ◌≤◌, ◌+◌, ◌-◌, ℕ, Bool, true, false, cond, List, [], ◌∷◌, Ok, Err, arith, refl, sym, ◌∙◌, ap}
use Rattle.std.specs.Prelude.{Result}
use Rattle.mx_host.specs.HostModel.{HostModel}
use Rattle.mx_plan.specs.Plan.{Comes}
use Rattle.mx_plan.specs.Wild.{Course, ends, meets_wild}
use Rattle.mx_core.specs.Bounds.{as_list_state}
use Rattle.mx_core.specs.State.{State}
use Rattle.mx_code.specs.declared.trace.Trace.{Trace}
use Rattle.mx_run.specs.RunPlans.{RunWorld, running, step_plan, end_of_turn}
use Rattle.mx_run.specs.Runs.{no_flags}
use Rattle.mx_run.specs.Turns.{Answered, turn_answer, Turn, went_on, halts, stops, turn}
use Rattle.mx_run.specs.WildRuns.{HasWindow, list_machine, run_by, turn_is_wild, as_list_turn}
use Rattle.mx_run.specs.declared.end.End.{End}
use Rattle.mx_run.specs.declared.end.End.TheVariants.{OutOfMemory}
use Rattle.mx_run.proofs.FreeTurns.{trace-free}
use Rattle.mx_run.proofs.ListSteps.{list-window}
use Rattle.mx_run.proofs.ListTurns.{TurnWindow, turn-listed-on, wild-listed}
use Rattle.mx_run.proofs.PlanEnds.{left-after, run_step, step-answer}
use Rattle.mx_run.proofs.RunBoth.{Beside, as_list, was_wild, meets-wild}
use Rattle.mx_watch.specs.Listening.{Listening, told, watched}
use Rattle.mx_watch.specs.Traces.{traces, traces_after}
use Rattle.mx_watch.specs.WatchedRuns.{UnlessWild}

-- a fact, unless the run of the list machine as a whole meets something wild
pub data OrWild (whole : Course End RunWorld) (P : Type 0) : Type 0 where
  holds : P → OrWild whole P
  wild : (w : RunWorld) → whole ≡ meets_wild w → OrWild whole P

pub unless-wild : (whole : Course End RunWorld) (P Q : Type 0) → (P → Q) → OrWild whole P → UnlessWild whole Q
unless-wild (ends end w) P Q f (holds p) = f p
unless-wild (ends end w) P Q f (wild v is) = absurd (cc)
unless-wild (meets_wild w) P Q f h = tt

-- ---- a turn

-- the traces of the list machine at a turn that is not wild
traces-on : (n i : ℕ) (s : State) (m : HostModel) → i < n → TurnWindow s → s.touched ≡ false → turn_is_wild s ≡ false →
    traces list_machine (n - i) (as_list_state s) m ≡ traces_after (traces list_machine (n - (i + 1))) (as_list_turn (turn s m))
unfolding traces
traces-on n i s m l h u e =
    let more = traces list_machine (n - (i + 1)) in
    rw (left-after n i l) (ap (λ c. cond c [] (traces_after more (turn (as_list_state s) m))) (wild-listed s h.window h.machine u ∙ e) ∙ ap (traces_after more) (turn-listed-on s m h u e))

-- ---- on the way

none-after : (more : State → HostModel → List Trace) (pc : ℕ) (x : Turn) (end : End) → Err end ≡ end_of_turn no_flags pc (turn_answer x).0 → traces_after more (as_list_turn x) ≡ []
none-after more pc (went_on s m trace) end e = let wrong : Err end ≡ Ok tt = e ∙ trace-free trace in absurd (cc)
none-after more pc (halts status s m) end e = refl
none-after more pc (stops reason s m) end e = refl

end-of-step : (s t : State) (m k : HostModel) (end : End) → (Err end, t, k) ≡ run_step no_flags false s m → Err end ≡ end_of_turn no_flags s.pc (turn_answer (turn s m)).0
unfolding run_step
end-of-step s t m k end e = ap (λ (a : Answered (Result (Unit {0}) End)). a.0) e

-- what something comes to that is told traces, one after another
module _ {L B : Type 0} (after : L → List Trace → B) where
  went-by : (n i : ℕ) (whole : Course End RunWorld) (s t : State) (m k : HostModel) (trace : Trace) (l next : L) (goal : B) (c : Bool) → turn_is_wild s ≡ c → i < n → TurnWindow s → s.touched ≡ false → turn s m ≡ went_on t k trace →
      ((ts : List Trace) → after next ts ≡ after l (trace ∷ ts)) → whole ≡ run_by list_machine (n - i) no_flags false (as_list_state s) m →
      after l (traces list_machine (n - i) (as_list_state s) m) ≡ goal → OrWild whole (after next (traces list_machine (n - (i + 1)) (as_list_state t) k) ≡ goal)
  went-by n i whole s t m k trace l next goal true e inside h u went is so heard = wild (as_list_state s, m) (so ∙ meets-wild n i s m inside h u e)
  went-by n i whole s t m k trace l next goal false e inside h u went is so heard =
      let more = traces list_machine (n - (i + 1)) in
      holds (is (more (as_list_state t) k) ∙ sym (ap (after l) (traces-on n i s m inside h u e ∙ ap (λ x. traces_after more (as_list_turn x)) went)) ∙ heard)

  went-beside : (n i : ℕ) (whole : Course End RunWorld) (s t : State) (m k : HostModel) (trace : Trace) (l next : L) (goal : B) → i < n → TurnWindow s → turn s m ≡ went_on t k trace → ((ts : List Trace) → after next ts ≡ after l (trace ∷ ts)) →
      Beside whole (run_by list_machine (n - i) no_flags false (as_list_state s) m) s → OrWild whole (after l (traces list_machine (n - i) (as_list_state s) m) ≡ goal) →
      OrWild whole (after next (traces list_machine (n - (i + 1)) (as_list_state t) k) ≡ goal)
  went-beside n i whole s t m k trace l next goal inside h went is (was_wild g e) w = wild g e
  went-beside n i whole s t m k trace l next goal inside h went is (as_list u e) (wild g x) = wild g x
  went-beside n i whole s t m k trace l next goal inside h went is (as_list u e) (holds p) = went-by n i whole s t m k trace l next goal (turn_is_wild s) refl inside h u went is e p

  pub went-with-list : (n i : ℕ) (whole : Course End RunWorld) (s t : State) (m k : HostModel) (trace : Trace) (l next : L) (goal : B) → i < n → HasWindow s → turn s m ≡ went_on t k trace → ((ts : List Trace) → after next ts ≡ after l (trace ∷ ts)) →
      Beside whole (run_by list_machine (n - i) no_flags false (as_list_state s) m) s → OrWild whole (after l (traces list_machine (n - i) (as_list_state s) m) ≡ goal) →
      OrWild whole (after next (traces list_machine (n - (i + 1)) (as_list_state t) k) ≡ goal)
  went-with-list n i whole s t m k trace l next goal inside h went is b w = went-beside n i whole s t m k trace l next goal inside (list-window s h) went is b w

  -- at the end
  ended-by : (n i : ℕ) (whole : Course End RunWorld) (s : State) (m : HostModel) (end : End) (l : L) (goal : B) (c : Bool) → turn_is_wild s ≡ c → i < n → TurnWindow s → s.touched ≡ false → Err end ≡ end_of_turn no_flags s.pc (turn_answer (turn s m)).0 →
      whole ≡ run_by list_machine (n - i) no_flags false (as_list_state s) m → after l (traces list_machine (n - i) (as_list_state s) m) ≡ goal → OrWild whole (after l [] ≡ goal)
  ended-by n i whole s m end l goal true e inside h u over so heard = wild (as_list_state s, m) (so ∙ meets-wild n i s m inside h u e)
  ended-by n i whole s m end l goal false e inside h u over so heard =
      holds (sym (ap (after l) (traces-on n i s m inside h u e ∙ none-after (traces list_machine (n - (i + 1))) s.pc (turn s m) end over)) ∙ heard)

  ended-beside : (n i : ℕ) (whole : Course End RunWorld) (s : State) (m : HostModel) (end : End) (l : L) (goal : B) → i < n → TurnWindow s → Err end ≡ end_of_turn no_flags s.pc (turn_answer (turn s m)).0 →
      Beside whole (run_by list_machine (n - i) no_flags false (as_list_state s) m) s → OrWild whole (after l (traces list_machine (n - i) (as_list_state s) m) ≡ goal) → OrWild whole (after l [] ≡ goal)
  ended-beside n i whole s m end l goal inside h over (was_wild g e) w = wild g e
  ended-beside n i whole s m end l goal inside h over (as_list u e) (wild g x) = wild g x
  ended-beside n i whole s m end l goal inside h over (as_list u e) (holds p) = ended-by n i whole s m end l goal (turn_is_wild s) refl inside h u over e p

  pub ended-with-list : (n i : ℕ) (whole : Course End RunWorld) (s t : State) (m k : HostModel) (end : End) (l : L) (goal : B) → i < n → HasWindow s → end ≢ OutOfMemory →
      Comes running (s, m) (t, k) (Err OutOfMemory) (Err end) (step_plan no_flags false) →
      Beside whole (run_by list_machine (n - i) no_flags false (as_list_state s) m) s → OrWild whole (after l (traces list_machine (n - i) (as_list_state s) m) ≡ goal) → OrWild whole (after l [] ≡ goal)
  ended-with-list n i whole s t m k end l goal inside h ne c b w =
      ended-beside n i whole s m end l goal inside (list-window s h) (end-of-step s t m k end (step-answer no_flags false s t m k (Err end) (c.ending (λ e. ne (cc))))) b w

  none-left : (n i : ℕ) (s : State) (m : HostModel) (l : L) → n ≤ i → after l (traces list_machine (n - i) s m) ≡ after l []
  unfolding traces
  none-left n i s m l end = let none : n - i ≡ 0 = omega arith in ap (λ j. after l (traces list_machine j s m)) none

  pub spent-with-list : (n i : ℕ) (whole : Course End RunWorld) (s : State) (m : HostModel) (l : L) (goal : B) → n ≤ i → OrWild whole (after l (traces list_machine (n - i) s m) ≡ goal) → OrWild whole (after l [] ≡ goal)
  spent-with-list n i whole s m l goal end (wild g x) = wild g x
  spent-with-list n i whole s m l goal end (holds p) = holds (sym (none-left n i s m l end) ∙ p)

  pub begun-with-list : (n : ℕ) (whole : Course End RunWorld) (s : State) (m : HostModel) (l : L) → OrWild whole (after l (traces list_machine (n - 0) s m) ≡ after l (traces list_machine n s m))
  begun-with-list n whole s m l = let all : n - 0 ≡ n = omega arith in rw all (holds refl)

-- ---- watchers

abbrev watched_after : Listening → List Trace → Listening
watched_after l ts = watched ts l

pub went-by-list : (n i : ℕ) (whole : Course End RunWorld) (s t : State) (m k : HostModel) (trace : Trace) (l next goal : Listening) → i < n → HasWindow s → turn s m ≡ went_on t k trace → next ≡ told trace l →
    Beside whole (run_by list_machine (n - i) no_flags false (as_list_state s) m) s → OrWild whole (watched (traces list_machine (n - i) (as_list_state s) m) l ≡ goal) →
    OrWild whole (watched (traces list_machine (n - (i + 1)) (as_list_state t) k) next ≡ goal)
unfolding watched
went-by-list n i whole s t m k trace l next goal inside h went is b w =
    went-with-list watched_after n i whole s t m k trace l next goal inside h went (λ ts. ap (watched ts) is) b w

pub ended-by-list : (n i : ℕ) (whole : Course End RunWorld) (s t : State) (m k : HostModel) (end : End) (l goal : Listening) → i < n → HasWindow s → end ≢ OutOfMemory →
    Comes running (s, m) (t, k) (Err OutOfMemory) (Err end) (step_plan no_flags false) →
    Beside whole (run_by list_machine (n - i) no_flags false (as_list_state s) m) s → OrWild whole (watched (traces list_machine (n - i) (as_list_state s) m) l ≡ goal) → OrWild whole (l ≡ goal)
unfolding watched
ended-by-list n i whole s t m k end l goal inside h ne c b w = ended-with-list watched_after n i whole s t m k end l goal inside h ne c b w

pub spent-by-list : (n i : ℕ) (whole : Course End RunWorld) (s : State) (m : HostModel) (l goal : Listening) → n ≤ i → OrWild whole (watched (traces list_machine (n - i) s m) l ≡ goal) → OrWild whole (l ≡ goal)
unfolding watched
spent-by-list n i whole s m l goal end w = spent-with-list watched_after n i whole s m l goal end w

pub begun-by-list : (n : ℕ) (whole : Course End RunWorld) (s : State) (m : HostModel) (l : Listening) → OrWild whole (watched (traces list_machine (n - 0) s m) l ≡ watched (traces list_machine n s m) l)
begun-by-list n whole s m l = begun-with-list watched_after n whole s m l
