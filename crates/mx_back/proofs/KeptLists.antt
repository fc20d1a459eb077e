-- A run whose last steps are kept, beside the list machine.
use Rattle.std.proofs.Common.{◌≡◌, ◌≢◌, ◌<◌, ◌≤◌, ◌+◌, ◌-◌, ℕ, zero, suc, Bool, true, false, List, [], ◌∷◌, take, Ok, Err, arith, refl, sym, ◌∙◌, ap, subst}
use Rattle.std.specs.Prelude.{Result, ◌||◌}
use Rattle.std.proofs.lemmas.List.{take-map}
use Rattle.mx_host.specs.HostModel.{HostModel}
use Rattle.mx_plan.specs.Wild.{Course, ends, meets_wild}
use Rattle.mx_core.specs.Bounds.{as_list_state, as_list_step}
use Rattle.mx_core.specs.State.{State}
use Rattle.mx_core.specs.Step.{Stepped, went, calls, stopped, step}
use Rattle.mx_core.specs.Wild.{is_wild}
use Rattle.mx_core.proofs.Same.Steps.{step-listed}
use Rattle.mx_run.specs.RunPlans.{RunWorld}
use Rattle.mx_run.specs.Runs.{no_flags}
use Rattle.mx_run.specs.Turns.{Answered, Turn, went_on, halts, stops, turn, turn_answer}
use Rattle.mx_run.specs.WildRuns.{HasWindow, list_machine, run_by, turn_is_wild, trap_touches, as_list_turn}
use Rattle.mx_run.specs.declared.end.End.{End}
use Rattle.mx_run.specs.declared.end.End.TheVariants as end
use Rattle.mx_run.proofs.FreeTurns.{trace-free}
use Rattle.mx_run.proofs.ListSteps.{list-window}
use Rattle.mx_run.proofs.ListTurns.{TurnWindow, turn-listed-on}
use Rattle.mx_run.proofs.PlanEnds.{left-after, run_step, turn_ended, step-answer}
use Rattle.mx_run.proofs.RunBoth.{Beside, as_list, was_wild, meets-wild}
use Rattle.mx_back.specs.History.{Turned, stepped, trapped, ended, kept_turn, states_kept}
use Rattle.mx_back.specs.KeptLists.{AreBeside, AreUntouched, as_lists}
use Rattle.mx_back.specs.KeptRuns.{ComesStep, turn_kind, kind_at, turns_after, turns_of}
use Rattle.mx_back.proofs.KeptSteps.{begun-kept}

-- ---- what a turn keeps, as lists

kept-as-lists : (x : Turned) (s : State) (kept : List State) → kept_turn x (as_list_state s) (as_lists kept) ≡ as_lists (kept_turn x s kept)
kept-as-lists stepped s kept = take-map as_list_state 1024 (s ∷ kept)
kept-as-lists trapped s kept = refl
kept-as-lists ended s kept = refl

take-untouched : (k : ℕ) (kept : List State) → AreUntouched kept → AreUntouched (take k kept)
take-untouched zero kept h = tt
take-untouched (suc k) [] h = tt
take-untouched (suc k) (s ∷ kept) h = (h.0, take-untouched k kept h.1)

kept-untouched : (x : Turned) (s : State) (kept : List State) → s.touched ≡ false → AreUntouched kept → AreUntouched (kept_turn x s kept)
kept-untouched stepped s kept u h = take-untouched 1024 (s ∷ kept) (u, h)
kept-untouched trapped s kept u h = tt
kept-untouched ended s kept u h = h

-- ---- a turn that is not wild

kind-listed : (x : Stepped) (t : Turn) → turn_kind (as_list_step x) (turn_answer (as_list_turn t)).0 ≡ turn_kind x (turn_answer t).0
kind-listed (went u trace) t = refl
kind-listed (calls call) (went_on s m trace) = refl
kind-listed (calls call) (halts status s m) = refl
kind-listed (calls call) (stops reason s m) = refl
kind-listed (stopped reason) t = refl

not-wild : (b c : Bool) → (b || c) ≡ false → b ≡ false
not-wild true c e = absurd (cc)
not-wild false c e = refl

kind-beside : (s : State) (m : HostModel) → TurnWindow s → s.touched ≡ false → turn_is_wild s ≡ false → kind_at (as_list_state s) m ≡ kind_at s m
kind-beside s m h u e =
    let quiet = not-wild (is_wild s) (trap_touches s (step s)) e in
    ap (λ (x : Stepped). turn_kind x (turn_answer (turn (as_list_state s) m)).0) (step-listed s h.window h.machine (record { untouched = u; not_wild = quiet }))
    ∙ ap (λ (t : Turn). turn_kind (as_list_step (step s)) (turn_answer t).0) (turn-listed-on s m h u e) ∙ kind-listed (step s) (turn s m)

-- what the list machine keeps by such a turn, and by those after it
turns-beside : (n i : ℕ) (s : State) (m : HostModel) (kept : List State) → i < n → TurnWindow s → s.touched ≡ false → turn_is_wild s ≡ false →
    states_kept (turns_of (n - i) (as_list_state s) m) (as_lists kept)
    ≡ states_kept (turns_after (turns_of (n - (i + 1))) (as_list_turn (turn s m))) (as_lists (kept_turn (kind_at s m) s kept))
unfolding turns_of states_kept
turns-beside n i s m kept l h u e =
    let more = turns_of (n - (i + 1)) in
    rw (left-after n i l) (
    ap (λ (t : Turn). states_kept (turns_after more t) (kept_turn (kind_at (as_list_state s) m) (as_list_state s) (as_lists kept))) (turn-listed-on s m h u e)
    ∙ ap (λ (x : Turned). states_kept (turns_after more (as_list_turn (turn s m))) (kept_turn x (as_list_state s) (as_lists kept))) (kind-beside s m h u e)
    ∙ ap (states_kept (turns_after more (as_list_turn (turn s m)))) (kept-as-lists (kind_at s m) s kept)
    )

-- ---- on the way: what is kept so far is untouched, and what the list machine makes of it is what it makes of all; unless its
-- run meets something wild

pub data SoFar (whole : Course End RunWorld) (kept mine goal : List State) : Type 0 where
  holds : AreUntouched kept → mine ≡ goal → SoFar whole kept mine goal
  wild : (w : RunWorld) → whole ≡ meets_wild w → SoFar whole kept mine goal

abbrev pub KeptSoFar : Course End RunWorld → ℕ → State → HostModel → List State → List State → Type 0
KeptSoFar whole left s m kept goal = SoFar whole kept (states_kept (turns_of left (as_list_state s) m) (as_lists kept)) goal

pub begun-beside : (n : ℕ) (whole : Course End RunWorld) (s : State) (m : HostModel) (kept : List State) → AreUntouched kept → KeptSoFar whole (n - 0) s m kept (states_kept (turns_of n (as_list_state s) m) (as_lists kept))
begun-beside n whole s m kept h = holds h (begun-kept n (as_list_state s) m (as_lists kept))

-- the turns after one that goes on, and after one that ends the run
on-by : (more : State → HostModel → List (Turned × State)) (pc : ℕ) (u : Unit {0}) (t : State) (k : HostModel) (x : Turn) → (Ok u, t, k) ≡ turn_ended no_flags pc (turn_answer x) → turns_after more (as_list_turn x) ≡ more (as_list_state t) k
on-by more pc u t k (went_on v n trace) e = ap (λ (a : Answered (Result (Unit {0}) End)). more (as_list_state a.1) a.2) (sym e)
on-by more pc u t k (halts status v n) e = let first : Ok u ≡ Err (end.Halted status) = ap (λ (a : Answered (Result (Unit {0}) End)). a.0) e in absurd (cc)
on-by more pc u t k (stops reason v n) e = let first : Ok u ≡ Err (end.Stopped pc reason) = ap (λ (a : Answered (Result (Unit {0}) End)). a.0) e in absurd (cc)

end-by : (more : State → HostModel → List (Turned × State)) (pc : ℕ) (why : End) (t : State) (k : HostModel) (x : Turn) → (Err why, t, k) ≡ turn_ended no_flags pc (turn_answer x) → turns_after more (as_list_turn x) ≡ []
end-by more pc why t k (went_on v n trace) e = let first : Err why ≡ Ok tt = ap (λ (a : Answered (Result (Unit {0}) End)). a.0) e ∙ trace-free trace in absurd (cc)
end-by more pc why t k (halts status v n) e = refl
end-by more pc why t k (stops reason v n) e = refl

went-by : (n i : ℕ) (whole : Course End RunWorld) (s t : State) (m k : HostModel) (kept now goal : List State) (c : Bool) → turn_is_wild s ≡ c → i < n → TurnWindow s → s.touched ≡ false → (w : turns_after (turns_of (n - (i + 1))) (as_list_turn (turn s m)) ≡ turns_of (n - (i + 1)) (as_list_state t) k) → now ≡ kept_turn (kind_at s m) s kept →
    whole ≡ run_by list_machine (n - i) no_flags false (as_list_state s) m → AreUntouched kept → states_kept (turns_of (n - i) (as_list_state s) m) (as_lists kept) ≡ goal → KeptSoFar whole (n - (i + 1)) t k now goal
went-by n i whole s t m k kept now goal true e l h u w is so a b = wild (as_list_state s, m) (so ∙ meets-wild n i s m l h u e)
went-by n i whole s t m k kept now goal false e l h u w is so a b =
    holds (subst AreUntouched (sym is) (kept-untouched (kind_at s m) s kept u a))
    (ap (λ ks. states_kept (turns_of (n - (i + 1)) (as_list_state t) k) (as_lists ks)) is
    ∙ ap (λ ts. states_kept ts (as_lists (kept_turn (kind_at s m) s kept))) (sym w) ∙ sym (turns-beside n i s m kept l h u e) ∙ b)

went-on : (n i : ℕ) (whole : Course End RunWorld) (s t : State) (m k : HostModel) (kept now goal : List State) → i < n → TurnWindow s → turns_after (turns_of (n - (i + 1))) (as_list_turn (turn s m)) ≡ turns_of (n - (i + 1)) (as_list_state t) k → now ≡ kept_turn (kind_at s m) s kept →
    Beside whole (run_by list_machine (n - i) no_flags false (as_list_state s) m) s → KeptSoFar whole (n - i) s m kept goal → KeptSoFar whole (n - (i + 1)) t k now goal
went-on n i whole s t m k kept now goal l h w is (was_wild g e) p = wild g e
went-on n i whole s t m k kept now goal l h w is (as_list u so) (wild g e) = wild g e
went-on n i whole s t m k kept now goal l h w is (as_list u so) (holds a b) = went-by n i whole s t m k kept now goal (turn_is_wild s) refl l h u w is so a b

pub went-kept-beside : (n i : ℕ) (whole : Course End RunWorld) (u : Unit {0}) (s t : State) (m k : HostModel) (kept now goal : List State) → i < n → HasWindow s → ComesStep (s, m) (t, k) (Ok u) → now ≡ kept_turn (kind_at s m) s kept →
    Beside whole (run_by list_machine (n - i) no_flags false (as_list_state s) m) s → KeptSoFar whole (n - i) s m kept goal → KeptSoFar whole (n - (i + 1)) t k now goal
unfolding run_step
went-kept-beside n i whole u s t m k kept now goal l h c is b p =
    went-on n i whole s t m k kept now goal l (list-window s h)
    (on-by (turns_of (n - (i + 1))) s.pc u t k (turn s m) (step-answer no_flags false s t m k (Ok u) (c.ending (λ e. absurd (cc))))) is b p

-- ---- at the end

at-end : (whole : Course End RunWorld) (now goal : List State) → SoFar whole now (as_lists now) goal → AreBeside whole now goal
at-end (ends end w) now goal (holds a b) = (b, a)
at-end (ends end w) now goal (wild v is) = absurd (cc)
at-end (meets_wild w) now goal h = tt

ended-by : (n i : ℕ) (whole : Course End RunWorld) (s : State) (m : HostModel) (kept now goal : List State) (c : Bool) → turn_is_wild s ≡ c → i < n → TurnWindow s → s.touched ≡ false → turns_after (turns_of (n - (i + 1))) (as_list_turn (turn s m)) ≡ [] → now ≡ kept_turn (kind_at s m) s kept →
    whole ≡ run_by list_machine (n - i) no_flags false (as_list_state s) m → AreUntouched kept → states_kept (turns_of (n - i) (as_list_state s) m) (as_lists kept) ≡ goal → SoFar whole now (as_lists now) goal
unfolding states_kept
ended-by n i whole s m kept now goal true e l h u w is so a b = wild (as_list_state s, m) (so ∙ meets-wild n i s m l h u e)
ended-by n i whole s m kept now goal false e l h u w is so a b =
    holds (subst AreUntouched (sym is) (kept-untouched (kind_at s m) s kept u a))
    (ap as_lists is ∙ ap (λ ts. states_kept ts (as_lists (kept_turn (kind_at s m) s kept))) (sym w) ∙ sym (turns-beside n i s m kept l h u e) ∙ b)

ended-on : (n i : ℕ) (whole : Course End RunWorld) (s : State) (m : HostModel) (kept now goal : List State) → i < n → TurnWindow s → turns_after (turns_of (n - (i + 1))) (as_list_turn (turn s m)) ≡ [] → now ≡ kept_turn (kind_at s m) s kept →
    Beside whole (run_by list_machine (n - i) no_flags false (as_list_state s) m) s → KeptSoFar whole (n - i) s m kept goal → SoFar whole now (as_lists now) goal
ended-on n i whole s m kept now goal l h w is (was_wild g e) p = wild g e
ended-on n i whole s m kept now goal l h w is (as_list u so) (wild g e) = wild g e
ended-on n i whole s m kept now goal l h w is (as_list u so) (holds a b) = ended-by n i whole s m kept now goal (turn_is_wild s) refl l h u w is so a b

pub ended-kept-beside : (n i : ℕ) (whole : Course End RunWorld) (why : End) (s t : State) (m k : HostModel) (kept now goal : List State) → i < n → HasWindow s → why ≢ end.OutOfMemory → ComesStep (s, m) (t, k) (Err why) → now ≡ kept_turn (kind_at s m) s kept →
    Beside whole (run_by list_machine (n - i) no_flags false (as_list_state s) m) s → KeptSoFar whole (n - i) s m kept goal → AreBeside whole now goal
unfolding run_step
ended-kept-beside n i whole why s t m k kept now goal l h ne c is b p =
    at-end whole now goal (ended-on n i whole s m kept now goal l (list-window s h)
    (end-by (turns_of (n - (i + 1))) s.pc why t k (turn s m) (step-answer no_flags false s t m k (Err why) (c.ending (λ o. ne (cc))))) is b p)

none-left : (n i : ℕ) (s : State) (m : HostModel) (kept : List State) → n ≤ i → states_kept (turns_of (n - i) s m) kept ≡ kept
unfolding turns_of states_kept
none-left n i s m kept l = let none : n - i ≡ 0 = omega arith in ap (λ j. states_kept (turns_of j s m) kept) none

spent-by : (n i : ℕ) (whole : Course End RunWorld) (s : State) (m : HostModel) (kept goal : List State) → n ≤ i → KeptSoFar whole (n - i) s m kept goal → SoFar whole kept (as_lists kept) goal
spent-by n i whole s m kept goal l (wild g e) = wild g e
spent-by n i whole s m kept goal l (holds a b) = holds a (sym (none-left n i (as_list_state s) m (as_lists kept) l) ∙ b)

pub spent-kept-beside : (n i : ℕ) (whole : Course End RunWorld) (s : State) (m : HostModel) (kept goal : List State) → n ≤ i → KeptSoFar whole (n - i) s m kept goal → AreBeside whole kept goal
spent-kept-beside n i whole s m kept goal l p = at-end whole kept goal (spent-by n i whole s m kept goal l p)
