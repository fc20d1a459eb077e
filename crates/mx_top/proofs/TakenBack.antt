-- What follows a run whose last steps are taken back.
use Rattle.std.proofs.Common.{IsTrue, ◌≡◌, ℕ, List, [], Bool, true, false, cond, take, Ok, Err, refl, sym, ◌∙◌, ap, subst}
use Rattle.std.specs.Prelude.{Option, Result}
use Rattle.std.proofs.lemmas.List.{take-map}
use Rattle.mx_host.specs.HostModel.{HostModel, contents}
use Rattle.mx_plan.specs.Calls.{host, HostPlan}
use Rattle.mx_plan.specs.Clauses.{CarriesOutOnHost}
use Rattle.mx_plan.specs.Plan.{bind, end_of, end_after, StopsAfter}
use Rattle.mx_plan.proofs.Plans.{end_bind, end_returns, stops_first, stops_after}
use Rattle.mx_back.specs.History.{states_before, states_kept}
use Rattle.mx_back.specs.KeptLists.{AreBeside, AreUntouched, as_lists, list_kept}
use Rattle.mx_back.specs.KeptRuns.{turns_of}
use Rattle.mx_core.specs.Bounds.{as_list_state}
use Rattle.mx_core.specs.State.{State}
use Rattle.mx_core.specs.Undoing.{StateWas}
use Rattle.mx_run.specs.AccompaniedRuns.{list_run}
use Rattle.mx_files.specs.Clauses.{DoesPartBetween}
use Rattle.mx_files.specs.FilePlans.{lines_plan}
use Rattle.mx_outcome.specs.declared.outcome.Outcome.{Outcome}
use Rattle.mx_outcome.specs.declared.outcome.Outcome.TheVariants.{OutOfMemory}
use Rattle.mx_dump.specs.Dump.{Line}
use Rattle.mx_top.specs.Endings.{then_dumped, dumped_plan, back_plan}
use Rattle.mx_top.specs.Runs.{takes_back, state_lines, reached}
use Rattle.mx_top.proofs.LastStates.{lines-listed, reached-listed, reached-untouched, take-untouched}
use Rattle.mx_top.proofs.Dumped.{same-dumped}

-- ---- as plans

by-taken : (a b : Option HostModel) (r : Outcome) (p q : HostPlan Outcome) (x : Bool) → x ≡ true → CarriesOutOnHost a b OutOfMemory r p → CarriesOutOnHost a b OutOfMemory r (cond x p q)
by-taken a b r p q true e h = h
by-taken a b r p q false e h = absurd (cc)

pub unbacked-plan : (a b : Option HostModel) (dump : Bool) (outcome r : Outcome) (states : List State) (s : State) → takes_back outcome ≡ false → CarriesOutOnHost a b OutOfMemory r (dumped_plan dump outcome s) →
    CarriesOutOnHost a b OutOfMemory r (back_plan dump outcome states s)
unfolding back_plan
unbacked-plan a b dump outcome r states s e h =
    subst (λ (x : Bool). CarriesOutOnHost a b OutOfMemory r (cond x (bind (then_dumped dump outcome (reached s states)) (lines_plan (state_lines states))) (dumped_plan dump outcome s))) (sym e) h

pub backed-plan : (a b c : Option HostModel) (k m : ℕ) (dump : Bool) (outcome r : Outcome) (states : List State) (s t : State) → takes_back outcome ≡ true → t ≡ reached s states → DoesPartBetween a b k m (Ok tt) (lines_plan (state_lines states)) →
    CarriesOutOnHost b c OutOfMemory r (dumped_plan dump outcome t) → CarriesOutOnHost a c OutOfMemory r (back_plan dump outcome states s)
unfolding back_plan
backed-plan a b c k m dump outcome r states s t e is w h =
    let follow : Result (Unit {0}) Outcome → HostPlan Outcome = then_dumped dump outcome (reached s states) in
    by-taken a c r (bind follow (lines_plan (state_lines states))) (dumped_plan dump outcome s) (takes_back outcome) e (λ told.
    let first : (Ok tt, contents b) ≡ end_of host (lines_plan (state_lines states)) (contents a) = (w.told told).ending (λ o. absurd (cc)) in
    let second = subst (λ (u : State). CarriesOutOnHost b c OutOfMemory r (dumped_plan dump outcome u)) is h (subst IsTrue (sym w.keeps.0) told) in
    record {
      ending = λ ne. second.ending ne ∙ sym (end_bind host follow (lines_plan (state_lines states)) (contents a) ∙ ap (end_after host follow) (sym first));
      stopping = λ o. stops_after host follow (lines_plan (state_lines states)) (contents c) (contents a) (subst (StopsAfter host (contents c) follow) first (second.stopping o));
    })

pub broken-plan : (a b : Option HostModel) (k m : ℕ) (dump : Bool) (outcome other : Outcome) (states : List State) (s : State) → takes_back outcome ≡ true → DoesPartBetween a b k m (Err other) (lines_plan (state_lines states)) →
    CarriesOutOnHost a b OutOfMemory other (back_plan dump outcome states s)
unfolding back_plan
broken-plan a b k m dump outcome other states s e w =
    let follow : Result (Unit {0}) Outcome → HostPlan Outcome = then_dumped dump outcome (reached s states) in
    by-taken a b other (bind follow (lines_plan (state_lines states))) (dumped_plan dump outcome s) (takes_back outcome) e (λ told. record {
      ending = λ ne.
          let first : (Err other, contents b) ≡ end_of host (lines_plan (state_lines states)) (contents a) = (w.told told).ending (λ o. ne (cc)) in
          sym (end_bind host follow (lines_plan (state_lines states)) (contents a) ∙ ap (end_after host follow) (sym first) ∙ end_returns host other (contents b));
      stopping = λ o. stops_first host follow (lines_plan (state_lines states)) (contents b) (contents a) ((w.told told).stopping (ap Err o));
    })

-- where there was no memory, none are taken back
pub untaken : (outcome : Outcome) → outcome ≡ OutOfMemory → takes_back outcome ≡ true → ⊥
untaken outcome e t = absurd (cc (ap takes_back e, t))

-- that of the list is the same, where nothing was touched
same-then : (dump : Bool) (outcome : Outcome) (s : State) → s.touched ≡ false → (r : Result (Unit {0}) Outcome) → then_dumped dump outcome (as_list_state s) r ≡ then_dumped dump outcome s r
same-then dump outcome s u (Ok x) = same-dumped dump outcome s u
same-then dump outcome s u (Err other) = refl

same-states : (dump : Bool) (outcome : Outcome) (states : List State) (s : State) → s.touched ≡ false → AreUntouched states → back_plan dump outcome (as_lists states) (as_list_state s) ≡ back_plan dump outcome states s
unfolding back_plan
same-states dump outcome states s u a =
    let back : (Result (Unit {0}) Outcome → HostPlan Outcome) → List Line → HostPlan Outcome → HostPlan Outcome = λ follow lines other. cond (takes_back outcome) (bind follow (lines_plan lines)) other in
    ap (λ lines. back (then_dumped dump outcome (reached (as_list_state s) (as_lists states))) lines (dumped_plan dump outcome (as_list_state s))) (lines-listed states)
    ∙ ap (λ (t : State). back (then_dumped dump outcome t) (state_lines states) (dumped_plan dump outcome (as_list_state s))) (reached-listed s states)
    ∙ ap (λ follow. back follow (state_lines states) (dumped_plan dump outcome (as_list_state s))) (λ i r. same-then dump outcome (reached s states) (reached-untouched s states u a) r i)
    ∙ ap (λ other. back (then_dumped dump outcome (reached s states)) (state_lines states) other) (same-dumped dump outcome s u)

pub same-back : (dump : Bool) (last : ℕ) (outcome : Outcome) (kept : List State) (s : State) → s.touched ≡ false → AreUntouched kept → back_plan dump outcome (take last (as_lists kept)) (as_list_state s) ≡ back_plan dump outcome (take last kept) s
same-back dump last outcome kept s u a =
    ap (λ states. back_plan dump outcome states (as_list_state s)) (take-map as_list_state last kept) ∙ same-states dump outcome (take last kept) s u (take-untouched last kept a)

-- ---- from no notes

pub nothing-kept : (earlier later : List StateWas) (n : ℕ) (s t : State) (m : HostModel) → earlier ≡ [] → states_before later t ≡ states_kept (turns_of n s m) (states_before earlier s) → states_before later t ≡ states_kept (turns_of n s m) []
unfolding states_before
nothing-kept earlier later n s t m none e = e ∙ ap (λ notes. states_kept (turns_of n s m) (states_before notes s)) none

pub nothing-beside : (earlier later : List StateWas) (old : Option HostModel) (n : ℕ) (s t : State) → earlier ≡ [] → (AreUntouched (states_before earlier s) → AreBeside (list_run old s n) (states_before later t) (list_kept old s n (states_before earlier s))) →
    AreBeside (list_run old s n) (states_before later t) (list_kept old s n [])
unfolding states_before
nothing-beside earlier later old n s t none h =
    subst (λ notes. AreUntouched (states_before notes s) → AreBeside (list_run old s n) (states_before later t) (list_kept old s n (states_before notes s))) none h tt
