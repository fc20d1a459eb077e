-- A run whose steps are counted, after some of them and as a whole.
use Rattle.std.proofs.Common.{◌≡◌, ◌≢◌, ◌<◌, ◌≤◌, ◌+◌, ◌-◌, ℕ, Bool, true, false, cond, List, [], ◌∷◌, ◌++◌, Err, arith, sym, ap, ◌∙◌}
use Rattle.mx_host.specs.HostModel.{HostModel}
use Rattle.mx_plan.specs.Plan.{Comes}
use Rattle.mx_plan.specs.Wild.{Course}
use Rattle.mx_core.specs.Bounds.{as_list_state}
use Rattle.mx_core.specs.State.{State}
use Rattle.mx_code.specs.declared.trace.Trace.{Trace}
use Rattle.mx_run.specs.RunPlans.{RunWorld, running, step_plan}
use Rattle.mx_run.specs.Runs.{no_flags}
use Rattle.mx_run.specs.Turns.{went_on, turn}
use Rattle.mx_run.specs.WildRuns.{HasWindow, list_machine, run_by, window_machine}
use Rattle.mx_run.specs.declared.end.End.{End}
use Rattle.mx_run.specs.declared.end.End.TheVariants.{OutOfMemory}
use Rattle.mx_run.proofs.PlanEnds.{step-answer}
use Rattle.mx_run.proofs.RunBoth.{Beside}
use Rattle.mx_watch.specs.Traces.{traces}
use Rattle.mx_watch.proofs.Listened.{traces-ended, traces-left}
use Rattle.mx_watch.proofs.ListTraces.{OrWild, begun-with-list, ended-with-list, spent-with-list, went-with-list}
use Rattle.mx_count.specs.Counting.{counts_in, counts_with, kept_tally}
use Rattle.mx_count.specs.Runs.{halting_step, halting_steps, is_halted}
use Rattle.mx_count.specs.Sheets.{Counts, tallies_in}
use Rattle.mx_count.specs.Tallies.{added, tally_if, tally_in}
use Rattle.mx_count.specs.declared.counts.Entry.{Entry}
use Rattle.mx_count.specs.declared.tally.Tally.{Tally}
use Rattle.mx_count.proofs.TallyLaws.{nothing-first, nothing-more, added-assoc}

-- ---- one step more

one-more : (es new : List Entry) (t : Trace) → ((test : ℕ → Bool) → kept_tally test new ≡ added (kept_tally test es) (tally_if test t)) →
    (h : List Trace) (test : ℕ → Bool) → added (kept_tally test new) (tally_in test h) ≡ added (kept_tally test es) (tally_in test (t ∷ h))
unfolding tally_in
one-more es new t more h test = ap (λ k. added k (tally_in test h)) (more test) ∙ added-assoc (kept_tally test es) (tally_if test t) (tally_in test h)

step-counted : (es new : List Entry) (t : Trace) → ((test : ℕ → Bool) → kept_tally test new ≡ added (kept_tally test es) (tally_if test t)) →
    (h : List Trace) → counts_with new h ≡ counts_with es (t ∷ h)
step-counted es new t more h = λ i test. one-more es new t more h test i

-- ---- over a window

pub begun-counted : (n : ℕ) (s : State) (m : HostModel) (es : List Entry) → counts_with es (traces window_machine (n - 0) s m) ≡ counts_with es (traces window_machine n s m)
begun-counted n s m es = let all : n - 0 ≡ n = omega arith in ap (λ k. counts_with es (traces window_machine k s m)) all

pub went-counted : (n i : ℕ) (s t : State) (m k : HostModel) (trace : Trace) (es new : List Entry) (whole : Counts) → i < n → turn s m ≡ went_on t k trace →
    ((test : ℕ → Bool) → kept_tally test new ≡ added (kept_tally test es) (tally_if test trace)) → counts_with es (traces window_machine (n - i) s m) ≡ whole →
    counts_with new (traces window_machine (n - (i + 1)) t k) ≡ whole
went-counted n i s t m k trace es new whole inside e more h =
    step-counted es new trace more (traces window_machine (n - (i + 1)) t k) ∙ ap (counts_with es) (sym (traces-left n i s t m k trace inside e)) ∙ h

pub ended-counted : (n i : ℕ) (s t : State) (m k : HostModel) (end : End) (es : List Entry) (whole : Counts) → i < n → end ≢ OutOfMemory → Comes running (s, m) (t, k) (Err OutOfMemory) (Err end) (step_plan no_flags false) →
    counts_with es (traces window_machine (n - i) s m) ≡ whole → counts_with es [] ≡ whole
ended-counted n i s t m k end es whole inside ne c h =
    sym (ap (counts_with es) (traces-ended n i s t m k end inside (step-answer no_flags false s t m k (Err end) (c.ending (λ e. ne (cc)))))) ∙ h

pub spent-counted : (n i : ℕ) (s : State) (m : HostModel) (es : List Entry) (whole : Counts) → n ≤ i → counts_with es (traces window_machine (n - i) s m) ≡ whole → counts_with es [] ≡ whole
unfolding traces
spent-counted n i s m es whole end h = let none : n - i ≡ 0 = omega arith in sym (ap (λ j. counts_with es (traces window_machine j s m)) none) ∙ h

-- ---- beside the list machine

pub begun-by-list : (n : ℕ) (whole : Course End RunWorld) (s : State) (m : HostModel) (es : List Entry) → OrWild whole (counts_with es (traces list_machine (n - 0) s m) ≡ counts_with es (traces list_machine n s m))
begun-by-list n whole s m es = begun-with-list counts_with n whole s m es

pub went-by-list : (n i : ℕ) (whole : Course End RunWorld) (s t : State) (m k : HostModel) (trace : Trace) (es new : List Entry) (goal : Counts) → i < n → HasWindow s → turn s m ≡ went_on t k trace →
    ((test : ℕ → Bool) → kept_tally test new ≡ added (kept_tally test es) (tally_if test trace)) → Beside whole (run_by list_machine (n - i) no_flags false (as_list_state s) m) s →
    OrWild whole (counts_with es (traces list_machine (n - i) (as_list_state s) m) ≡ goal) → OrWild whole (counts_with new (traces list_machine (n - (i + 1)) (as_list_state t) k) ≡ goal)
went-by-list n i whole s t m k trace es new goal inside h went more b w =
    went-with-list counts_with n i whole s t m k trace es new goal inside h went (step-counted es new trace more) b w

pub ended-by-list : (n i : ℕ) (whole : Course End RunWorld) (s t : State) (m k : HostModel) (end : End) (es : List Entry) (goal : Counts) → i < n → HasWindow s → end ≢ OutOfMemory →
    Comes running (s, m) (t, k) (Err OutOfMemory) (Err end) (step_plan no_flags false) → Beside whole (run_by list_machine (n - i) no_flags false (as_list_state s) m) s →
    OrWild whole (counts_with es (traces list_machine (n - i) (as_list_state s) m) ≡ goal) → OrWild whole (counts_with es [] ≡ goal)
ended-by-list n i whole s t m k end es goal inside h ne c b w = ended-with-list counts_with n i whole s t m k end es goal inside h ne c b w

pub spent-by-list : (n i : ℕ) (whole : Course End RunWorld) (s : State) (m : HostModel) (es : List Entry) (goal : Counts) → n ≤ i →
    OrWild whole (counts_with es (traces list_machine (n - i) s m) ≡ goal) → OrWild whole (counts_with es [] ≡ goal)
spent-by-list n i whole s m es goal end w = spent-with-list counts_with n i whole s m es goal end w

-- ---- the step that halts

pub same-step : (test : ℕ → Bool) (x y : Tally) (step : Trace) (pc : ℕ) → step ≡ halting_step pc → y ≡ added x (tally_if test step) → y ≡ added x (tally_if test (halting_step pc))
same-step test x y step pc is e = e ∙ ap (λ (t : Trace). added x (tally_if test t)) is

pub halt-counted : (test : ℕ → Bool) (end : End) (pc : ℕ) (x y : Tally) → is_halted end ≡ true → y ≡ added x (tally_if test (halting_step pc)) → y ≡ added x (tally_in test (halting_steps end pc))
unfolding tally_in
halt-counted test end pc x y e is =
    is ∙ ap (added x) (sym (nothing-more (tally_if test (halting_step pc)))) ∙ ap (λ b. added x (tally_in test (cond b (halting_step pc ∷ []) []))) (sym e)

pub none-counted : (test : ℕ → Bool) (end : End) (pc : ℕ) (x : Tally) → is_halted end ≡ false → x ≡ added x (tally_in test (halting_steps end pc))
unfolding tally_in
none-counted test end pc x e = sym (nothing-more x) ∙ ap (λ b. added x (tally_in test (cond b (halting_step pc ∷ []) []))) (sym e)

-- ---- the whole

tally-joined : (test : ℕ → Bool) (h g : List Trace) → added (tally_in test h) (tally_in test g) ≡ tally_in test (h ++ g)
unfolding tally_in
tally-joined test [] g = nothing-first (tally_in test g)
tally-joined test (t ∷ h) g = added-assoc (tally_if test t) (tally_in test h) (tally_in test g) ∙ ap (added (tally_if test t)) (tally-joined test h g)

-- what is counted from no steps on
from-none : (es : List Entry) (h : List Trace) (test : ℕ → Bool) → es ≡ [] → added (kept_tally test es) (tally_in test h) ≡ tally_in test h
unfolding kept_tally
from-none es h test e = ap (λ (x : List Entry). added (kept_tally test x) (tally_in test h)) e ∙ nothing-first (tally_in test h)

now-is : (es : List Entry) (test : ℕ → Bool) → added (kept_tally test es) (tally_in test []) ≡ kept_tally test es
unfolding tally_in
now-is es test = nothing-more (kept_tally test es)

-- the traces first, and then the last step
pub all-counted : (none es new : List Entry) (h last : List Trace) → none ≡ [] → counts_with es [] ≡ counts_with none h →
    ((test : ℕ → Bool) → kept_tally test new ≡ added (kept_tally test es) (tally_in test last)) → counts_in new ≡ tallies_in (h ++ last)
all-counted none es new h last begun traced ended = λ i test. by test i
  where
    by : (test : ℕ → Bool) → kept_tally test new ≡ tally_in test (h ++ last)
    by test =
        ended test
        ∙ ap (λ k. added k (tally_in test last)) (sym (now-is es test) ∙ ap (λ (counts : Counts). counts test) traced ∙ from-none none h test begun)
        ∙ tally-joined test h last
