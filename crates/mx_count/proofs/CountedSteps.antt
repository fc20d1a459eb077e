-- As many steps are counted as the machine makes.
use Rattle.std.proofs.Common.{◌≡◌, ℕ, zero, suc, ◌+◌, ◌%◌, ◌^◌, true, false, List, [], ◌∷◌, ◌++◌, arith, refl, sym, subst}
use Rattle.mx_host.specs.HostModel.{HostModel}
use Rattle.mx_core.specs.State.{State}
use Rattle.mx_code.specs.declared.trace.Trace.{Trace}
use Rattle.mx_run.specs.Runs.{Ended, no_flags, run}
use Rattle.mx_run.specs.Turns.{Turn, went_on, halts, stops, turn}
use Rattle.mx_run.specs.WildRuns.{window_machine}
use Rattle.mx_run.proofs.FreeTurns.{none-made, run-went, run-halts, run-stops}
use Rattle.mx_run.proofs.StepCounts.{CountsTurn, turn-count}
use Rattle.mx_watch.specs.Traces.{traces, traces_after}
use Rattle.mx_count.specs.Runs.{halting_after, steps_counted}
use Rattle.mx_count.specs.Tallies.{added, nothing, tally_in}

-- ---- how many are counted

abbrev counted : List Trace → ℕ
counted h = (tally_in (λ a. true) h).times

counted-none : counted [] ≡ 0
unfolding tally_in nothing
counted-none = refl

counted-more : (t : Trace) (h : List Trace) → counted (t ∷ h) ≡ 1 + counted h
unfolding tally_in added
counted-more t h = refl

none-later : (s u k : ℕ) → u ≡ s → k ≡ 0 → u % 2 ^ 64 ≡ (s + k) % 2 ^ 64
none-later s u k a b = omega (arith, a, b)

one-later : (s u j k : ℕ) → u ≡ (s + 1) % 2 ^ 64 → j ≡ 0 → k ≡ 1 + j → u % 2 ^ 64 ≡ (s + k) % 2 ^ 64
one-later s u j k a b c = omega (arith, a, b, c)

more-later : (s u e j k : ℕ) → u ≡ (s + 1) % 2 ^ 64 → e % 2 ^ 64 ≡ (u + j) % 2 ^ 64 → k ≡ 1 + j → e % 2 ^ 64 ≡ (s + k) % 2 ^ 64
more-later s u e j k a b c = omega (arith, a, b, c)

-- ---- a run

abbrev CountsRun : State → List Trace → Ended → Type 0
CountsRun s h e = e.state.steps % 2 ^ 64 ≡ (s.steps + counted (h ++ halting_after e)) % 2 ^ 64

after-count : (n : ℕ) (s : State) (m : HostModel) (t : Turn) → turn s m ≡ t → CountsTurn s t → ((u : State) (k : HostModel) → CountsRun u (traces window_machine n u k) (run n no_flags false u k)) →
    CountsRun s (traces_after (traces window_machine n) t) (run (suc n) no_flags false s m)
after-count n s m (went_on u k trace) e one more =
    let r : Ended = run n no_flags false u k in
    let h : List Trace = traces window_machine n u k ++ halting_after r in
    subst (CountsRun s (trace ∷ traces window_machine n u k)) (sym (run-went n s u m k trace e))
    (more-later s.steps u.steps r.state.steps (counted h) (counted (trace ∷ h)) one (more u k) (counted-more trace h))
after-count n s m (halts status u k) e one more =
    subst (CountsRun s []) (sym (run-halts n s u m k status e)) (one-later s.steps u.steps (counted []) _ one counted-none (counted-more _ []))
after-count n s m (stops reason u k) e one more =
    subst (CountsRun s []) (sym (run-stops n s u m k reason e)) (none-later s.steps u.steps (counted []) one counted-none)

run-count : (n : ℕ) (s : State) (m : HostModel) → CountsRun s (traces window_machine n s m) (run n no_flags false s m)
unfolding traces
run-count zero s m = subst (CountsRun s []) (sym (none-made s m)) (none-later s.steps s.steps (counted []) refl counted-none)
run-count (suc n) s m = after-count n s m (turn s m) refl (turn-count s m) (λ u k. run-count n u k)

pub all-counted : (n : ℕ) (s : State) (m : HostModel) →
    (run n no_flags false s m).state.steps % 2 ^ 64 ≡ (s.steps + (tally_in (λ a. true) (steps_counted window_machine n s m)).times) % 2 ^ 64
all-counted n s m = run-count n s m

pub ruleset counting = (all-counted)
