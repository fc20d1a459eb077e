-- Steps that go on, one after another, as steps of a run without flags.
use Rattle.std.proofs.Common.{◌≡◌, ◌≢◌, ℕ, zero, suc, ◌+◌, ◌-◌, ◌≤◌, ◌<◌, true, false, List, [], Ok, Err, arith, sym, subst, ◌∙◌, ap}
use Rattle.mx_host.specs.HostModel.{HostModel}
use Rattle.mx_plan.specs.Plan.{Comes}
use Rattle.mx_core.specs.State.{State}
use Rattle.mx_core.specs.Step.{step}
use Rattle.mx_core.specs.Way.Stepping.{advanced}
use Rattle.mx_core.specs.Walks.{Goes, GoesOn, IsWindowed, next_state}
use Rattle.mx_core.specs.declared.step.Advance.{Advance}
use Rattle.mx_core.specs.declared.step.Advance.TheVariants as advance
use Rattle.mx_run.specs.FlagMaps.{flags_at}
use Rattle.mx_run.specs.RunCourses.{RunsBoth, RestsBoth}
use Rattle.mx_run.specs.RunPlans.{RunPlan, RunWorld, running, step_plan, run_plan, SparesMemory}
use Rattle.mx_run.specs.Runs.{IsLater}
use Rattle.mx_run.specs.WildRuns.{HasWindow}
use Rattle.mx_run.specs.declared.end.End.{End}
use Rattle.mx_run.specs.declared.end.End.TheVariants.{Spent, OutOfMemory}
use Rattle.mx_run.specs.declared.flags.Flags.{Flags}
use Rattle.mx_run.proofs.FreeSteps.{free-went, went-spares}
use Rattle.mx_run.proofs.Later.{begun-later, both-later, few-later, advanced-later}
use Rattle.mx_run.proofs.ListSteps.{list-window}
use Rattle.mx_run.proofs.ListTurns.{TurnWindow}
use Rattle.mx_run.proofs.RunBoth.{rest-went-both, rest-ended-both, rest-spent-both, rest-freely-both}
use Rattle.mx_run.proofs.Runners.{Spares, spares-went, spares-ended}

-- ---- one step

went : (s : State) → GoesOn s → (advance.Went, next_state s) ≡ advanced s (step s)
went s e = ap (λ (a : Advance). (a, next_state s)) (sym e)

on-window : (s : State) → IsWindowed s → GoesOn s → TurnWindow s
on-window s w g = record {
  window = w.window;
  machine = w.machine;
  octas = λ call e. let first : advance.Went ≡ advance.Trap = sym g ∙ ap (λ x. (advanced s x).0) e in absurd (cc);
}

none-less : (n : ℕ) → n - 0 ≡ n
none-less n = omega arith

some : (k n : ℕ) → suc k ≤ n → 0 < n
some k n l = omega (arith, l)

one-less : (k n : ℕ) → suc k ≤ n → k ≤ n - (0 + 1)
one-less k n l = omega (arith, l)

less : (k n : ℕ) → suc k ≤ n → n - (0 + 1) - k ≡ n - suc k
less k n l = omega (arith, l)

-- ---- all of them

pub walked-both : (k n : ℕ) (entries : List (ℕ × Flags)) (s t : State) (m : HostModel) (start : RunWorld) (whole : RunPlan End) → entries ≡ [] → k ≤ n → Goes k s t →
    RestsBoth (run_plan n (flags_at entries) true) (s, m) whole start → RestsBoth (run_plan (n - k) (flags_at entries) true) (t, m) whole start
unfolding Goes
walked-both zero n entries s t m start whole h l g r =
    rw (none-less n) (subst (λ (u : State). RestsBoth (run_plan n (flags_at entries) true) (u, m) whole start) g r)
walked-both (suc k) n entries s t m start whole h l g r =
    let f = flags_at entries in
    let first = subst (λ i. RestsBoth (run_plan i f true) (s, m) whole start) (sym (none-less n)) r in
    let next = rest-went-both n 0 f true tt s (next_state s) m m start whole (some k n l) (on-window s g.0 g.1) (free-went entries s (next_state s) m h (went s g.1)) first in
    subst (λ i. RestsBoth (run_plan i f true) (t, m) whole start) (less k n l)
    (walked-both k (n - (0 + 1)) entries (next_state s) t m start whole h (one-less k n l) g.2 (rest-freely-both (n - (0 + 1)) entries false (next_state s, m) start whole h next))

pub walked-spares : (k n : ℕ) (s t : State) → k ≤ n → Goes k s t → SparesMemory n s → SparesMemory (n - k) t
unfolding Goes
walked-spares zero n s t l g p = rw (none-less n) (subst (SparesMemory n) g p)
walked-spares (suc k) n s t l g p =
    let next = spares-went n 0 s (next_state s) tt (some k n l) (λ i q. went-spares i s (next_state s) (went s g.1) q) (subst (λ i. SparesMemory i s) (sym (none-less n)) p) in
    subst (λ i. SparesMemory i t) (less k n l) (walked-spares k (n - (0 + 1)) (next_state s) t (one-less k n l) g.2 next)

pub walked-later : (k : ℕ) (s t : State) → Goes k s t → IsLater k s t
unfolding Goes
walked-later zero s t g = subst (λ u. IsLater 0 s u) g (begun-later s)
walked-later (suc k) s t g =
    let next : suc k ≡ 1 + k = omega arith in
    rw next (both-later 1 k s (next_state s) t (advanced-later advance.Went s (next_state s) (went s g.1)) (walked-later k (next_state s) t g.2))

-- ---- and one more step

before-last : (k n : ℕ) → k < n → n - (k + 1) ≡ n - k - 1
before-last k n l = omega arith

pub not-last : (k n : ℕ) → k ≤ n → n - k ≢ 0 → k < n
not-last k n l h = omega (arith, l, h)

pub all-made : (k n : ℕ) → n - k ≡ 0 → n ≤ k
all-made k n h = omega (arith, h)

pub fewer-left : (k n left : ℕ) → left ≤ n → left - k - 1 ≤ n
fewer-left k n left h = omega (arith, h)

pub walk-goes-on : (k n : ℕ) (entries : List (ℕ × Flags)) (s t v : State) (m o : HostModel) (start : RunWorld) (whole : RunPlan End) (u : Unit {0}) → entries ≡ [] → k < n → Goes k s t → HasWindow t →
    RestsBoth (run_plan n (flags_at entries) true) (s, m) whole start → Comes running (t, m) (v, o) (Err OutOfMemory) (Ok u) (step_plan (flags_at entries) true) →
    RestsBoth (run_plan (n - k - 1) (flags_at entries) true) (v, o) whole start
walk-goes-on k n entries s t v m o start whole u h l g w r c =
    subst (λ i. RestsBoth (run_plan i (flags_at entries) true) (v, o) whole start) (before-last k n l)
    (rest-freely-both (n - (k + 1)) entries false (v, o) start whole h
    (rest-went-both n k (flags_at entries) true u t v m o start whole l (list-window t w) c (walked-both k n entries s t m start whole h (omega (arith, l)) g r)))

pub walk-ends : (k n : ℕ) (entries : List (ℕ × Flags)) (s t v : State) (m o : HostModel) (start : RunWorld) (whole : RunPlan End) (end : End) → entries ≡ [] → k < n → Goes k s t → HasWindow t →
    RestsBoth (run_plan n (flags_at entries) true) (s, m) whole start → Comes running (t, m) (v, o) (Err OutOfMemory) (Err end) (step_plan (flags_at entries) true) →
    RunsBoth start (v, o) OutOfMemory end whole
walk-ends k n entries s t v m o start whole end h l g w r c =
    rest-ended-both n k (flags_at entries) true end t v m o start whole l (list-window t w) c (walked-both k n entries s t m start whole h (omega (arith, l)) g r)

pub walk-spends : (k n : ℕ) (entries : List (ℕ × Flags)) (s t : State) (m : HostModel) (start : RunWorld) (whole : RunPlan End) → entries ≡ [] → k ≤ n → n ≤ k → Goes k s t →
    RestsBoth (run_plan n (flags_at entries) true) (s, m) whole start → RunsBoth start (t, m) OutOfMemory Spent whole
walk-spends k n entries s t m start whole h l o g r = rest-spent-both n k (flags_at entries) true (t, m) start whole o (walked-both k n entries s t m start whole h l g r)

pub walk-spares-on : (k n : ℕ) (s t v : State) (u : Unit {0}) → k < n → Goes k s t → Spares (Ok u) t v → SparesMemory n s → SparesMemory (n - k - 1) v
walk-spares-on k n s t v u l g c p = subst (λ i. SparesMemory i v) (before-last k n l) (spares-went n k t v u l c (walked-spares k n s t (omega (arith, l)) g p))

pub walk-spares-end : (k n : ℕ) (s t v : State) (e : End) → k < n → Goes k s t → Spares (Err e) t v → SparesMemory n s → e ≢ OutOfMemory
walk-spares-end k n s t v e l g c p = spares-ended n k t v e l c (walked-spares k n s t (omega (arith, l)) g p)

-- the count of steps; this many of n were left before
pub walk-later : (k n left : ℕ) (s t u : State) → left ≤ n → k ≤ left → IsLater (n - left) s t → Goes k t u → IsLater n s u
walk-later k n left s t u f l h g = few-later n (n - left + k) s u (omega (arith, f, l)) (both-later (n - left) k s t u h (walked-later k t u g))

pub walk-later-on : (k n left : ℕ) (s t u v : State) → left ≤ n → k < left → IsLater (n - left) s t → Goes k t u → IsLater 1 u v → IsLater (n - (left - k - 1)) s v
walk-later-on k n left s t u v f l h g one =
    few-later (n - (left - k - 1)) (n - left + k + 1) s v (omega (arith, f, l))
    (both-later (n - left + k) 1 s u v (both-later (n - left) k s t u h (walked-later k t u g)) one)

pub walk-later-end : (k n left : ℕ) (s t u v : State) → left ≤ n → k < left → IsLater (n - left) s t → Goes k t u → IsLater 1 u v → IsLater n s v
walk-later-end k n left s t u v f l h g one =
    few-later n (n - left + k + 1) s v (omega (arith, f, l))
    (both-later (n - left + k) 1 s u v (both-later (n - left) k s t u h (walked-later k t u g)) one)
