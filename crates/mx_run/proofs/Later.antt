-- The count of steps goes up by at most one in a turn, whatever the host tells.
use Rattle.std.proofs.Common.{◌≡◌, ℕ, ◌+◌, ◌%◌, ◌^◌, ◌≤◌, ◌<◌, Bool, arith, refl, ◌∙◌, ap}
use Rattle.mx_alu.specs.declared.call.TrapCall.{TrapCall}
use Rattle.mx_core.specs.MachineSpace.{rest_of}
use Rattle.mx_core.specs.State.{State}
use Rattle.mx_core.specs.Step.{Stepped, went, calls, stopped, step}
use Rattle.mx_core.specs.Way.Stepping.{advanced, step_answer}
use Rattle.mx_core.specs.Traps.{trapped, halted}
use Rattle.mx_core.specs.declared.step.Advance.{Advance}
use Rattle.mx_core.specs.declared.step.Step.{Step}
use Rattle.mx_core.specs.declared.step.Step.TheVariants as made
use Rattle.mx_core.proofs.StepCounts.{CountsOne, step-count}
use Rattle.mx_run.specs.Runs.{IsLater}
use Rattle.mx_run.specs.Turns.{with_touch_if}

-- COUNTS

pub one-later : (s t : State) → t.steps ≡ (s.steps + 1) % 2 ^ 64 → IsLater 1 s t
one-later s t h = record { made = 1; few = omega arith; counted = omega (arith, h) }

pub none-later : (n : ℕ) (s t : State) → t.steps ≡ s.steps → IsLater n s t
none-later n s t h = record { made = 0; few = omega arith; counted = omega (arith, h) }

pub both-later : (n k : ℕ) (s t u : State) → IsLater n s t → IsLater k t u → IsLater (n + k) s u
both-later n k s t u h g =
    record { made = h.made + g.made; few = omega (arith, h.few, g.few); counted = omega (arith, h.counted, g.counted) }

pub few-later : (n k : ℕ) (s t : State) → k ≤ n → IsLater k s t → IsLater n s t
few-later n k s t l h = record { made = h.made; few = omega (arith, h.few, l); counted = h.counted }

-- from a state with the same count
pub same-later : (n : ℕ) (s t u : State) → t.steps ≡ s.steps → IsLater n t u → IsLater n s u
same-later n s t u e h =
    record { made = h.made; few = h.few; counted = h.counted ∙ ap (λ k. (k + h.made) % 2 ^ 64) e }

-- TRAPS

pub trapped-count : (s : State) (call : TrapCall) (value : ℕ) → (trapped s call value).steps ≡ (s.steps + 1) % 2 ^ 64
unfolding trapped
trapped-count s call value = refl

pub trapped-later : (touching : Bool) (call : TrapCall) (value : ℕ) (s t : State) → t ≡ with_touch_if touching (trapped s call value) → IsLater 1 s t
trapped-later touching call value s t e = one-later s t (ap (λ (r : State). r.steps) e ∙ trapped-count s call value)

pub halted-later : (touching : Bool) (s t : State) → t ≡ with_touch_if touching (halted s) → IsLater 1 s t
halted-later touching s t e = one-later s t (ap (λ (r : State). r.steps) e)

pub touched-later : (touching : Bool) (s t : State) → t ≡ with_touch_if touching s → IsLater 1 s t
touched-later touching s t e = none-later 1 s t (ap (λ (r : State). r.steps) e)

pub ruleset finishing = (trapped-later, halted-later, touched-later)

-- what a trap leaves of the machine but for its memory
pub rest-steps : (s t : State) → rest_of s ≡ rest_of t → s.steps ≡ t.steps
rest-steps s t e = ap (λ (r : State). r.steps) e

pub ruleset resting = (rest-steps)

pub ruleset counting = (same-later)

-- STEPS

stepped-by : (a : Step) (s t : State) (x : Stepped) → CountsOne s x → (a, t) ≡ step_answer s x → IsLater 1 s t
stepped-by a s t (went u trace) h e = one-later s t (ap (λ (p : Step × State). p.1.steps) e ∙ h)
stepped-by a s t (calls call) h e = none-later 1 s t (ap (λ (p : Step × State). p.1.steps) e)
stepped-by a s t (stopped reason) h e = none-later 1 s t (ap (λ (p : Step × State). p.1.steps) e)

pub stepped-later : (a : Step) (s t : State) → (a, t) ≡ step_answer s (step s) → IsLater 1 s t
stepped-later a s t e = stepped-by a s t (step s) (step-count s) e

called-by : (call : TrapCall) (s t u : State) (x : Stepped) → (made.Trap call, t) ≡ step_answer s x → IsLater 1 t u → IsLater 1 s u
called-by call s t u (went v trace) e h = let first : made.Trap call ≡ made.Went trace = ap (λ p. p.0) e in absurd (cc)
called-by call s t u (calls other) e h = same-later 1 s t u (ap (λ (p : Step × State). p.1.steps) e) h
called-by call s t u (stopped reason) e h = let first : made.Trap call ≡ made.Stopped reason = ap (λ p. p.0) e in absurd (cc)

pub called-later : (call : TrapCall) (s t u : State) → (made.Trap call, t) ≡ step_answer s (step s) → IsLater 1 t u → IsLater 1 s u
called-later call s t u e h = called-by call s t u (step s) e h

pub unmade-later : (s t : State) → t ≡ s → IsLater 1 s t
unmade-later s t e = none-later 1 s t (ap (λ (r : State). r.steps) e)

pub ruleset stepping = (stepped-later, called-later, unmade-later)

-- STEPS WITHOUT A TRACE

advanced-by : (a : Advance) (s t : State) (x : Stepped) → CountsOne s x → (a, t) ≡ advanced s x → IsLater 1 s t
advanced-by a s t (went u trace) h e = one-later s t (ap (λ (p : Advance × State). p.1.steps) e ∙ h)
advanced-by a s t (calls call) h e = none-later 1 s t (ap (λ (p : Advance × State). p.1.steps) e)
advanced-by a s t (stopped reason) h e = none-later 1 s t (ap (λ (p : Advance × State). p.1.steps) e)

pub advanced-later : (a : Advance) (s t : State) → (a, t) ≡ advanced s (step s) → IsLater 1 s t
advanced-later a s t e = advanced-by a s t (step s) (step-count s) e

pub ruleset advancing = (unmade-later)

-- RUNS

pub begun-later : (s : State) → IsLater 0 s s
begun-later s = none-later 0 s s refl

pub turned-later : (i : ℕ) (s t u : State) → IsLater i s t → IsLater 1 t u → IsLater (i + 1) s u
turned-later i s t u h g = both-later i 1 s t u h g

pub last-later : (n i : ℕ) (s t u : State) → i < n → IsLater i s t → IsLater 1 t u → IsLater n s u
last-later n i s t u l h g = few-later n (i + 1) s u (omega (arith, l)) (both-later i 1 s t u h g)

pub ruleset running = (begun-later, turned-later, last-later, few-later)
