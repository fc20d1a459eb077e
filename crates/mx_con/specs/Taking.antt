-- How many bytes of the console's input a session takes, whatever a host answers.
use Rattle.std.specs.Prelude.{ℕ, ◌≤◌, ◌-◌}
use Rattle.mx_plan.specs.Plan.{returns, calls}
use Rattle.mx_plan.specs.Calls.{HostSays}
use Rattle.mx_plan.specs.Taking.{CanSay, taken}
use Rattle.mx_con.specs.LinePlans.{input_slot}
use Rattle.mx_con.specs.SessionPlans.{SessionSays, SessionPlan, of_host}

-- A part of a session takes at most n bytes of the console's input, whatever its calls answer; where it returns a, it has left
-- `spare a` of the n. Only its own calls of the host take such bytes.
unfoldable pub Takes : {A : Type 0} → (A → ℕ) → ℕ → SessionPlan A → Type 0
Takes spare n (returns a) = spare a ≤ n
Takes spare n (calls (of_host o) k) =
    (r : HostSays o) → CanSay o r → (taken input_slot o r ≤ n) × Takes spare (n - taken input_slot o r) (k r)
Takes spare n (calls other k) = (r : SessionSays other) → Takes spare n (k r)

-- at most n bytes of the console's input are taken
abbrev pub TakesAtMost : {A : Type 0} → ℕ → SessionPlan A → Type 0
TakesAtMost n p = Takes (λ a. 0) n p
