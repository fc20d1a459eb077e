-- How many bytes a plan of the host takes from a slot, whatever the host answers.
use Rattle.std.specs.Prelude.{ℕ, ◌≤◌, ◌-◌, ◌==◌, if◌then◌else◌, length, Ok, Err}
use Rattle.mx_plan.specs.Plan.{returns, calls}
use Rattle.mx_plan.specs.Calls.{HostCall, HostSays, HostPlan, opening, closing, reading, writing, seeking, telling, needing}

-- a call that reads gives at most as many bytes as were asked for
abbrev pub CanSay : (o : HostCall) → HostSays o → Type 0
CanSay (reading slot len) (Ok bytes) = length bytes ≤ len
CanSay (reading slot len) (Err fault) = Unit {0}
CanSay (opening slot name mode) r = Unit {0}
CanSay (closing slot) r = Unit {0}
CanSay (writing slot from) r = Unit {0}
CanSay (seeking slot to) r = Unit {0}
CanSay (telling slot) r = Unit {0}
CanSay needing r = Unit {0}

-- how many bytes a call took from a slot, by its answer
abbrev pub taken : ℕ → (o : HostCall) → HostSays o → ℕ
taken from (reading slot len) (Ok bytes) = if slot == from then length bytes else 0
taken from (reading slot len) (Err fault) = 0
taken from (opening slot name mode) r = 0
taken from (closing slot) r = 0
taken from (writing slot bytes) r = 0
taken from (seeking slot to) r = 0
taken from (telling slot) r = 0
taken from needing r = 0

-- A plan takes at most n bytes from a slot, whatever its calls answer; where it returns a, it has left `spare a` of the n.
unfoldable pub Spares : {A : Type 0} → ℕ → (A → ℕ) → ℕ → HostPlan A → Type 0
Spares from spare n (returns a) = spare a ≤ n
Spares from spare n (calls o k) = (r : HostSays o) → CanSay o r → (taken from o r ≤ n) × Spares from spare (n - taken from o r) (k r)

-- at most n bytes are taken from a slot
abbrev pub TakesAtMost : {A : Type 0} → ℕ → ℕ → HostPlan A → Type 0
TakesAtMost from n p = Spares from (λ a. 0) n p
