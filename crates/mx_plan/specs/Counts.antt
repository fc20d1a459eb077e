-- What differs in the number of calls alone, or in it and in the list of those that fail.
use Rattle.std.specs.Prelude.{ℕ, ◌≡◌, ◌≤◌, ◌<◌, false, []}
use Rattle.mx_host.specs.HostModel.{HostModel, is_listed}
use Rattle.mx_plan.specs.Calls.{Both}

-- the model with no call counted
abbrev pub without_count : HostModel → HostModel
without_count m = record m { calls = 0 }

-- the model with no call counted and none that fails
abbrev pub unscheduled : HostModel → HostModel
unscheduled m = record m { calls = 0; failing = [] }

-- None of the calls that were made from one model to a later one is listed as one that fails: their numbers are those
-- from the count of the one on, and below the count of the other.
abbrev pub NoneFailed : HostModel → HostModel → Type 0
NoneFailed before after = (call : ℕ) → before.calls ≤ call → call < after.calls → is_listed call before.failing ≡ false

-- an answer, the space and the model, but for the number of calls and the list of those that fail
abbrev pub end_unscheduled : {A Rest : Type 0} → A × Both Rest → A × Both Rest
end_unscheduled t = (t.0, (t.1.0, unscheduled t.1.1))
