-- The outcome that a run comes to, by its end.
use Rattle.std.specs.Prelude.{ℕ, ◌≡◌, ◌≢◌, false}
use Rattle.mx_run.specs.declared.end.End.{End}
use Rattle.mx_run.specs.declared.end.End.TheVariants as ending
use Rattle.mx_outcome.specs.Kinds.{is_usage}
use Rattle.mx_outcome.specs.declared.outcome.Outcome.{Outcome}
use Rattle.mx_outcome.specs.declared.outcome.Outcome.TheVariants.{Done, HostFault, NoFile, Stopped, StepsSpent, OutOfMemory}

-- the outcome of a run of at most this many steps; without flags a run does not break
abbrev pub outcome_of : ℕ → End → Outcome
outcome_of steps (ending.Halted status) = Done status
outcome_of steps (ending.Stopped pc reason) = Stopped pc reason
outcome_of steps (ending.Broke kind at traced) = OutOfMemory
outcome_of steps (ending.Traced trace) = OutOfMemory
outcome_of steps ending.Spent = StepsSpent steps
outcome_of steps ending.OutOfMemory = OutOfMemory

-- an outcome that a machine comes to: neither a fault of the host, nor a file that is missing, nor a fault of the words
abbrev pub IsOfMachine : Outcome → Type 0
IsOfMachine outcome = (outcome ≢ HostFault) × (outcome ≢ NoFile) × (is_usage outcome ≡ false)
