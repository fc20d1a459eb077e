-- The statuses that a process ends with.
use Rattle.std.specs.Prelude.{ℕ}
use Rattle.mx_outcome.specs.declared.outcome.Outcome.{Outcome}
use Rattle.mx_outcome.specs.declared.outcome.Outcome.TheVariants.{Done, Usage, NoFile, HostFault, Refused, BadObject, BadSchedule, Stopped, StepsSpent, Quit, ConsoleLimit, OutOfMemory}

abbrev pub status_of : Outcome → ℕ
status_of (Done b) = b
status_of Quit = 0
status_of (Usage fault) = 64
status_of (Refused line fault from_line) = 65
status_of (BadObject place fault) = 65
status_of (BadSchedule place) = 65
status_of NoFile = 66
status_of (Stopped pc reason) = 70
status_of OutOfMemory = 71
status_of HostFault = 74
status_of (StepsSpent steps) = 75
status_of ConsoleLimit = 76
