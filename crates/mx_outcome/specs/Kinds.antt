-- What an outcome tells: that the words are no order, or that a machine is left.
use Rattle.std.specs.Prelude.{Bool, true, false}
use Rattle.mx_outcome.specs.declared.outcome.Outcome.{Outcome}
use Rattle.mx_outcome.specs.declared.outcome.Outcome.TheVariants.{Done, Usage, NoFile, HostFault, Refused, BadObject, BadSchedule, Stopped, StepsSpent, Quit, ConsoleLimit, OutOfMemory}

-- whether an outcome tells that the words are no order
abbrev pub is_usage : Outcome → Bool
is_usage (Usage fault) = true
is_usage (Done status) = false
is_usage NoFile = false
is_usage HostFault = false
is_usage (Refused line fault from_line) = false
is_usage (BadObject place fault) = false
is_usage (BadSchedule place) = false
is_usage (Stopped pc reason) = false
is_usage (StepsSpent steps) = false
is_usage Quit = false
is_usage ConsoleLimit = false
is_usage OutOfMemory = false

-- where the machine is left with something to show
abbrev pub leaves_machine : Outcome → Bool
leaves_machine (Done status) = true
leaves_machine (Stopped pc reason) = true
leaves_machine (StepsSpent steps) = true
leaves_machine Quit = true
leaves_machine ConsoleLimit = true
leaves_machine (Usage fault) = false
leaves_machine NoFile = false
leaves_machine HostFault = false
leaves_machine (Refused line fault from_line) = false
leaves_machine (BadObject place fault) = false
leaves_machine (BadSchedule place) = false
leaves_machine OutOfMemory = false
