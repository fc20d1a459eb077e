-- The answer of a call in two bytes.
use Rattle.std.specs.Prelude.{Result, Ok, Err}
use Rattle.mx_code.specs.declared.stop.Stop.{Stop}
use Rattle.mx_code.specs.declared.stop.Stop.TheVariants as stop
use Rattle.mx_code.specs.declared.stop.Told.{Told}
use Rattle.mx_code.specs.declared.stop.Told.TheVariants as told

abbrev pub answer_in : Told → Result (Unit {0}) Stop
answer_in told.Made = Ok tt
answer_in (told.Stopped reason) = Err (stop.Stopped reason)
answer_in told.OutOfMemory = Err stop.OutOfMemory
