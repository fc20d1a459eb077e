-- The line that tells an outcome.
use Rattle.std.specs.Prelude.{ℕ, List, [], ◌++◌, ◌==◌, if◌then◌else◌, codes, decimal}
use Rattle.mx_text.specs.Numbers.{hex_text}
use Rattle.mx_outcome.specs.Names.{fault_name_of, usage_name_of}
use Rattle.mx_words.specs.declared.order.WordsFault.{WordsFault}
use Rattle.mx_outcome.specs.declared.outcome.Outcome.{Outcome}
use Rattle.mx_outcome.specs.declared.outcome.Outcome.TheVariants.{Done, Usage, NoFile, HostFault, Refused, BadObject, BadSchedule, Stopped, StepsSpent, Quit, ConsoleLimit, OutOfMemory}

-- a number and the name of a fault
abbrev pub numbered_fault : ℕ → List ℕ
numbered_fault number = decimal number ++ codes " " ++ fault_name_of number

-- where a reference that waited is, if that is what the fault is about
abbrev pub from_text : ℕ → List ℕ
from_text from_line = if from_line == 0 then [] else codes " from line " ++ decimal from_line

abbrev pub usage_text : WordsFault → List ℕ
usage_text fault = codes "usage fault " ++ decimal fault.kind ++ codes " " ++ usage_name_of fault.kind ++ codes " at word " ++ decimal fault.word ++ codes "\n"

abbrev pub refused_text : ℕ → ℕ → ℕ → List ℕ
refused_text line fault from_line = codes "line " ++ decimal line ++ codes ": " ++ numbered_fault fault ++ from_text from_line ++ codes "\n"

abbrev pub object_text : ℕ → ℕ → List ℕ
object_text place fault = codes "byte " ++ decimal place ++ codes ": " ++ numbered_fault fault ++ codes "\n"

abbrev pub schedule_text : ℕ → List ℕ
schedule_text place = codes "schedule byte " ++ decimal place ++ codes "\n"

abbrev pub stopped_text : ℕ → ℕ → List ℕ
stopped_text pc reason = hex_text pc ++ codes ": " ++ numbered_fault reason ++ codes "\n"

-- the message line; a run that is done, or that was left, has none
abbrev pub message_of : Outcome → List ℕ
message_of (Done b) = []
message_of Quit = []
message_of (Usage fault) = usage_text fault
message_of NoFile = codes "no file\n"
message_of HostFault = codes "host fault\n"
message_of (Refused line fault from_line) = refused_text line fault from_line
message_of (BadObject place fault) = object_text place fault
message_of (BadSchedule place) = schedule_text place
message_of (Stopped pc reason) = stopped_text pc reason
message_of (StepsSpent steps) = decimal steps ++ codes " steps spent\n"
message_of ConsoleLimit = codes "console limit\n"
message_of OutOfMemory = codes "out of memory\n"
