-- The numbers of the reasons why the machine stops.
-- A rule of this program.
use Rattle.std.specs.Prelude.{ℕ}
use Rattle.mx_code.specs.declared.reason.Reason.{Reason}
use Rattle.mx_code.specs.declared.reason.Reason.TheVariants.{Float, Illegal, Privileged, Negative, StackFull, Underflow, BadFrame, UnhandledTrip, PagesFull, ResumeInsert}

abbrev pub number_of : Reason → ℕ
number_of Float = 110
number_of Illegal = 111
number_of Privileged = 112
number_of Negative = 113
number_of StackFull = 114
number_of Underflow = 115
number_of BadFrame = 116
number_of UnhandledTrip = 117
number_of PagesFull = 118
number_of ResumeInsert = 120
