-- What is kept of several processors, and what holds of it.
use Rattle.std.specs.Prelude.{map}
use Rattle.mx_core.specs.Kept.{state_of}
use Rattle.mx_multi.specs.Joint.{Processors, AllAlone}
use Rattle.mx_multi.specs.declared.multi.Multi.TheInside.{Inside}

abbrev pub kept_in : Inside → Processors
kept_in i = record { machines = i.seats.machines; halted = i.seats.halted; memory = i.memory }

-- while they take no turns, no processor has memory of its own
abbrev pub Holds : Inside → Type 0
Holds i = AllAlone (map state_of i.seats.machines)
