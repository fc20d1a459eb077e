-- The numbers of the stops.
use Rattle.std.specs.Prelude.{ℕ}
use Rattle.mx_trap.specs.declared.answer.TrapStop.{TrapStop}
use Rattle.mx_trap.specs.declared.answer.TrapStop.TheVariants.{Negative, WideTrap, TransferTooLarge, TrapPagesFull, UnknownTrap}

abbrev pub stop_number : TrapStop → ℕ
stop_number Negative = 113
stop_number WideTrap = 121
stop_number TransferTooLarge = 122
stop_number TrapPagesFull = 123
stop_number UnknownTrap = 124
