-- The services of file traps, by the fields X, Y and Z of the tetra TRAP X,Y,Z.
use Rattle.std.specs.Prelude.{ℕ, ◌/◌, ◌%◌, ◌^◌, ◌==◌, Result, Ok, Err, if◌then◌else◌}
use Rattle.mx_trap.specs.declared.answer.TrapStop.{TrapStop}
use Rattle.mx_trap.specs.declared.answer.TrapStop.TheVariants.{WideTrap, UnknownTrap}
use Rattle.mx_trap.specs.declared.service.Service.{Service}
use Rattle.mx_trap.specs.declared.service.Service.TheVariants.{Halt, Fopen, Fclose, Fread, Fgets, Fwrite, Fputs, Fseek, Ftell}

-- the fields; Z is the slot
abbrev pub x_of : ℕ → ℕ
x_of word = word / 2 ^ 16 % 256

abbrev pub y_of : ℕ → ℕ
y_of word = word / 2 ^ 8 % 256

abbrev pub z_of : ℕ → ℕ
z_of word = word % 256

-- the service of number y for the handle z: 5 and 8 are on wide characters, and no service has a number above 10
abbrev pub service_numbered : ℕ → ℕ → Result Service TrapStop
service_numbered y z =
    if y == 0 then (if z == 0 then Ok Halt else Err UnknownTrap)
    else if y == 1 then Ok Fopen
    else if y == 2 then Ok Fclose
    else if y == 3 then Ok Fread
    else if y == 4 then Ok Fgets
    else if y == 5 then Err WideTrap
    else if y == 6 then Ok Fwrite
    else if y == 7 then Ok Fputs
    else if y == 8 then Err WideTrap
    else if y == 9 then Ok Fseek
    else if y == 10 then Ok Ftell
    else Err UnknownTrap

-- the service of a tetra
unfoldable pub service_of : ℕ → Result Service TrapStop
service_of word = if x_of word == 0 then service_numbered (y_of word) (z_of word) else Err UnknownTrap
