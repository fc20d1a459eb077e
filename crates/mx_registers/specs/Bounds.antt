-- What holds of the registers at all times.
use Rattle.std.specs.Prelude.{◌+◌, ◌≡◌, ◌≤◌, length}
use Rattle.mx_registers.specs.Registers.{Registers}

-- L is at most G, which is from 32 to 255.
pub record AreInBounds (v : Registers) : Type 0 where
  pub locals_below_globals : length v.locals ≤ v.first_global
  pub least_global : 32 ≤ v.first_global
  pub one_is_global : v.first_global ≤ 255
  pub all_globals : v.first_global + length v.globals ≡ 256
