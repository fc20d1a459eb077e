-- The octas of the stack area, of which those are kept that were used.
use Rattle.std.specs.Prelude.{Vec, ℕ, ◌-◌, ◌^◌, ◌≤◌, List, ◌++◌, length}
use Rattle.std.specs.Global.{Global}
use Rattle.std.specs.Vec.{vec_capacity}
use Rattle.mx_registers.specs.HiddenPart.{zeros}
use Rattle.mx_registers.specs.declared.area.Area.TheInside.{Inside}

-- n octas, of which the first ones are given and the others are 0
unfoldable pub filled : ℕ → List ℕ → List ℕ
filled n octas = octas ++ zeros (n - length octas)

abbrev pub area_in : Inside → List ℕ
area_in i = filled (2 ^ 20) i.octas.items

-- octas of the area are kept: they are no more than the area has, and there is memory for all of it
pub record AreKept (octas : Vec ℕ Global) : Type 0 where
  pub has_room : length octas.items ≤ 2 ^ 20
  pub has_memory : 2 ^ 20 ≤ vec_capacity octas
