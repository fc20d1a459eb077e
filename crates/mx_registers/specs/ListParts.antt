-- A list of octas that keeps more of them than count.
use Rattle.std.specs.Prelude.{ℕ, ◌+◌, ◌-◌, ◌^◌, ◌≤◌, List, length, take}
use Rattle.std.specs.Vec.{vec_capacity}
use Rattle.mx_registers.specs.declared.list.HiddenList.TheInside.{Inside}

pub record ListPart : Type 0 where
  -- the octas that count
  pub octas : List ℕ
  -- how many may count before more are kept
  pub room : ℕ

abbrev pub list_in : Inside → ListPart
list_in i = record { octas = take i.count i.octas.items; room = length i.octas.items - 16 }

-- 16 octas are kept after those that count, and there is memory for all that may be kept
pub record HoldsList (i : Inside) : Type 0 where
  pub has_spare : i.count + 16 ≤ length i.octas.items
  pub has_room : length i.octas.items ≤ 2 ^ 20 + 16
  pub has_memory : 2 ^ 20 + 16 ≤ vec_capacity i.octas
