-- The register stack as a window: a ring of this many registers, and a stack area in memory (MMIXware, the part on MMIX,
-- rO and rS).
use Rattle.std.specs.Prelude.{ℕ}
use Rattle.mx_registers.specs.HiddenPart.{HiddenPart, octas_of, nothing_hidden}
use Rattle.mx_ring.specs.RegisterList.{RegisterList}
use Rattle.mx_registers.specs.Registers.{Registers, registers_at_start}

pub record Window : Type 0 where
  -- how many registers the ring has; hidden and local ones in it are always fewer
  pub size : ℕ
  -- the hidden octas
  pub hidden : HiddenPart
  -- the registers that an instruction sees
  pub visible : Registers

-- at the start, with this many registers
abbrev pub window_at_start : ℕ → Window
window_at_start size = record { size = size; hidden = nothing_hidden; visible = registers_at_start }

-- the list that a window represents
unfoldable pub as_list : Window → RegisterList
as_list w = record { hidden = octas_of w.hidden; visible = w.visible }
