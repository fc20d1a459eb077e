-- The register stack as an unbounded list (MMIXware, the part on MMIX, "The register stack"; TAOCP 1, Fascicle 1,
-- section 1.4.1').
use Rattle.std.specs.Prelude.{ℕ, List, []}
use Rattle.mx_registers.specs.Registers.{Registers, registers_at_start}

pub record RegisterList : Type 0 where
  -- the hidden octas, the oldest first
  pub hidden : List ℕ
  -- the registers that an instruction sees
  pub visible : Registers

-- at the start nothing is hidden
abbrev pub list_at_start : RegisterList
list_at_start = record { hidden = []; visible = registers_at_start }
