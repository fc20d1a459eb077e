-- What the machine's fields are, and what holds of them.
use Rattle.std.specs.Prelude.{◌≡◌, ◌<◌, ◌≤◌, ◌%◌, ◌^◌, false, slice_index}
use Rattle.mx_code.specs.SpecialRegisters.{rA}
use Rattle.mx_core.specs.Kept.{Kept}
use Rattle.mx_core.specs.declared.machine.Machine.TheInside.{Inside}

abbrev pub kept : Inside → Kept
kept i = record {
  pc = i.pc;
  memory = i.memory;
  ring = i.ring;
  special = i.special;
  mark = i.mark;
  touched = i.touched;
  steps = i.steps;
}

-- rA has 18 bits, the next address is a multiple of 4, and as long as nothing was touched saved frames are spilled
abbrev pub Holds : Inside → Type 0
Holds i = (slice_index i.special rA < 2 ^ 18) × (i.pc % 4 ≡ 0) × (i.touched ≡ false → i.mark ≤ i.ring.hidden.spilled)
