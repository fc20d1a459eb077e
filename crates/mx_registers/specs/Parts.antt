-- How the registers and the hidden octas are kept, and the pieces that the operations on them are made of.
use Rattle.std.specs.Prelude.{ℕ, ◌+◌, ◌-◌, ◌^◌, ◌≡◌, ◌≤◌, min, List, ◌++◌, length, take, drop, replicate}
use Rattle.mx_registers.specs.Bounds.{AreInBounds}
use Rattle.mx_registers.specs.HiddenPart.{HiddenPart}
use Rattle.mx_registers.specs.Registers.{Registers}
use Rattle.mx_registers.specs.declared.hidden.Hidden.TheInside.{Inside as HiddenInside}
use Rattle.mx_registers.specs.declared.visible.Visible.TheInside.{Inside as VisibleInside}

-- what each of the 256 registers has: the locals, zeros up to the first global one, and the globals
abbrev pub all_values : Registers → List ℕ
all_values v = v.locals ++ replicate (v.first_global - length v.locals) 0 ++ v.globals

-- the registers in an array of what each of them has
abbrev pub registers_in : VisibleInside → Registers
registers_in i = record {
  locals = take i.local_count i.values;
  first_global = i.first_global;
  globals = drop i.first_global i.values;
}

-- the array has what each register has
pub record HoldsRegisters (i : VisibleInside) : Type 0 where
  pub in_bounds : AreInBounds (registers_in i)
  pub all_locals : length (take i.local_count i.values) ≡ i.local_count
  pub all_shown : i.values ≡ all_values (registers_in i)

-- the hidden octas in a list of all of them; those that are spilled are in the stack area too
abbrev pub part_in : HiddenInside → HiddenPart
part_in i = record { stack = i.stack; spilled = i.spilled; resident = drop i.spilled i.list.octas }

-- where nothing is spilled for a register or a call: hidden and local registers up to this number. With them a ring of
-- the least size has 255 registers, and there are 2^20 in all
abbrev pub limit_for : ℕ → ℕ
limit_for spilled = min (spilled + 255) (2 ^ 20)

-- the spilled octas are the same in both places, and octas are kept up to the limit
pub record HoldsHidden (i : HiddenInside) : Type 0 where
  pub spilled_are_hidden : i.spilled ≤ length i.list.octas
  pub same_spilled : take i.spilled i.list.octas ≡ take i.spilled i.stack
  pub all_stack : length i.stack ≡ 2 ^ 20
  pub has_room : length i.list.octas ≤ 2 ^ 20
  pub has_limit : i.limit ≡ limit_for i.spilled
  pub has_list : i.limit ≤ i.list.room

-- zeros in place of the octas from one place up to another
abbrev pub with_zeros_at : List ℕ → ℕ → ℕ → List ℕ
with_zeros_at items from to = take from items ++ replicate (to - from) 0 ++ drop to items
