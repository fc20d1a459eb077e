-- The highest of the four segments of a program's memory, where the register stack lies (MMIXware, MMIXAL, predefined symbols).
use Rattle.std.specs.Prelude.{ℕ, ◌^◌, Bool, ◌&&◌, nat_le, nat_lt}

-- where Stack_Segment begins
abbrev pub stack_segment : ℕ
stack_segment = 0x6000_0000_0000_0000

-- whether an address lies in it
abbrev pub is_in_stack_segment : ℕ → Bool
is_in_stack_segment a = nat_le stack_segment a && nat_lt a (2 ^ 63)
