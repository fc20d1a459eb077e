-- The state of the machine, with the register stack as a list or as a window (MMIXware, the part on MMIX).
use Rattle.std.specs.Prelude.{ℕ, ◌+◌, ◌/◌, ◌^◌, ◌==◌, ◌&&◌, not, nat_le, Bool, if◌then◌else◌, List, slice_index, slice_set}
use Rattle.mx_word.specs.Octas.{with_page}
use Rattle.mx_mem.specs.Memory.{tetra_of, stored_at}
use Rattle.mx_mem.specs.Parts.{with_part}
use Rattle.mx_mem.specs.declared.part.Part.{Part}
use Rattle.mx_ring.specs.Stack.{Stack, visible, hidden_count, local_count, spilled_count, register, with_register, stack_address, in_stack_area, stack_index, stack_octa, with_stack_octa}
use Rattle.mx_code.specs.SpecialRegisters.{rC, rO, rS, rG, rL}

pub record State : Type 0 where
  -- the address of the next instruction, a multiple of 4
  pub pc : ℕ
  -- memory outside the stack area: at each address the octa that holds it, 0 where nothing was stored
  pub octas : ℕ → ℕ
  -- the pages that are there, by their numbers, and how many they are
  pub pages : ℕ → Bool
  pub page_count : ℕ
  -- the registers $0 to $255 and the hidden ones; a window has the stack area too
  pub stack : Stack
  -- the special registers by their codes; 0 in place of rC, rO, rS, rG and rL, which the other parts tell
  pub special : List ℕ
  -- the number of hidden octas below which saved frames lie
  pub mark : ℕ
  -- whether a program or a user looked at rS or at the memory of the register stack
  pub touched : Bool
  -- the steps made, modulo 2^64
  pub steps : ℕ

-- REGISTERS

-- G, and L
abbrev pub global_start : State → ℕ
global_start s = (visible s.stack).first_global

abbrev pub locals : State → ℕ
locals s = local_count s.stack

-- what the special register of a code has
unfoldable pub special_register : State → ℕ → ℕ
special_register s code =
    if code == rC then s.steps
    else if code == rO then stack_address (hidden_count s.stack)
    else if code == rS then stack_address (spilled_count s.stack)
    else if code == rG then global_start s
    else if code == rL then locals s
    else slice_index s.special code

-- a special register gets a value
abbrev pub with_special : State → ℕ → ℕ → State
with_special s code value = record s { special = slice_set s.special code value }

-- $k gets a value
abbrev pub with_value_in : State → ℕ → ℕ → State
with_value_in s k value = record s { stack = with_register s.stack k value }

-- $k is made local, where it is neither local nor global
abbrev pub with_local : State → ℕ → State
with_local s k = with_value_in s k (register s.stack k)

-- MEMORY

-- the octa that holds an address; the octas of the stack area belong to the register stack
unfoldable pub octa : State → ℕ → ℕ
octa s a = if in_stack_area a then stack_octa s.stack (stack_index a) else s.octas a

-- the tetra that holds an address
abbrev pub tetra : State → ℕ → ℕ
tetra s a = tetra_of (octa s a) a

-- whether a store at an address would begin a page, and whether it is one too many
abbrev pub begins_page : State → ℕ → Bool
begins_page s a = not (in_stack_area a) && not (s.pages (a / 4096))

abbrev pub is_page_refused : State → ℕ → Bool
is_page_refused s a = begins_page s a && s.page_count == 65536

-- memory with an octa in place of the one that holds an address, on a page that is then there
unfoldable pub with_octa : State → ℕ → ℕ → State
with_octa s a x =
    if in_stack_area a then record s { stack = with_stack_octa s.stack (stack_index a) x }
    else record s {
      octas = stored_at s.octas a x;
      pages = with_page s.pages (a / 4096);
      page_count = if s.pages (a / 4096) then s.page_count else s.page_count + 1;
    }

-- memory with the low bytes of x in place of the part that holds an address
abbrev pub with_stored : State → ℕ → Part → ℕ → State
with_stored s a part x = with_octa s a (with_part part (octa s a) a x)

-- no octa has an address of 2^63 or more
abbrev pub is_negative : ℕ → Bool
is_negative a = nat_le (2 ^ 63) a
