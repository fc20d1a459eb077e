-- A machine that has no memory of its own, at the start of a program; and memory by itself, which machines may exchange.
use Rattle.std.specs.Prelude.{ℕ, ◌-◌, ◌*◌, ◌/◌, Bool, false, List, [], ◌∷◌, get_or}
use Rattle.mx_mem.specs.Memory.{Stored, octa_at, has_page, page_count}
use Rattle.mx_registers.specs.Registers.{Registers}
use Rattle.mx_ring.specs.Stack.{Stack, with_visible}
use Rattle.mx_ring.specs.Window.{Window, window_at_start}
use Rattle.mx_core.specs.State.{State}

-- MEMORY BY ITSELF

-- memory outside the stack area: at each address the octa that holds it, and the pages that are there
pub record Shared : Type 0 where
  pub octas : ℕ → ℕ
  pub pages : ℕ → Bool
  pub page_count : ℕ

-- memory as it is kept, and that in which nothing was stored
abbrev pub shared_in : Stored → Shared
shared_in m = record { octas = octa_at m; pages = has_page m; page_count = page_count m }

abbrev pub nothing_shared : Shared
nothing_shared = record { octas = λ _. 0; pages = λ _. false; page_count = 0 }

-- the memory of a state, and the state with other memory
abbrev pub shared_of : State → Shared
shared_of s = record { octas = s.octas; pages = s.pages; page_count = s.page_count }

abbrev pub with_shared : Shared → State → State
with_shared m s = record s { octas = m.octas; pages = m.pages; page_count = m.page_count }

-- THE START

-- the special registers by their codes: rN is a serial number, rT and rTT are addresses for traps, rK enables all
-- interrupts, and rV has the rules of virtual addresses; the machine leaves these as they are
unfoldable pub special_at_start : List ℕ
special_at_start =
    0 ∷ 0 ∷ 0 ∷ 0 ∷ 0 ∷ 0 ∷ 0 ∷ 0 ∷ 0 ∷ 0x0100_0000_0000_0000 ∷ 0 ∷ 0 ∷ 0 ∷ 0x8000_0005_0000_0000 ∷ 0x8000_0006_0000_0000
    ∷ 0xffff_ffff_ffff_ffff ∷ 0 ∷ 0 ∷ 0x369c_2004_0000_0000 ∷ 0 ∷ 0 ∷ 0 ∷ 0 ∷ 0 ∷ 0 ∷ 0 ∷ 0 ∷ 0 ∷ 0 ∷ 0 ∷ 0 ∷ 0 ∷ []

-- $0 and $1 have these values, and $g to $255 those of the list
abbrev pub bare_registers : ℕ → List ℕ → ℕ → ℕ → Registers
bare_registers g globals first second = record { locals = first ∷ second ∷ []; first_global = g; globals = globals }

-- the window at the start, with these registers
abbrev pub window_with : ℕ → Registers → Window
window_with size v = record (window_at_start size) { visible = v }

-- the machine with no memory, over a register stack at its start; it begins at the address that $255 has
abbrev pub bare : ℕ → List ℕ → ℕ → ℕ → Stack → State
bare g globals first second stack = record {
  pc = get_or globals (255 - g) 0 / 4 * 4;
  octas = λ _. 0;
  pages = λ _. false;
  page_count = 0;
  stack = with_visible stack (bare_registers g globals first second);
  special = special_at_start;
  mark = 0;
  touched = false;
  steps = 0;
}
