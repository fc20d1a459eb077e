-- What the machine keeps, and the state that it is.
use Rattle.std.specs.Prelude.{ℕ, Bool, List}
use Rattle.mx_mem.specs.Memory.{Stored, octa_at, has_page, page_count}
use Rattle.mx_ring.specs.Stack.{windowed}
use Rattle.mx_ring.specs.Window.{Window}
use Rattle.mx_core.specs.State.{State}

pub record Kept : Type 0 where
  pub pc : ℕ
  pub memory : Stored
  pub ring : Window
  pub special : List ℕ
  pub mark : ℕ
  pub touched : Bool
  pub steps : ℕ

-- its state, over a window
unfoldable pub state_of : Kept → State
state_of k = record {
  pc = k.pc;
  octas = octa_at k.memory;
  pages = has_page k.memory;
  page_count = page_count k.memory;
  stack = windowed k.ring;
  special = k.special;
  mark = k.mark;
  touched = k.touched;
  steps = k.steps;
}
