-- The machine as a space of bytes: its memory, with the stack area from the register stack, and all else as the rest.
use Rattle.std.specs.Prelude.{ℕ, ◌≡◌, ◌<◌, ◌/◌, ◌^◌, length, true, false, if◌then◌else◌, List, [], map}
use Rattle.std.specs.List.{range_with_len}
use Rattle.mx_word.specs.Octas.{byte_in}
use Rattle.mx_mem.specs.Space.{Contents, octa_of}
use Rattle.mx_ring.specs.Stack.{Stack, listed, windowed, in_stack_area, stack_address}
use Rattle.mx_ring.specs.Window.{Window}
use Rattle.mx_core.specs.Kept.{Kept, state_of}
use Rattle.mx_core.specs.State.{State, octa}

-- the register stack with these octas in the stack area; a list has no stack area
abbrev pub with_area : Stack → List ℕ → Stack
with_area (listed r) octas = listed r
with_area (windowed w) octas = windowed (record w { hidden = record w.hidden { stack = octas } })

-- the state without its memory; below the stack area memory has nothing, whatever is there
abbrev pub rest_of : State → State
rest_of s = record s {
  octas = λ a. if in_stack_area a then s.octas a else 0;
  pages = λ _. false;
  page_count = 0;
  stack = with_area s.stack [];
}

abbrev pub machine_contents : State → Contents State
machine_contents s = record {
  bytes = byte_in (octa s);
  pages = s.pages;
  page_count = s.page_count;
  is_stack_apart = true;
  rest = rest_of s;
}

abbrev pub kept_contents : Kept → Contents State
kept_contents k = machine_contents (state_of k)

-- the state that has these contents: memory by its octas, and the first n octas of the stack area, which are all of them
unfoldable pub area_in : (ℕ → ℕ) → ℕ → List ℕ
area_in bytes n = map (λ i. octa_of bytes (stack_address i)) (range_with_len 0 n)

unfoldable pub state_in : Contents State → ℕ → State
state_in c n = record c.rest {
  octas = λ a. if in_stack_area a then c.rest.octas a else octa_of c.bytes a;
  pages = c.pages;
  page_count = c.page_count;
  stack = with_area c.rest.stack (area_in c.bytes n);
}

-- a state over a window whose memory is one octa for each eight addresses, as that of each machine is
pub record IsWholeSpace (s : State) : Type 0 where
  pub window : Window
  pub over : s.stack ≡ windowed window
  pub area : length window.hidden.stack ≡ 2 ^ 20
  pub octas_fit : (a : ℕ) → octa s a < 2 ^ 64
  pub octawise : (q a : ℕ) → q / 8 ≡ a / 8 → s.octas q ≡ s.octas a
