-- The machine at the start of a program: the object's image, and the arguments in the pool segment (MMIXware, the part
-- on MMIX-SIM, "Loading the object").
use Rattle.std.specs.Prelude.{ℕ, ◌+◌, ◌-◌, ◌*◌, ◌/◌, ◌||◌, false, if◌then◌else◌, List, [], ◌∷◌, ◌++◌, length, map, replicate, Option, None, Some}
use Rattle.std.specs.List.{flat_map, range_with_len}
use Rattle.mx_mmo.specs.Image.{Image}
use Rattle.mx_mmo.specs.Reading.{octas_of}
use Rattle.mx_registers.specs.Registers.{Registers}
use Rattle.mx_ring.specs.Stack.{Stack, with_visible}
use Rattle.mx_core.specs.Bare.{special_at_start}
use Rattle.mx_core.specs.State.{State, with_octa, is_negative, is_page_refused}

-- THE POOL

-- where the pool segment begins
abbrev pub pool : ℕ
pool = 0x4000_0000_0000_0000

-- how many bytes a text takes, with at least one zero byte after it, in whole octas
abbrev pub text_size : List ℕ → ℕ
text_size text = 8 * (length text / 8 + 1)

abbrev pub text_octas : List ℕ → List ℕ
text_octas text = octas_of (text ++ replicate (text_size text - length text) 0)

-- where texts are, one after the other, and where they end
abbrev pub text_addresses : ℕ → List (List ℕ) → List ℕ
text_addresses at [] = []
text_addresses at (text ∷ texts) = at ∷ text_addresses (at + text_size text) texts

abbrev pub texts_end : ℕ → List (List ℕ) → ℕ
texts_end at [] = at
texts_end at (text ∷ texts) = texts_end (at + text_size text) texts

-- the first text follows the first free address, the pointers and an octa of 0
abbrev pub first_text : List (List ℕ) → ℕ
first_text arguments = pool + 8 * (length arguments + 2)

-- the octas of the pool: the first free address, the pointers to the texts, an octa of 0, and the texts
unfoldable pub pool_octas : List (List ℕ) → List ℕ
pool_octas arguments =
    texts_end (first_text arguments) arguments ∷ text_addresses (first_text arguments) arguments
    ++ 0 ∷ flat_map text_octas arguments

-- octas in memory, one after the other from an address on, unless one of them needs a page too many
unfoldable pub with_octas : State → ℕ → List ℕ → Option State
with_octas s a [] = Some s
with_octas s a (x ∷ xs) = if is_negative a || is_page_refused s a then None else with_octas (with_octa s a x) (a + 8) xs

-- THE REGISTERS

-- $0 is the number of arguments, $1 leads to the pointers, and the image has the globals
abbrev pub registers_of : Image → ℕ → Registers
registers_of image count = record {
  locals = count ∷ (pool + 8) ∷ [];
  first_global = image.g;
  globals = map image.global (range_with_len image.g (256 - image.g));
}

-- THE START, over a register stack at its start; $255 is the address of Main

abbrev pub loaded : Image → ℕ → Stack → State
loaded image count stack = record {
  pc = image.global 255 / 4 * 4;
  octas = image.memory;
  pages = image.pages;
  page_count = image.page_count;
  stack = with_visible stack (registers_of image count);
  special = special_at_start;
  mark = 0;
  touched = false;
  steps = 0;
}

-- nothing where the pages are full
unfoldable pub start : Image → List (List ℕ) → Stack → Option State
start image arguments stack = with_octas (loaded image (length arguments) stack) pool (pool_octas arguments)
