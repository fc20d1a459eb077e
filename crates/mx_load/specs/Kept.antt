-- What an image keeps, and the image that it represents.
use Rattle.std.specs.Prelude.{ℕ, ◌/◌, List, unwrap_or}
use Rattle.std.specs.Map.{lookup}
use Rattle.std.specs.Ordering.{nat_cmp}
use Rattle.std.specs.BTreeMap.{is_at}
use Rattle.mx_word.specs.declared.symbols.Symbol.{Symbol}
use Rattle.mx_mem.specs.Memory.{Stored, octa_at, has_page, page_count}
use Rattle.mx_mmo.specs.Image.{Image}
use Rattle.mx_mmo.specs.Meaning.{value_at}

-- memory, the lines other than 0 by a quarter of their tetra's address, the values of $g to $255
-- (none until they are given), and the symbols
pub record Kept : Type 0 where
  pub memory : Stored
  pub lines : List (ℕ × ℕ)
  pub g : ℕ
  pub globals : List ℕ
  pub symbols : List Symbol

-- the line of the tetra that holds an address; 0 where none is known
unfoldable pub line_at : List (ℕ × ℕ) → ℕ → ℕ
line_at lines a = unwrap_or (lookup (is_at (nat_cmp (a / 4))) lines) 0

-- the image that is kept
abbrev pub image_of : Kept → Image
image_of k = record {
  memory = octa_at k.memory;
  pages = has_page k.memory;
  page_count = page_count k.memory;
  line_of = line_at k.lines;
  g = k.g;
  global = value_at k.g k.globals;
}
