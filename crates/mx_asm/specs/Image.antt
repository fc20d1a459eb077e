-- The image of a source: memory, pages, lines and global registers; and its symbols. (MMIXware, MMIXAL: data is loaded by
-- exclusive or; MMO, lop_line; GREG and Main.)
use Rattle.std.specs.Prelude.{ℕ, zero, suc, ◌+◌, ◌-◌, ◌*◌, ◌/◌, ◌^◌, ◌==◌, ◌&&◌, Bool, nat_le, if◌then◌else◌, List, [], ◌∷◌, ◌++◌, fold}
use Rattle.std.specs.List.{list_any}
use Rattle.mx_word.specs.Words.{octa_from_bytes}
use Rattle.mx_word.specs.declared.symbols.Symbol.{Symbol}
use Rattle.mx_mmo.specs.Image.{Image}
use Rattle.mx_mmo.specs.Meaning.{value_at}
use Rattle.mx_names.specs.Gregs.{lowest_of}
use Rattle.mx_stmt.specs.Operands.{Known}
use Rattle.mx_stmt.specs.Encoding.{StatementTree}
pub use Rattle.mx_stmt.specs.Placements.{from_place, placed}
use Rattle.mx_asm.specs.TwoPass.{Piece, pieces, final_known}
use Rattle.mx_asm.specs.Emission.{main_of}

-- all bytes that pieces place, each with its address
unfoldable pub placements : List Piece → List (ℕ × ℕ)
placements [] = []
placements (p ∷ later) = from_place p.start p.bytes ++ placements later

-- the octa that holds an address, by the bytes at each
abbrev pub octa_from : (ℕ → ℕ) → ℕ → ℕ
octa_from bytes a =
    octa_from_bytes (bytes a ∷ bytes (a + 1) ∷ bytes (a + 2) ∷ bytes (a + 3) ∷ bytes (a + 4) ∷ bytes (a + 5) ∷ bytes (a + 6) ∷ bytes (a + 7) ∷ [])

abbrev pub octa_in : (ℕ → ℕ) → ℕ → ℕ
octa_in bytes a = octa_from bytes (a / 8 * 8)

-- the pages of 4,096 bytes, by their numbers, that bytes are placed on; and how many they are
abbrev pub pages_of : List (ℕ × ℕ) → ℕ → Bool
pages_of ps page = list_any (λ p. p.0 / 4096 == page) ps

unfoldable pub pages_below : ℕ → (ℕ → Bool) → ℕ
pages_below zero pages = 0
pages_below (suc n) pages = (if pages n then 1 else 0) + pages_below n pages

-- memory ends below the address 2^63
abbrev pub page_count : (ℕ → Bool) → ℕ
page_count pages = pages_below (2 ^ 51) pages

-- The tetra that holds an address is covered where one of its bytes is placed.
abbrev pub is_covered : Piece → ℕ → Bool
is_covered p a = list_any (λ (q : ℕ × ℕ). q.0 / 4 == a / 4) (from_place p.start p.bytes)

-- Tetra number j, from 0, of a statement on line i up to 65,535 gets line i + j. A later statement replaces it.
abbrev pub with_lines : (ℕ → ℕ) → Piece → ℕ → ℕ
with_lines lines p a = if nat_le p.line 65535 && is_covered p a then p.line + (a / 4 - p.start / 4) else lines a

abbrev pub lines_in : List Piece → ℕ → ℕ
lines_in ps = fold with_lines (λ a. 0) ps

-- The registers from $g on are global; $255 is Main.
abbrev pub image_with : List Piece → Known → Image
image_with ps k = record {
  memory = octa_in (placed (placements ps));
  pages = pages_of (placements ps);
  page_count = page_count (pages_of (placements ps));
  line_of = lines_in ps;
  g = lowest_of k.gregs;
  global = value_at (lowest_of k.gregs) (k.gregs ++ main_of k.names ∷ []);
}

abbrev pub image : List StatementTree → Image
image statements = image_with (pieces statements) (final_known statements)

-- the symbols in byte order of their names, with serial numbers in the order of definition
abbrev pub symbols_of : List StatementTree → List Symbol
symbols_of statements = (final_known statements).names.symbols
