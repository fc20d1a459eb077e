-- Memory as contracts see it: the octas and bytes by their addresses, and the pages that are there (MMIXware, LNCS
-- 1750; TAOCP 1, Fascicle 1, section 1.3.1').
use Rattle.std.specs.Prelude.{ℕ, ◌+◌, ◌/◌, ◌%◌, ◌^◌, Bool, ◌==◌, ◌&&◌, not, nat_lt, if◌then◌else◌, List, length, Option, None, Some, slice_index_or, ◌≡◌, ◌≢◌, ◌≤◌, ◌<◌}
pub use Rattle.mx_word.specs.Octas.{byte_of, byte_in, in_half, with_tetra, tetra_byte, bytes_with_tetra, with_page}
use Rattle.std.specs.List.{list_any}
use Rattle.std.specs.Map.{lookup, keys_of}
use Rattle.std.specs.Ordering.{nat_cmp}
use Rattle.std.specs.BTreeMap.{is_at}

-- Page p has the addresses from 4096 p up to 4096 p + 4095. Contracts speak of pages through the functions below alone.
pub record Stored : Type 0 where
  -- the pages that are there, in the order of their numbers, each with its 512 octas
  pub pages : List (ℕ × List ℕ)
  -- a page with instructions that is kept, by its first address, its size and its place; or a size of 0 and no page
  pub code_start : ℕ
  pub code_size : ℕ
  pub code_place : ℕ

-- an octa of a page; 0 where the page is not there
abbrev pub octa_in : Option (List ℕ) → ℕ → ℕ
octa_in None i = 0
octa_in (Some octas) i = slice_index_or octas i 0

-- the octa that holds an address; 0 where nothing was stored
unfoldable pub octa_on : List (ℕ × List ℕ) → ℕ → ℕ
octa_on pages a = octa_in (lookup (is_at (nat_cmp (a / 4096))) pages) (a / 8 % 512)

abbrev pub octa_at : Stored → ℕ → ℕ
octa_at m = octa_on m.pages

-- the byte at an address
abbrev pub byte_at : Stored → ℕ → ℕ
byte_at m a = byte_in (octa_at m) a

-- the tetra in the half of an octa where an address lies
abbrev pub tetra_of : ℕ → ℕ → ℕ
tetra_of x a = if nat_lt (a % 8) 4 then x / 2 ^ 32 else x % 2 ^ 32

-- the tetra that holds an address
abbrev pub tetra_at : Stored → ℕ → ℕ
tetra_at m a = tetra_of (octa_at m a) a

-- the numbers of the pages that are there, in their order
abbrev pub page_numbers : Stored → List ℕ
page_numbers m = keys_of m.pages

-- whether a page is there
unfoldable pub page_on : List (ℕ × List ℕ) → ℕ → Bool
page_on pages p = list_any (is_at (nat_cmp p)) (keys_of pages)

abbrev pub has_page : Stored → ℕ → Bool
has_page m = page_on m.pages

-- how many pages are there
unfoldable pub count_on : List (ℕ × List ℕ) → ℕ
count_on pages = length (keys_of pages)

abbrev pub page_count : Stored → ℕ
page_count m = count_on m.pages

-- whether a store in this page is refused: the page is not there, and no other can begin
abbrev pub is_refused : Stored → ℕ → Bool
is_refused m p = not (has_page m p) && page_count m == 65536

-- how many pages are there when this one is
abbrev pub count_with_page : Stored → ℕ → ℕ
count_with_page m p = if has_page m p then page_count m else page_count m + 1

-- the octas, with another in place of the one that holds an address
abbrev pub stored_at : (ℕ → ℕ) → ℕ → ℕ → ℕ → ℕ
stored_at octas a x q = if q / 8 == a / 8 then x else octas q

-- the bytes, with those of an octa in place of the octa that holds an address
abbrev pub stored_bytes : (ℕ → ℕ) → ℕ → ℕ → ℕ → ℕ
stored_bytes bytes a x q = if q / 8 == a / 8 then byte_of x q else bytes q

-- the least octa other than 0 whose own address is at or above `from`, with its address
abbrev pub IsNextNonzero : (ℕ → ℕ) → ℕ → Option (ℕ × ℕ) → Type 0
IsNextNonzero octas from None = (q : ℕ) → from ≤ q → q % 8 ≡ 0 → octas q ≡ 0
IsNextNonzero octas from (Some (a, x)) = (from ≤ a) × (a % 8 ≡ 0) × (octas a ≡ x) × (x ≢ 0)
    × ((q : ℕ) → from ≤ q → q % 8 ≡ 0 → q < a → octas q ≡ 0)

-- the same page of instructions is kept
abbrev pub KeepsCode : Stored → Stored → Type 0
KeepsCode old new = (new.code_start ≡ old.code_start) × (new.code_size ≡ old.code_size) × (new.code_place ≡ old.code_place)

-- a kept page is a whole one below Stack_Segment
abbrev pub IsCode : Stored → Type 0
IsCode m = (m.code_size ≡ 4096) × (m.code_start % 4096 ≡ 0) × (m.code_start < 0x6000_0000_0000_0000)
