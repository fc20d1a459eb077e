-- How memory is held: pages as they came, and the place of each by its number.
use Rattle.std.specs.Prelude.{ℕ, ◌*◌, ◌<◌, ◌≤◌, ◌^◌, ◌≡◌, List, [], map, length, Option, None, Some, slice_index_or}
use Rattle.std.specs.Ordering.{nat_cmp}
use Rattle.std.specs.BTreeMap as tree
use Rattle.std.specs.BTreeMap.{BTreeMap}
use Rattle.mx_mem.specs.Low.{low_pages}
use Rattle.mx_mem.specs.Memory.{Stored, octa_at}
use Rattle.mx_mem.specs.declared.memory.Memory.TheInside.{Inside}

-- the number and the octas of the page at a place
abbrev pub number_in : List (ℕ × List ℕ) → ℕ → ℕ
number_in pages i = (slice_index_or pages i (0, [])).0

abbrev pub octas_in : List (ℕ × List ℕ) → ℕ → List ℕ
octas_in pages i = (slice_index_or pages i (0, [])).1

-- what contracts see of the pages and their places
abbrev pub view_of : List (ℕ × List ℕ) → List (ℕ × ℕ) → List (ℕ × List ℕ)
view_of pages places = map (λ e. (e.0, octas_in pages e.1)) places

abbrev pub stored : Inside → Stored
stored m = record {
  pages = view_of m.pages.items m.places.entries;
  code_start = m.code_start;
  code_size = m.code_size;
  code_place = m.code_place;
}

-- each page is found at its place, and what is found is its place
pub record Indexed (pages : List (ℕ × List ℕ)) (places : BTreeMap ℕ ℕ) : Type 0 where
  pub named : (i : ℕ) → i < length pages → tree.get nat_cmp places (number_in pages i) ≡ Some i
  pub placed : (p i : ℕ) → tree.get nat_cmp places p ≡ Some i → (i < length pages) × (number_in pages i ≡ p)

-- pages have 512 octas; there are at most 65,536 pages, below 2^63
pub record Bounded (pages : List (ℕ × List ℕ)) : Type 0 where
  pub whole : (i : ℕ) → i < length pages → length (octas_in pages i) ≡ 512
  pub below : (i : ℕ) → i < length pages → number_in pages i < 2 ^ 51
  pub few : length pages ≤ 65536

-- a first address, a size and a place that are kept: of a low page that is there, unless the size is 0
abbrev pub IsKept : ℕ → ℕ → ℕ → List (ℕ × List ℕ) → Type 0
IsKept start size place pages = 0 < size → (size ≡ 4096) × (place < length pages) × (number_in pages place < low_pages)
    × (4096 * number_in pages place ≡ start)

pub record Holds (m : Inside) : Type 0 where
  pub indexed : Indexed m.pages.items m.places
  pub bounded : Bounded m.pages.items
  pub count : length m.places.entries ≡ length m.pages.items
  pub fits : (a : ℕ) → octa_at (stored m) a < 2 ^ 64
  pub code : IsKept m.code_start m.code_size m.code_place m.pages.items

-- the least number from `number` on that has a place, with its place
abbrev pub IsNextPage : BTreeMap ℕ ℕ → ℕ → Option (ℕ × ℕ) → Type 0
IsNextPage places number None = (p : ℕ) → number ≤ p → tree.get nat_cmp places p ≡ None
IsNextPage places number (Some (n, place)) = (number ≤ n) × (tree.get nat_cmp places n ≡ Some place)
    × ((p : ℕ) → number ≤ p → p < n → tree.get nat_cmp places p ≡ None)
