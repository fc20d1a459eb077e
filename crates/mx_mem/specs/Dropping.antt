-- What it is to take a page away.
use Rattle.std.specs.Prelude.{ℕ, ◌-◌, ◌/◌, ◌≡◌, Bool, false, ◌==◌, if◌then◌else◌, List, length, Option, None, is_some}
use Rattle.std.specs.Option.{option_map}
use Rattle.std.specs.Ordering.{nat_cmp}
use Rattle.std.specs.BTreeMap as tree
use Rattle.std.specs.BTreeMap.{BTreeMap}
use Rattle.mx_mem.specs.Held.{Indexed, octas_in}
use Rattle.mx_mem.specs.Memory.{Stored, has_page, page_count}

-- the octas, those of a page being 0
abbrev pub without_page : (ℕ → ℕ) → ℕ → ℕ → ℕ
without_page octas p q = if q / 4096 == p then 0 else octas q

-- the pages without one
abbrev pub pages_without : (ℕ → Bool) → ℕ → ℕ → Bool
pages_without pages p q = if q == p then false else pages q

-- how many pages are there when this one is not
abbrev pub count_without_page : Stored → ℕ → ℕ
count_without_page m p = if has_page m p then page_count m - 1 else page_count m

-- the octas of the page that is found by a number
abbrev pub page_of : List (ℕ × List ℕ) → BTreeMap ℕ ℕ → ℕ → Option (List ℕ)
page_of pages places p = option_map (octas_in pages) (tree.get nat_cmp places p)

-- the page with a number is found no more, and each other one is found as before; each page that is left was there
pub record IsTakenAway (pages : List (ℕ × List ℕ)) (places : BTreeMap ℕ ℕ) (number : ℕ) (left : List (ℕ × List ℕ)) (after : BTreeMap ℕ ℕ) : Type 0 where
  pub indexed : Indexed left after
  pub count : length after.entries ≡ length left
  pub fewer : length after.entries ≡ (if is_some (tree.get nat_cmp places number) then length places.entries - 1 else length places.entries)
  pub found : (p : ℕ) → page_of left after p ≡ (if p == number then None else page_of pages places p)
