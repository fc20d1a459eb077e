-- What contracts see of the pages and their places.
use Rattle.std.proofs.Common.{◌≡◌, ◌≢◌, ◌/◌, ◌%◌, ℕ, false, List, length, Option, Some, None, ap, sym, ◌∙◌, refl}
use Rattle.std.specs.Prelude.{is_some, IsTrue}
use Rattle.std.specs.Option.{option_map}
use Rattle.std.specs.Map.{lookup, keys_of}
use Rattle.std.specs.Ordering.{nat_cmp}
use Rattle.std.specs.BTreeMap.{BTreeMap, get, is_at}
use Rattle.std.proofs.lemmas.Map.Made.{is_some-lookup, lookup-map_values, keys_of-map_values}
use Rattle.std.proofs.lemmas.Map.Entries.{length-keys_of}
use Rattle.std.proofs.lemmas.List.{length-map}
use Rattle.mx_mem.specs.Memory.{Stored, octa_at, octa_on, octa_in, has_page, page_on, count_on}
use Rattle.mx_mem.specs.Held.{view_of, octas_in}

pub octa_at-view : (pages : List (ℕ × List ℕ)) (places : BTreeMap ℕ ℕ) (a : ℕ) → octa_on (view_of pages places.entries) a ≡ octa_in (option_map (octas_in pages) (get nat_cmp places (a / 4096))) (a / 8 % 512)
unfolding octa_on
octa_at-view pages places a = ap (λ o. octa_in o (a / 8 % 512)) (lookup-map_values (octas_in pages) (is_at (nat_cmp (a / 4096))) places.entries)

is_some-map : {A B : Type 0} (f : A → B) (o : Option A) → is_some (option_map f o) ≡ is_some o
is_some-map f None = refl
is_some-map f (Some x) = refl

pub has_page-view : (pages : List (ℕ × List ℕ)) (places : BTreeMap ℕ ℕ) (p : ℕ) → page_on (view_of pages places.entries) p ≡ is_some (get nat_cmp places p)
unfolding page_on
has_page-view pages places p =
    sym (is_some-lookup (is_at (nat_cmp p)) (view_of pages places.entries))
    ∙ ap is_some (lookup-map_values (octas_in pages) (is_at (nat_cmp p)) places.entries) ∙ is_some-map (octas_in pages) (get nat_cmp places p)

pub page_count-view : (pages : List (ℕ × List ℕ)) (places : BTreeMap ℕ ℕ) → count_on (view_of pages places.entries) ≡ length places.entries
unfolding count_on
page_count-view pages places = length-keys_of (view_of pages places.entries) ∙ simp length-map

-- what is found through a place
pub octa-found : (pages : List (ℕ × List ℕ)) (places : BTreeMap ℕ ℕ) (m : Stored) (a : ℕ) (o : Option ℕ) → view_of pages places.entries ≡ m.pages → o ≡ get nat_cmp places (a / 4096) →
    octa_at m a ≡ octa_in (option_map (octas_in pages) o) (a / 8 % 512)
octa-found pages places m a o v e =
    ap (λ s. octa_on s a) (sym v) ∙ octa_at-view pages places a ∙ ap (λ p. octa_in (option_map (octas_in pages) p) (a / 8 % 512)) (sym e)

none-from-is_some : {A : Type 0} (o : Option A) → is_some o ≡ false → o ≡ None
none-from-is_some None e = refl
none-from-is_some (Some x) e = absurd (cc)

-- a page that is not there is not found
pub not-found : (pages : List (ℕ × List ℕ)) (places : BTreeMap ℕ ℕ) (m : Stored) (n : ℕ) → view_of pages places.entries ≡ m.pages → has_page m n ≡ false → get nat_cmp places n ≡ None
not-found pages places m n v e = none-from-is_some (get nat_cmp places n) (sym (has_page-view pages places n) ∙ ap (λ s. page_on s n) v ∙ e)

nonzero-in : (o : Option (List ℕ)) (i : ℕ) → octa_in o i ≢ 0 → IsTrue (is_some o)
nonzero-in None i ne = absurd (ne refl)
nonzero-in (Some octas) i ne = refl

-- an octa other than 0 is on a page that is there
pub nonzero-paged : (m : Stored) (a : ℕ) → octa_at m a ≢ 0 → IsTrue (has_page m (a / 4096))
unfolding octa_on page_on
nonzero-paged m a ne = sym (is_some-lookup (is_at (nat_cmp (a / 4096))) m.pages) ∙ nonzero-in (lookup (is_at (nat_cmp (a / 4096))) m.pages) (a / 8 % 512) ne

-- the numbers of the pages are the keys of the places
pub page_numbers-view : (pages : List (ℕ × List ℕ)) (places : List (ℕ × ℕ)) → keys_of (view_of pages places) ≡ keys_of places
page_numbers-view pages places = keys_of-map_values (octas_in pages) places
