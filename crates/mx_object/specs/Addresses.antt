-- The addresses of the tetras that an object loads. (MMIXware, the part on MMIXAL, "Binary MMO output".)
use Rattle.std.specs.Prelude.{ℕ, ◌+◌, ◌%◌, ◌^◌, Bool, List, [], ◌∷◌, ◌++◌, ◌==◌, ◌||◌, false}
use Rattle.std.specs.BTreeSet.{insert_key}
use Rattle.std.specs.Ordering.{nat_cmp}
use Rattle.mx_mmo.specs.Meaning.{far_place, tetras_before}
use Rattle.mx_mmo.specs.Whole.{items_of}
use Rattle.mx_mmo.specs.declared.due.Phase.TheVariants.{Start}
use Rattle.mx_mmo.specs.declared.items.Item.{Item}
use Rattle.mx_mmo.specs.declared.items.Item.TheVariants.{Load, FixOcta, FixNear, FixFar}
use Rattle.mx_type.specs.Lambda.{lambda_after}
use Rattle.mx_type.specs.Lines.{tetra_address}

-- the items that bytes begin with
abbrev pub items_in : List ℕ → List Item
items_in bytes = (items_of Start 0 bytes).0

-- the two tetras of an octa
abbrev pub octa_tetras : ℕ → List ℕ
octa_tetras a = tetra_address a ∷ (tetra_address a + 4) % 2 ^ 64 ∷ []

-- the tetras that an item joins to memory, where lambda is an address: the one that it loads, or those that it fixes
abbrev pub joined_by : ℕ → Item → List ℕ
joined_by lambda (Load t) = tetra_address lambda ∷ []
joined_by lambda (FixOcta a) = octa_tetras a
joined_by lambda (FixNear n) = tetra_address (tetras_before n lambda) ∷ []
joined_by lambda (FixFar bits t) = tetra_address (far_place lambda bits t) ∷ []
joined_by lambda item = []

-- those that items join, where lambda is an address before the first of them
unfoldable pub joined : ℕ → List Item → List ℕ
joined lambda [] = []
joined lambda (item ∷ more) = joined_by lambda item ++ joined (lambda_after lambda item) more

-- addresses in ascending order, each once, with more of them
unfoldable pub with_all : List ℕ → List ℕ → List ℕ
with_all addresses [] = addresses
with_all addresses (a ∷ more) = with_all (insert_key nat_cmp addresses a) more

-- the addresses of the tetras that items load, in ascending order, each once
abbrev pub addresses_of : List Item → List ℕ
addresses_of items = with_all [] (joined 0 items)

-- whether an address is one of these
unfoldable pub has : List ℕ → ℕ → Bool
has [] a = false
has (b ∷ addresses) a = b == a || has addresses a
