-- Items at the front of others.
use Rattle.std.specs.Prelude.{◌≡◌, List, ◌++◌}
use Rattle.mx_mmo.specs.declared.items.Item.{Item}

abbrev pub IsFront : List Item → List Item → Type 0
IsFront front whole = (rest : List Item) × (whole ≡ front ++ rest)

-- A list grows from `old` to `new` as a front grows to its whole: the same items are added.
pub record GrowsAlike (front whole old new : List Item) : Type 0 where
  pub items : List Item
  pub due : whole ≡ front ++ items
  pub added : new ≡ old ++ items
