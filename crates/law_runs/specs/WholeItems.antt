-- The whole items of bytes: those that a reader of an object takes before the first fault, or before the end.
use Rattle.std.specs.Prelude.{◌≡◌, ℕ, List, ◌++◌}
use Rattle.mx_mmo.specs.Turns.{ComeFirst}
use Rattle.mx_mmo.specs.declared.due.Phase.TheVariants.{Start}
use Rattle.mx_mmo.specs.declared.items.Item.{Item}

-- these items are first in bytes, and whatever items are first there are the first of these
pub record AreWholeItems (bytes : List ℕ) (items : List Item) : Type 0 where
  pub front : List ℕ
  pub rest : List ℕ
  pub first : ComeFirst Start bytes items front rest
  pub all : (others : List Item) (taken left : List ℕ) → ComeFirst Start bytes others taken left →
      (more : List Item) × (items ≡ others ++ more)
