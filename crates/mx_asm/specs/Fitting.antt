-- Items that fit the object format: their numbers have their bytes, and their counts are what follows.
use Rattle.std.specs.Prelude.{◌≡◌, ◌<◌, ℕ, ◌/◌, ◌%◌, ◌^◌, ◌⊎◌, List, ◌++◌, length}
use Rattle.std.specs.List.{AllByRecursion}
use Rattle.mx_mmo.specs.declared.items.Item.{Item}
use Rattle.mx_mmo.specs.Valid.{Fits, Valid}

unfoldable pub AreFit : List Item → Type 0
AreFit items = AllByRecursion Fits items

-- One list grows to another: it stays as it is, and items that fit are added after it.
pub record GrowsFit (old new : List Item) : Type 0 where
  pub items : List Item
  pub added : new ≡ old ++ items
  pub fit : AreFit items

-- how many bits the relative address of a far fix has
abbrev pub IsWidth : ℕ → Type 0
IsWidth bits = (bits ≡ 16) ⊎ (bits ≡ 24)

-- A trie is padded where its tetras are whole, and two bytes count them.
pub record IsPadded (trie : List ℕ) : Type 0 where
  pub whole : length trie % 4 ≡ 0
  pub most : length trie / 4 < 2 ^ 16

-- Items and a trie that an object is written from.
pub record AreWritable (items : List Item) (trie : List ℕ) : Type 0 where
  pub valid : Valid items
  pub padded : IsPadded trie
