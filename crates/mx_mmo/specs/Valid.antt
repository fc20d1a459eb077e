-- Which lists of items an object is written from.
-- (MMIXware, the part on MMIXAL, "Binary MMO output".)
use Rattle.std.specs.Prelude.{◌≡◌, ◌≢◌, ℕ, ◌+◌, ◌^◌, ◌<◌, ◌≤◌, ◌⊎◌, List, [], ◌∷◌, ◌++◌, length, IfSome}
use Rattle.std.specs.List.{AllByRecursion}
pub use Rattle.mx_word.specs.Ranges.{AreBytes, AreTetras, AreOctas}
use Rattle.mx_mmo.specs.declared.items.Item.{Item}
use Rattle.mx_mmo.specs.declared.items.Item.TheVariants.{Load, Loc, Skip, FixOcta, FixNear, FixFar, File, Line, Spec, Pre, Post, Stab}

-- the file names: 1 to 1,020 bytes, the last of them not zero
pub record IsName (name : List ℕ) : Type 0 where
  pub bytes : AreBytes name
  pub least : 0 < length name
  pub most : length name ≤ 1020
  pub last : (front : List ℕ) → name ≢ front ++ 0 ∷ []

-- what holds of one item: its numbers have their bytes, and its counts are what follows
abbrev pub Fits : Item → Type 0
Fits (Load t) = t < 2 ^ 32
Fits (Loc a) = a < 2 ^ 64
Fits (Skip n) = n < 2 ^ 16
Fits (FixOcta a) = a < 2 ^ 64
Fits (FixNear n) = n < 2 ^ 16
Fits (FixFar bits t) = ((bits ≡ 16) ⊎ (bits ≡ 24)) × (t < 2 ^ 25)
Fits (File number name) = (number < 2 ^ 8) × IfSome name IsName
Fits (Line n) = n < 2 ^ 16
Fits (Spec n) = n < 2 ^ 16
Fits (Pre tetras) = (length tetras < 2 ^ 8) × AreTetras tetras
Fits (Post g values) = (32 ≤ g) × (g < 2 ^ 8) × (length values + g ≡ 256) × AreOctas values
Fits Stab = Unit {0}

-- the items that are between `pre` and `post`
abbrev pub IsMiddle : Item → Type 0
IsMiddle (Pre tetras) = ⊥
IsMiddle (Post g values) = ⊥
IsMiddle Stab = ⊥
IsMiddle _ = Unit {0}

-- no item that is loaded directly follows a spec, which would take it for its own
abbrev pub MayFollow : Item → Item → Type 0
MayFollow (Spec n) (Load t) = ⊥
MayFollow _ _ = Unit {0}

abbrev pub SpecsEnd : List Item → Type 0
SpecsEnd [] = Unit {0}
SpecsEnd (i ∷ []) = Unit {0}
SpecsEnd (i ∷ j ∷ more) = MayFollow i j × SpecsEnd (j ∷ more)

-- `pre` is first and only there, `post` and `stab` are the last two and only there
pub record IsPlaced (items : List Item) : Type 0 where
  pub tetras : List ℕ
  pub middle : List Item
  pub g : ℕ
  pub values : List ℕ
  pub whole : items ≡ Pre tetras ∷ middle ++ Post g values ∷ Stab ∷ []
  pub between : AllByRecursion IsMiddle middle

pub record Valid (items : List Item) : Type 0 where
  pub placed : IsPlaced items
  pub fits : AllByRecursion Fits items
  pub specs : SpecsEnd items
