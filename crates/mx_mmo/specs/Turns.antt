-- Which items are first in bytes, one after the other.
-- (MMIXware, the part on MMIXAL, "Binary MMO output".)
use Rattle.std.specs.Prelude.{◌≡◌, ℕ, List, [], ◌∷◌, ◌++◌}
use Rattle.mx_mmo.specs.Object.{EndsSpec, Spelled}
use Rattle.mx_mmo.specs.Replies.{phase_after}
use Rattle.mx_mmo.specs.Valid.{SpecsEnd}
use Rattle.mx_mmo.specs.declared.items.Item.{Item}
use Rattle.mx_mmo.specs.declared.items.Item.TheVariants.{Load, Loc, Skip, FixOcta, FixNear, FixFar, File, Line, Spec, Pre, Post, Stab}
use Rattle.mx_mmo.specs.declared.due.Phase.{Phase}
use Rattle.mx_mmo.specs.declared.due.Phase.TheVariants.{Start, Middle, Posted}

-- the items that may come next
abbrev pub MayCome : Phase → Item → Type 0
MayCome Start (Pre tetras) = Unit {0}
MayCome Middle (Load t) = Unit {0}
MayCome Middle (Loc a) = Unit {0}
MayCome Middle (Skip n) = Unit {0}
MayCome Middle (FixOcta a) = Unit {0}
MayCome Middle (FixNear n) = Unit {0}
MayCome Middle (FixFar bits t) = Unit {0}
MayCome Middle (File number name) = Unit {0}
MayCome Middle (Line n) = Unit {0}
MayCome Middle (Spec n) = Unit {0}
MayCome Middle (Post g values) = Unit {0}
MayCome Posted Stab = Unit {0}
MayCome _ _ = ⊥

abbrev pub ComeInTurn : Phase → List Item → Type 0
ComeInTurn phase [] = Unit {0}
ComeInTurn phase (item ∷ items) = MayCome phase item × ComeInTurn (phase_after item phase) items

-- how far a reader has come after items
abbrev pub phase_end : Phase → List Item → Phase
phase_end phase [] = phase
phase_end phase (item ∷ items) = phase_end (phase_after item phase) items

-- a spec is whole where the lopcode that ends it follows it, and any other item by itself
abbrev pub EndsItem : Item → List ℕ → Type 0
EndsItem (Spec n) rest = EndsSpec rest
EndsItem _ rest = Unit {0}

abbrev pub EndsLast : List Item → List ℕ → Type 0
EndsLast [] rest = Unit {0}
EndsLast (item ∷ []) rest = EndsItem item rest
EndsLast (item ∷ next ∷ items) rest = EndsLast (next ∷ items) rest

-- these items are first in bytes, where items may come as this phase says: they take `front`, and `rest` is left
pub record ComeFirst (phase : Phase) (bytes : List ℕ) (items : List Item) (front rest : List ℕ) : Type 0 where
  pub whole : bytes ≡ front ++ rest
  pub spelled : Spelled items front
  pub turn : ComeInTurn phase items
  pub specs : SpecsEnd items
  pub ended : EndsLast items rest
