-- Which bytes have which fault, tetra by tetra.
-- A rule of this program.
use Rattle.std.specs.Prelude.{◌≡◌, ◌≢◌, ℕ, ◌-◌, ◌*◌, ◌/◌, ◌%◌, ◌^◌, ◌<◌, ◌≤◌, ◌⊎◌, List, ◌∷◌, ◌++◌, length, replicate, Option, Some, None}
use Rattle.mx_word.specs.Words.{tetra_to_bytes}
use Rattle.mx_mmo.specs.Tetras.{wide_lop}
use Rattle.mx_mmo.specs.Reading.{lop_of}
use Rattle.mx_mmo.specs.Turns.{ComeFirst, phase_end}
use Rattle.mx_mmo.specs.declared.items.Item.{Item}
use Rattle.mx_mmo.specs.declared.lops.Lop.{Lop}
use Rattle.mx_mmo.specs.declared.lops.Lop.TheVariants.{Quote, Loc, Fixo, Fixrx, Pre, Post, Stab, End}
use Rattle.mx_mmo.specs.declared.faults.MmoFault.{MmoFault}
use Rattle.mx_mmo.specs.declared.faults.MmoFault.TheVariants.{NotTetras, NoPre, BadLop, BadFields, Truncated}
use Rattle.mx_mmo.specs.declared.due.Phase.{Phase}
use Rattle.mx_mmo.specs.declared.due.Phase.TheVariants.{Start, Middle, Posted, Ended}

-- the lopcodes that may follow `pre`, up to `post`
abbrev pub MayBeBetween : Option Lop → Type 0
MayBeBetween (Some Pre) = ⊥
MayBeBetween (Some Stab) = ⊥
MayBeBetween (Some End) = ⊥
MayBeBetween (Some _) = Unit {0}
MayBeBetween None = ⊥

-- the bytes Y and Z that they have
abbrev pub HasFields : Lop → ℕ → ℕ → Type 0
HasFields Quote y z = (y ≡ 0) × (z ≡ 1)
HasFields Loc y z = (z ≡ 1) ⊎ (z ≡ 2)
HasFields Fixo y z = (z ≡ 1) ⊎ (z ≡ 2)
HasFields Fixrx y z = (y ≡ 0) × ((z ≡ 16) ⊎ (z ≡ 24))
HasFields Post y z = (y ≡ 0) × (32 ≤ z)
HasFields _ y z = Unit {0}

-- the tetras that have a fault where an item is due, at a place: the first tetra is not `pre` with Y = 1; a lopcode that is
-- none, or may not be here; wrong fields; a far fix whose tetra does not begin with 0 or 1; a name that is all zeros
pub data TetraFault : Phase → ℕ → List ℕ → MmoFault → Type 0 where
  no_pre : (at a code y z : ℕ) (more : List ℕ) → ¬ ((a ≡ 0x98) × (code ≡ 9) × (y ≡ 1)) →
      TetraFault Start at (a ∷ code ∷ y ∷ z ∷ more) (NoPre at)
  bad_lop : (at code y z : ℕ) (more : List ℕ) → ¬ MayBeBetween (lop_of code) →
      TetraFault Middle at (0x98 ∷ code ∷ y ∷ z ∷ more) (BadLop at)
  no_stab : (at a code y z : ℕ) (more : List ℕ) → ¬ ((a ≡ 0x98) × (code ≡ 11)) →
      TetraFault Posted at (a ∷ code ∷ y ∷ z ∷ more) (BadLop at)
  fields : (at code y z : ℕ) (more : List ℕ) (lop : Lop) → lop_of code ≡ Some lop → MayBeBetween (Some lop) → ¬ HasFields lop y z →
      TetraFault Middle at (0x98 ∷ code ∷ y ∷ z ∷ more) (BadFields at)
  stab_fields : (at y z : ℕ) (more : List ℕ) → ¬ ((y ≡ 0) × (z ≡ 0)) →
      TetraFault Posted at (0x98 ∷ 11 ∷ y ∷ z ∷ more) (BadFields at)
  far_tetra : (at bits t : ℕ) (more : List ℕ) → (bits ≡ 16) ⊎ (bits ≡ 24) → 2 ^ 25 ≤ t → t < 2 ^ 32 →
      TetraFault Middle at (0x98 ∷ 5 ∷ 0 ∷ bits ∷ tetra_to_bytes t ++ more) (BadFields at)
  no_name : (at number tetras : ℕ) (more : List ℕ) → 0 < tetras →
      TetraFault Middle at (0x98 ∷ 6 ∷ number ∷ tetras ∷ replicate (4 * tetras) 0 ++ more) (BadFields at)

-- items are first in bytes, and after them a tetra with a fault, whose place is where they end
pub record ItemFault (bytes : List ℕ) (fault : MmoFault) : Type 0 where
  pub items : List Item
  pub front : List ℕ
  pub rest : List ℕ
  pub first : ComeFirst Start bytes items front rest
  pub has : TetraFault (phase_end Start items) (length front) rest fault

-- all items are first in bytes, and after these bytes of a trie the lopcode `end` with this count
pub record EndsWith (bytes trie : List ℕ) (count : ℕ) : Type 0 where
  pub items : List Item
  pub front : List ℕ
  pub first : ComeFirst Start bytes items front (trie ++ wide_lop 12 count)
  pub all : phase_end Start items ≡ Ended
  pub most : count < 2 ^ 16

-- the fault of bytes that are not too many: that of an item; and where none has one, one to three bytes are left over, or
-- they do not end with the lopcode `end` after all items, or it counts wrong
pub data FaultOf : List ℕ → MmoFault → Type 0 where
  of_item : (bytes : List ℕ) (fault : MmoFault) → ItemFault bytes fault → FaultOf bytes fault
  left_over : (bytes : List ℕ) → ((f : MmoFault) → ¬ ItemFault bytes f) → length bytes % 4 ≢ 0 →
      FaultOf bytes (NotTetras (4 * (length bytes / 4)))
  cut_off : (bytes : List ℕ) → ((f : MmoFault) → ¬ ItemFault bytes f) → length bytes % 4 ≡ 0 →
      ((trie : List ℕ) (count : ℕ) → ¬ EndsWith bytes trie count) → FaultOf bytes (Truncated (length bytes))
  counted_wrong : (bytes trie : List ℕ) (count : ℕ) → EndsWith bytes trie count → length trie % 4 ≡ 0 → length trie ≢ 4 * count →
      FaultOf bytes (BadFields (length bytes - 4))
