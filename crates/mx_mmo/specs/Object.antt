-- The grammar of objects.
-- (MMIXware, the part on MMIXAL, "Binary MMO output".)
use Rattle.std.specs.Prelude.{◌≡◌, ◌≢◌, ℕ, ◌+◌, ◌*◌, ◌/◌, ◌%◌, ◌^◌, ◌<◌, ◌≤◌, ◌⊎◌, List, [], ◌∷◌, ◌++◌, length, replicate, Some, None}
use Rattle.std.specs.List.{flat_map}
use Rattle.mx_word.specs.Words.{tetra_to_bytes, octa_to_bytes}
use Rattle.mx_mmo.specs.Tetras.{lop, wide_lop}
use Rattle.mx_mmo.specs.Valid.{AreTetras, AreOctas, IsName, Valid}
use Rattle.mx_mmo.specs.declared.items.Item.{Item}
use Rattle.mx_mmo.specs.declared.items.Item.TheVariants.{Load, Loc, Skip, FixOcta, FixNear, FixFar, File, Line, Spec, Pre, Post, Stab}

-- a tetra that is no lopcode
abbrev pub IsNoLop : ℕ → Type 0
IsNoLop t = (t < 2 ^ 32) × (t / 2 ^ 24 ≢ 0x98)

-- an address after a lopcode of this code: Z tells whether a tetra or an octa follows, and Y
-- counts 2^56; addresses are modulo 2^64
pub data SpellsAddress : ℕ → ℕ → List ℕ → Type 0 where
  by_tetra : (code y t : ℕ) → y < 2 ^ 8 → t < 2 ^ 32 →
      SpellsAddress code (y * 2 ^ 56 + t) (lop code y 1 ++ tetra_to_bytes t)
  by_octa : (code y x : ℕ) → y < 2 ^ 8 → x < 2 ^ 64 →
      SpellsAddress code ((y * 2 ^ 56 + x) % 2 ^ 64) (lop code y 2 ++ octa_to_bytes x)

-- what a spec skips: tetras that are no lopcodes, and quotes with the tetra that follows, whatever it is
pub data IsSkipped : List ℕ → Type 0 where
  none : IsSkipped []
  other : (t : ℕ) (more : List ℕ) → IsNoLop t → IsSkipped more → IsSkipped (tetra_to_bytes t ++ more)
  quoted : (t : ℕ) (more : List ℕ) → t < 2 ^ 32 → IsSkipped more →
      IsSkipped (lop 0 0 1 ++ tetra_to_bytes t ++ more)

-- a lopcode that ends a spec: any but a quote with YZ = 1
abbrev pub EndsSpec : List ℕ → Type 0
EndsSpec (a ∷ code ∷ y ∷ z ∷ more) = (a ≡ 0x98) × ¬ ((code ≡ 0) × (y ≡ 0) × (z ≡ 1))
EndsSpec _ = ⊥

-- the bytes that an item may be
pub data Spells : Item → List ℕ → Type 0 where
  bare : (t : ℕ) → IsNoLop t → Spells (Load t) (tetra_to_bytes t)
  quoted : (t : ℕ) → t < 2 ^ 32 → Spells (Load t) (lop 0 0 1 ++ tetra_to_bytes t)
  loc : (a : ℕ) (bytes : List ℕ) → SpellsAddress 1 a bytes → Spells (Loc a) bytes
  skip : (n : ℕ) → n < 2 ^ 16 → Spells (Skip n) (wide_lop 2 n)
  fixo : (a : ℕ) (bytes : List ℕ) → SpellsAddress 3 a bytes → Spells (FixOcta a) bytes
  fixr : (n : ℕ) → n < 2 ^ 16 → Spells (FixNear n) (wide_lop 4 n)
  fixrx : (bits t : ℕ) → (bits ≡ 16) ⊎ (bits ≡ 24) → t < 2 ^ 25 →
      Spells (FixFar bits t) (lop 5 0 bits ++ tetra_to_bytes t)
  selected : (number : ℕ) → number < 2 ^ 8 → Spells (File number None) (lop 6 number 0)
  -- a name with any zeros after it, which fill whole tetras
  named : (number tetras zeros : ℕ) (name : List ℕ) → number < 2 ^ 8 → tetras < 2 ^ 8 → IsName name →
      length name + zeros ≡ 4 * tetras →
      Spells (File number (Some name)) (lop 6 number tetras ++ name ++ replicate zeros 0)
  line : (n : ℕ) → n < 2 ^ 16 → Spells (Line n) (wide_lop 7 n)
  spec : (n : ℕ) (skipped : List ℕ) → n < 2 ^ 16 → IsSkipped skipped →
      Spells (Spec n) (wide_lop 8 n ++ skipped)
  pre : (tetras : List ℕ) → length tetras < 2 ^ 8 → AreTetras tetras →
      Spells (Pre tetras) (lop 9 1 (length tetras) ++ flat_map tetra_to_bytes tetras)
  post : (g : ℕ) (values : List ℕ) → 32 ≤ g → g < 2 ^ 8 → length values + g ≡ 256 → AreOctas values →
      Spells (Post g values) (lop 10 0 g ++ flat_map octa_to_bytes values)
  stab : Spells Stab (lop 11 0 0)

-- items one after the other
pub data Spelled : List Item → List ℕ → Type 0 where
  none : Spelled [] []
  next : (item : Item) (items : List Item) (bytes more : List ℕ) → Spells item bytes → Spelled items more →
      Spelled (item ∷ items) (bytes ++ more)

-- an object: its items, the symbol trie, and the lopcode `end` that counts the tetras of the trie
pub record IsObject (bytes : List ℕ) (items : List Item) (trie : List ℕ) : Type 0 where
  pub front : List ℕ
  pub count : ℕ
  pub valid : Valid items
  pub spelled : Spelled items front
  pub counted : length trie ≡ 4 * count
  pub most : count < 2 ^ 16
  pub whole : bytes ≡ front ++ trie ++ wide_lop 12 count
