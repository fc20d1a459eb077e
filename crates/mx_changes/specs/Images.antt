-- Two sources that come to one program: they have the same octas in memory and the same global registers. Memory ends at 2^63.
use Rattle.std.specs.Prelude.{◌≡◌, ◌≢◌, ◌≤◌, ◌<◌, ◌+◌, ◌%◌, ◌^◌, ℕ, nat_lt, List, Result, Ok, Err, if◌then◌else◌}
use Rattle.mx_files.specs.Sources.{source_meaning}
use Rattle.mx_files.specs.declared.refusal.Refusal.{Refusal}
use Rattle.mx_load.specs.Kept.{Kept, image_of}
use Rattle.mx_mmo.specs.Image.{Image}
use Rattle.mx_changes.specs.declared.images.Compared.{Compared}
use Rattle.mx_changes.specs.declared.images.Compared.TheVariants.{Same, Different, FirstRefused, SecondRefused}

abbrev pub AreSameOctas : (ℕ → ℕ) → (ℕ → ℕ) → Type 0
AreSameOctas f g = (q : ℕ) → q < 2 ^ 63 → q % 8 ≡ 0 → f q ≡ g q

abbrev pub AreSameGlobals : (ℕ → ℕ) → (ℕ → ℕ) → Type 0
AreSameGlobals f g = (k : ℕ) → k < 256 → f k ≡ g k

pub record AreSame (one other : Image) : Type 0 where
  pub g : one.g ≡ other.g
  pub globals : AreSameGlobals one.global other.global
  pub octas : AreSameOctas one.memory other.memory

-- ---- octas one after another

-- the next octa other than 0 from a place on is x at a; where there is none, this is 0 at the end of memory
pub record IsNextOcta (octas : ℕ → ℕ) (from a x : ℕ) : Type 0 where
  pub later : from ≤ a
  pub within : a ≤ 2 ^ 63
  pub aligned : a % 8 ≡ 0
  pub none : (q : ℕ) → from ≤ q → q % 8 ≡ 0 → q < a → octas q ≡ 0
  pub found : a < 2 ^ 63 → octas a ≡ x
  pub other : a < 2 ^ 63 → x ≢ 0
  pub ends : a ≡ 2 ^ 63 → x ≡ 0

-- the place of the octa after another one
abbrev pub after : ℕ → ℕ
after a = if nat_lt a (2 ^ 63) then a + 8 else 2 ^ 63

-- ---- what two sources come to

-- as the code has it
abbrev pub meaning_in : Result Kept Refusal → Result Image Refusal
meaning_in (Ok image) = Ok (image_of image)
meaning_in (Err refusal) = Err refusal

abbrev pub IsSame : Image → Image → Compared → Type 0
IsSame one other Same = AreSame one other
IsSame one other Different = AreSame one other → ⊥
IsSame one other compared = ⊥

-- one of them may be refused: the first, or else the second
abbrev pub IsCompared : Result Image Refusal → Result Image Refusal → Compared → Type 0
IsCompared (Err refusal) other compared = compared ≡ FirstRefused
IsCompared (Ok one) (Err refusal) compared = compared ≡ SecondRefused
IsCompared (Ok one) (Ok other) compared = IsSame one other compared

abbrev pub Compares : List ℕ → List ℕ → Compared → Type 0
Compares source text compared = IsCompared (source_meaning source) (source_meaning text) compared
