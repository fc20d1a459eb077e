-- Images that differ in a part.
use Rattle.std.proofs.Common.{◌≢◌, ◌<◌, ℕ}
use Rattle.mx_mmo.specs.Image.{Image}
use Rattle.mx_changes.specs.Images.{AreSame, AreSameGlobals, AreSameOctas}

pub other-register : (f g : ℕ → ℕ) (k : ℕ) → k < 256 → f k ≢ g k → AreSameGlobals f g → ⊥
other-register f g k less ne same = ne (same k less)

pub other-first : (one other : Image) → one.g ≢ other.g → AreSame one other → ⊥
other-first one other ne same = ne same.g

pub other-globals : (one other : Image) → (AreSameGlobals one.global other.global → ⊥) → AreSame one other → ⊥
other-globals one other ne same = ne same.globals

pub other-octas : (one other : Image) → (AreSameOctas one.memory other.memory → ⊥) → AreSame one other → ⊥
other-octas one other ne same = ne same.octas

pub ruleset parts = (other-register, other-first, other-globals, other-octas)
