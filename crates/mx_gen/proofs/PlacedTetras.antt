-- The tetra of a statement at its place.
use Rattle.std.proofs.Common.{◌≡◌, ℕ, ◌+◌, ◌≤◌, Bool, false, cond, [], Option, Ok, Err, rules}
use Rattle.mx_gen.proofs.ShownWords.{Placed, Label, Known, plain_tetra, with_tetra}
use Rattle.mx_word.specs.Words.{tetra_to_bytes}
use Rattle.mx_stmt.specs.declared.faults.StmtFault.{StmtFault}
use Rattle.mx_gen.proofs.RelativeForms.{highest}

-- the word is placed, with nothing that waits
pub record IsTetra (k : Known) (word : ℕ) (placed : Placed) : Type 0 where
  pub start : placed.start ≡ k.at
  pub bytes : placed.bytes ≡ tetra_to_bytes word
  pub waits : placed.waits ≡ []
  pub room : k.at + 4 ≤ highest

by-test : {A : Type 0} (b : Bool) (fault : StmtFault) (x y : A) → cond b (Err fault) (Ok x) ≡ Ok y → (b ≡ false) × (x ≡ y)
by-test b fault x y is = search rules

pub word-placed : (k : Known) (line : ℕ) (label : Option Label) (word : ℕ) (placed : Placed) → with_tetra k line label (plain_tetra word) ≡ Ok placed → IsTetra k word placed
word-placed k line label word placed is = search rules
