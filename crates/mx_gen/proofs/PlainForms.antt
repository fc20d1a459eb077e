-- The operands of an instruction with no relative address give its tetra.
use Rattle.std.proofs.Common.{◌≡◌, ℕ, ◌+◌, ◌-◌, ◌*◌, ◌^◌, ◌<◌, Bool, true, false, ◌||◌, cond, Ok, refl, ap, rules}
use Rattle.mx_gen.proofs.ShownWords.{lt-ltb, number, opcode_kind, is_immediate, is_backward, Shape, Answer, and_then, Known, no_targets, field_at, plain_tetra, last_form, last_two, form, tetra_xyz, field_code, field_y, hides_y}
use Rattle.mx_gen.proofs.OperandTrees.{register, either, trees}
use Rattle.mx_gen.proofs.Codes.{fits, rounds_byte, is_relative}

module _ (k : Known) where
  field-read : (limit n : ℕ) → n < limit → field_at limit k (number n) ≡ Ok n
  field-read limit n lt = rw (lt-ltb n limit lt) refl

  after-byte : {A : Type 0} (n : ℕ) (next : ℕ → Answer A) → n < 256 → and_then (field_at 256 k (number n)) next ≡ next n
  after-byte n next lt = ap (λ a. and_then a next) (field-read 256 n lt)

  -- the last operand, and the code by it
  last-read : (i : Bool) (low code x y z : ℕ) → z < 256 → cond i (low + 1) low ≡ code →
      last_form k low x y (either i z) ≡ plain_tetra (tetra_xyz code x y z)
  last-read i low code x y z lt is = search rules

  two-read : (i : Bool) (low code x y z : ℕ) → y < 256 → z < 256 → cond i (low + 1) low ≡ code →
      last_two k low x (register y) (either i z) ≡ plain_tetra (tetra_xyz code x y z)
  two-read i low code x y z ly lz is = search rules

-- A second code is the code after the lowest one of its name.
abbrev pub code_by : Bool → Bool → ℕ → ℕ
code_by immediate backward low = cond (immediate || backward) (low + 1) low

-- the word that a shape shows
abbrev pub word_by : Shape → ℕ → ℕ
word_by shape word = cond (hides_y shape) (word - 2 ^ 8 * field_y word) word

module _ (k : Known) (word pc low : ℕ) where
  abbrev pub immediate : Bool
  immediate = is_immediate (opcode_kind (field_code word))

  abbrev pub backward : Bool
  backward = is_backward (opcode_kind (field_code word))

  pub plain-form : (s : Shape) → is_relative s ≡ false → fits s immediate backward ≡ true → rounds_byte s immediate low ≡ true →
      code_by immediate backward low ≡ field_code word → form no_targets k s low (trees s word pc) ≡ plain_tetra (word_by s word)
  plain-form s plain fit round is = search rules
