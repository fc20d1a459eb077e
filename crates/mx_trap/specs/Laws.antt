-- Words of the laws over file traps.
use Rattle.std.specs.Prelude.{ℕ, zero, suc, Bool, true, false, ◌∷◌, ◌==◌, ◌≡◌, ◌≢◌, ◌+◌, ◌<◌, ◌≤◌, ◌-◌, ◌^◌, ◌&&◌, nat_le, nat_lt, List, [], length, get_or, if◌then◌else◌}
use Rattle.mx_host.specs.HostModel.{HostModel}
use Rattle.mx_host.specs.HostAnswer.{Then}
use Rattle.mx_mem.specs.Space.{Contents}
use Rattle.mx_plan.specs.Counts.{unscheduled}
use Rattle.mx_trap.specs.Moves.{Leaves}
use Rattle.mx_trap.specs.declared.answer.TrapAnswer.{TrapAnswer}

-- Two answers are the same, and so are the models after them but for the number of calls.
pub record SameButCalls {A : Type 0} (t u : Then A) : Type 0 where
  pub answer : t.0 ≡ u.0
  pub model : unscheduled t.1 ≡ unscheduled u.1
  pub failing : t.1.failing ≡ u.1.failing

-- What a text of n bytes at a is: none of them is zero, and a zero byte follows. All of these lie below 2^63, and there
-- are at most this many.
pub record IsText (most : ℕ) (bytes : ℕ → ℕ) (a n : ℕ) : Type 0 where
  pub nonzero : (i : ℕ) → i < n → bytes (a + i) ≢ 0
  pub end : bytes (a + n) ≡ 0
  pub below : a + n < 2 ^ 63
  pub few : n ≤ most

-- at most this many bytes, none of them zero, lead up to an address of 2^63 or more
abbrev pub RunsOut : ℕ → (ℕ → ℕ) → ℕ → Type 0
RunsOut most bytes a = (n : ℕ) × (n ≤ most) × (2 ^ 63 ≤ a + n) × ((i : ℕ) → i < n → bytes (a + i) ≢ 0)

-- none of this many bytes and the next is zero, and all of them lie below 2^63
abbrev pub IsLong : ℕ → (ℕ → ℕ) → ℕ → Type 0
IsLong most bytes a = (i : ℕ) → i ≤ most → (bytes (a + i) ≢ 0) × (a + i < 2 ^ 63)

-- a trap comes to this answer, to these contents of the space, and to this model but for the number of calls
pub record ComesTo {Rest : Type 0} (t : Leaves TrapAnswer Rest) (value : TrapAnswer) (s : Contents Rest) (m : HostModel) : Type 0 where
  pub answer : t.0 ≡ value
  pub space : t.1 ≡ s
  pub model : unscheduled t.2 ≡ unscheduled m

-- the byte at an address, once these bytes are there from a on
abbrev pub stored_byte : List ℕ → ℕ → (ℕ → ℕ) → ℕ → ℕ
stored_byte bytes a old q = if nat_le a q && nat_lt q (a + length bytes) then get_or bytes (q - a) 0 else old q

-- the first line of these bytes with its newline, cut where it has this many bytes
unfoldable pub line_front : ℕ → List ℕ → List ℕ
line_front zero xs = []
line_front (suc room) [] = []
line_front (suc room) (b ∷ bs) = b ∷ (if b == 10 then [] else line_front room bs)

-- whether it ends before the bytes do: by its newline, or cut
unfoldable pub line_ends : ℕ → List ℕ → Bool
line_ends zero xs = true
line_ends (suc room) [] = false
line_ends (suc room) (b ∷ bs) = if b == 10 then true else line_ends room bs

-- the text at a is looked at up to byte number i, where no byte before it is zero
pub record LooksAt (most : ℕ) (bytes : ℕ → ℕ) (a i : ℕ) : Type 0 where
  pub few : i ≤ most
  pub nonzero : (j : ℕ) → j < i → bytes (a + j) ≢ 0

-- each of q bytes at p lies below 2^63
abbrev pub LiesBelow : ℕ → ℕ → Type 0
LiesBelow p q = (i : ℕ) → i < q → p + i < 2 ^ 63
