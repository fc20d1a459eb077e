-- Bytes that are placed in memory, each at an address.
use Rattle.std.specs.Prelude.{ℕ, ◌+◌, ◌==◌, if◌then◌else◌, List, [], ◌∷◌, bit_xor}

-- bytes with their addresses, one after another from a first address on
abbrev pub from_place : ℕ → List ℕ → List (ℕ × ℕ)
from_place a [] = []
from_place a (b ∷ bytes) = (a, b) ∷ from_place (a + 1) bytes

-- the exclusive or of all bytes that are placed at an address
abbrev pub placed : List (ℕ × ℕ) → ℕ → ℕ
placed [] a = 0
placed (p ∷ ps) a = if a == p.0 then bit_xor p.1 (placed ps a) else placed ps a
