-- Tables of names.
use Rattle.std.specs.Prelude.{ℕ, ◌+◌, Bool, true, ◌==◌, not, ◌&&◌, List, [], ◌∷◌, Option, None, Some, bytes_eq, if◌then◌else◌}

-- a text with a byte before its first word
abbrev pub with_first : ℕ → List (List ℕ) → List (List ℕ)
with_first b [] = (b ∷ []) ∷ []
with_first b (w ∷ ws) = (b ∷ w) ∷ ws

-- the words of a text, with one blank between two of them
abbrev pub words : List ℕ → List (List ℕ)
words [] = [] ∷ []
words (b ∷ bs) = if b == 32 then [] ∷ words bs else with_first b (words bs)

-- each name with its place, counted from a first one
abbrev pub numbered : ℕ → List (List ℕ) → List (List ℕ × ℕ)
numbered place [] = []
numbered place (name ∷ names) = (name, place) ∷ numbered (place + 1) names

-- what the first entry with this name says
abbrev pub first_of : {A : Type 0} → List ℕ → List (List ℕ × A) → Option A
first_of name [] = None
first_of name (entry ∷ entries) = if bytes_eq entry.0 name then Some entry.1 else first_of name entries

-- no entry has this name
abbrev pub lacks : {A : Type 0} → List ℕ → List (List ℕ × A) → Bool
lacks name [] = true
lacks name (entry ∷ entries) = not (bytes_eq entry.0 name) && lacks name entries

-- no name has two entries
abbrev pub names_once : {A : Type 0} → List (List ℕ × A) → Bool
names_once [] = true
names_once (entry ∷ entries) = lacks entry.0 entries && names_once entries
