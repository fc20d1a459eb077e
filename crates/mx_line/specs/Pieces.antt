-- The pieces of a text round each byte of one kind.
use Rattle.std.specs.Prelude.{ℕ, List, [], ◌==◌, Option, None, Some}
use Rattle.std.specs.List.{slice_split}

-- the pieces between the bytes of a kind: one more than there are such bytes
unfoldable pub split : ℕ → List ℕ → List (List ℕ)
split at text = slice_split (λ b. b == at) text

-- the pieces of what is left, if anything is
abbrev pub later : ℕ → Option (List ℕ) → List (List ℕ)
later at None = []
later at (Some rest) = split at rest
