-- What holds of what is listed.
use Rattle.std.specs.Prelude.{◌≡◌, ◌≤◌, ℕ, ◌+◌, ◌==◌, IsTrue, List, [], ◌∷◌, Option, None, Some, if◌then◌else◌}
use Rattle.mx_word.specs.declared.symbols.Symbol.{Symbol}
use Rattle.mx_type.specs.Lines.{tetra_address}
use Rattle.mx_object.specs.Labels.{place_of}
use Rattle.mx_object.specs.declared.labels.Place.{Place}
use Rattle.mx_object.specs.declared.tetras.ListedTetra.{ListedTetra}

-- what tetras show at an address: the first one that holds it, and 0 where none does
unfoldable pub shown_at : List ListedTetra → ℕ → ℕ
shown_at [] a = 0
shown_at (t ∷ tetras) a = if t.address == tetra_address a then t.tetra else shown_at tetras a

-- a place is at least as near as another one, if there is one
abbrev pub IsAsNear : Option Place → Option Place → Type 0
IsAsNear p None = Unit {0}
IsAsNear None (Some q) = ⊥
IsAsNear (Some p) (Some q) = p.offset ≤ q.offset
