-- The words of the debugger: what a name means.
use Rattle.std.specs.Prelude.{ℕ, ◌||◌, Bool, List, Option, bytes_eq}
use Rattle.std.specs.List.{find}
use Rattle.mx_ask.specs.declared.words.Row.{Row}

-- whether a word is written so: by its name or its short form
abbrev pub fits : List ℕ → List ℕ → List ℕ → Bool
fits written name short = bytes_eq name written || bytes_eq short written

-- the first row of a table that is written so
abbrev pub row_of : List ℕ → List Row → Option Row
row_of written rows = find (λ row. fits written row.name.now row.short.now) rows
