-- What is looked up: a name, the nearest label, the line of an address, and the first instruction from a line on.
use Rattle.std.specs.Prelude.{◌≤◌, ℕ, ◌==◌, ◌&&◌, Bool, not, nat_le, nat_lt, List, [], ◌∷◌, Option, None, Some, option_map, if◌then◌else◌}
use Rattle.std.specs.List.{find}
use Rattle.std.specs.Str.{bytes_eq}
use Rattle.mx_word.specs.declared.symbols.Symbol.{Symbol}
use Rattle.mx_word.specs.declared.symbols.Value.{Value}
use Rattle.mx_type.specs.Lines.{tetra_address}
use Rattle.mx_object.specs.Labels.{precedes}
use Rattle.mx_object.specs.Rows.{short_name}
use Rattle.mx_object.specs.declared.labels.Label.{Label}
use Rattle.mx_book.specs.Things.{thing_with}
use Rattle.mx_book.specs.declared.book.Book.{Book}
use Rattle.mx_book.specs.declared.loads.Load.{Load}
use Rattle.mx_book.specs.declared.things.Thing.{Thing}

-- ---- names

-- names that are one, but for a colon in front
abbrev pub is_named : List ℕ → Symbol → Bool
is_named name s = bytes_eq (short_name s.name) (short_name name)

abbrev pub symbol_named : List Symbol → List ℕ → Option Symbol
symbol_named symbols name = find (is_named name) symbols

abbrev pub symbol : Book → List ℕ → Option Value
symbol b name = option_map (λ (s : Symbol). s.value) (symbol_named b.symbols name)

abbrev pub thing : Book → List ℕ → Option Thing
thing b name = option_map thing_with (symbol b name)

-- ---- the nearest label

-- the address of a label at or before an address in its segment
abbrev pub address_before : ℕ → Label → Option ℕ
address_before a l = if precedes l.address a then Some l.address else None

abbrev pub greater : Option ℕ → Option ℕ → Option ℕ
greater None q = q
greater (Some x) None = Some x
greater (Some x) (Some y) = if nat_lt x y then Some y else Some x

-- the greatest of them
unfoldable pub nearest_address : ℕ → List Label → Option ℕ
nearest_address a [] = None
nearest_address a (l ∷ labels) = greater (address_before a l) (nearest_address a labels)

-- the first label at an address
abbrev pub label_at : List Label → ℕ → Option Label
label_at labels a = find (λ (l : Label). l.address == a) labels

abbrev pub label_if : List Label → Option ℕ → Option Label
label_if labels None = None
label_if labels (Some a) = label_at labels a

unfoldable pub nearest : Book → ℕ → Option Label
nearest b a = label_if b.labels (nearest_address a b.labels)

-- an address is at least as near as another one below the same address, if there is one
abbrev pub IsAsNear : Option ℕ → Option ℕ → Type 0
IsAsNear p None = Unit {0}
IsAsNear None (Some y) = ⊥
IsAsNear (Some x) (Some y) = y ≤ x

-- ---- lines

-- a tetra that holds an address, and whose line is known
abbrev pub tells_line : ℕ → Load → Bool
tells_line a l = l.address == tetra_address a && not (l.line == 0)

abbrev pub telling : List Load → ℕ → Option Load
telling loads a = find (tells_line a) loads

abbrev pub line_at : Book → ℕ → Option ℕ
line_at b a = option_map (λ (l : Load). l.line) (telling b.loads a)

-- an instruction of a line, or of a later one
abbrev pub from_line : ℕ → Load → Option Load
from_line line l = if l.is_code && nat_le line l.line then Some l else None

-- the one on the earlier line; of two on one line, the first
abbrev pub earlier : Option Load → Option Load → Option Load
earlier None q = q
earlier (Some p) None = Some p
earlier (Some p) (Some q) = if nat_lt q.line p.line then Some q else Some p

unfoldable pub earliest : ℕ → List Load → Option Load
earliest line [] = None
earliest line (l ∷ loads) = earlier (from_line line l) (earliest line loads)

abbrev pub address_of_line : Book → ℕ → Option Load
address_of_line b line = earliest line b.loads

-- an instruction is on a line at least as early as another one, if there is one
abbrev pub IsAsEarly : Option Load → Option Load → Type 0
IsAsEarly p None = Unit {0}
IsAsEarly None (Some q) = ⊥
IsAsEarly (Some p) (Some q) = p.line ≤ q.line
