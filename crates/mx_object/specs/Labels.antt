-- The labels of tetras: the symbols whose value is an address in them.
use Rattle.std.specs.Prelude.{ℕ, ◌-◌, ◌/◌, ◌^◌, ◌==◌, ◌&&◌, Bool, false, nat_le, nat_lt, List, [], ◌∷◌, ◌++◌, Option, None, Some, if◌then◌else◌}
use Rattle.std.specs.List.{flat_map}
use Rattle.mx_word.specs.declared.symbols.Symbol.{Symbol}
use Rattle.mx_word.specs.declared.symbols.Value.{Value}
use Rattle.mx_word.specs.declared.symbols.Value.TheVariants.{Pure, Reg}
use Rattle.mx_type.specs.Lines.{tetra_address}
use Rattle.mx_object.specs.Addresses.{with_all}
use Rattle.mx_object.specs.declared.labels.Label.{Label}
use Rattle.mx_object.specs.declared.labels.Place.{Place}

-- ---- the labels of a tetra

-- a name whose value is an address of the tetra at this address
abbrev pub label_with : ℕ → List ℕ → Value → List Label
label_with address name (Pure a) = if tetra_address a == address then record { name = name; address = a } ∷ [] else []
label_with address name (Reg k) = []

abbrev pub label_of : ℕ → Symbol → List Label
label_of address s = label_with address s.name s.value

-- those of symbols, in their order
abbrev pub labels_at : ℕ → List Symbol → List Label
labels_at address symbols = flat_map (label_of address) symbols

-- ---- the tetras that have labels

abbrev pub value_tetra : Value → List ℕ
value_tetra (Pure a) = tetra_address a ∷ []
value_tetra (Reg k) = []

abbrev pub labelled : List Symbol → List ℕ
labelled symbols = with_all [] (flat_map (λ (s : Symbol). value_tetra s.value) symbols)

-- ---- the nearest symbol

-- a segment is a quarter of the addresses below 2^63
abbrev pub segment : ℕ → ℕ
segment a = a / 2 ^ 61

-- whether an address is at or before another in its segment
abbrev pub precedes : ℕ → ℕ → Bool
precedes a b = nat_le a b && (segment a == segment b)

-- a symbol as a place before an address, if it is one: its name, and how many bytes it is before the address
abbrev pub place_with : ℕ → List ℕ → Value → Option Place
place_with address name (Pure a) = if precedes a address then Some (record { name = name; offset = address - a }) else None
place_with address name (Reg k) = None

abbrev pub place_of : ℕ → Symbol → Option Place
place_of address s = place_with address s.name s.value

-- the nearer of two places; of two that are equally near, the first
abbrev pub nearer : Option Place → Option Place → Option Place
nearer None q = q
nearer (Some p) None = Some p
nearer (Some p) (Some q) = if nat_lt q.offset p.offset then Some q else Some p

-- the nearest of symbols
unfoldable pub nearest : ℕ → List Symbol → Option Place
nearest address [] = None
nearest address (s ∷ symbols) = nearer (place_of address s) (nearest address symbols)
