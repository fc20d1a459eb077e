-- The definitions on worked rows.
use Rattle.std.proofs.Common.{◌≡◌, ℕ, ◌^◌, List, Bool, true, false, [], ◌∷◌, None, Some, refl, codes}
use Rattle.mx_word.specs.declared.symbols.Symbol.{Symbol}
use Rattle.mx_word.specs.declared.symbols.Value.{Value}
use Rattle.mx_word.specs.declared.symbols.Value.TheVariants.{Pure, Reg}
use Rattle.mx_object.specs.declared.labels.Label.{Label}
use Rattle.mx_book.specs.Labels.{is_among, label_unless}
use Rattle.mx_book.specs.Lookups.{is_named, tells_line}
unfoldable use Rattle.mx_book.specs.Lookups.{earliest, nearest_address}
use Rattle.mx_book.specs.declared.loads.Load.{Load}

-- ---- labels

abbrev named : List ℕ → Value → Symbol
named name value = record { name = name; value = value; serial = 1 }

-- a constant is known by its name, with a prefix in front or without one
constant : is_among (codes ":N" ∷ []) (codes ":N") ≡ true
constant = refl

prefixed-constant : is_among (codes ":N" ∷ []) (codes ":Sort:N") ≡ true
prefixed-constant = refl

other-name : is_among (codes ":N" ∷ []) (codes ":MN") ≡ false
other-name = refl

no-label : label_unless (codes ":N" ∷ []) (named (codes ":N") (Pure 300)) ≡ []
no-label = refl

register : label_unless [] (named (codes ":k") (Reg 1)) ≡ []
register = refl

colon : is_named (codes "Main") (named (codes ":Main") (Pure 256)) ≡ true
colon = refl

-- ---- the nearest label

abbrev labels : List Label
labels = record { name = codes ":Main"; address = 256 } ∷ record { name = codes ":Loop"; address = 264 } ∷ record { name = codes ":Text"; address = 2 ^ 61 } ∷ []

between : nearest_address 263 labels ≡ Some 256
unfolding nearest_address
between = refl

following : nearest_address 1000 labels ≡ Some 264
unfolding nearest_address
following = refl

before : nearest_address 255 labels ≡ None
unfolding nearest_address
before = refl

other-segment : nearest_address (2 ^ 62) labels ≡ None
unfolding nearest_address
other-segment = refl

-- ---- lines

abbrev load : ℕ → ℕ → Bool → Load
load address line is_code = record { address = address; line = line; is_code = is_code }

-- data in line 3, an instruction in line 5, and two in line 6
abbrev loads : List Load
loads = load (2 ^ 61) 3 false ∷ load 256 5 true ∷ load 260 6 true ∷ load 264 6 true ∷ []

past-data : earliest 2 loads ≡ Some (load 256 5 true)
unfolding earliest
past-data = refl

first-of-line : earliest 6 loads ≡ Some (load 260 6 true)
unfolding earliest
first-of-line = refl

last-line-after : earliest 7 loads ≡ None
unfolding earliest
last-line-after = refl

within-tetra : tells_line 258 (load 256 5 true) ≡ true
within-tetra = refl
