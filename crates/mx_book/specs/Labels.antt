-- The labels of a program: the symbols that name places. Of a source these are all but registers and constants, which IS defines; of
-- an object, which does not tell constants, those of tetras that it loads, and those whose values are beyond the segment of instructions.
use Rattle.std.specs.Prelude.{ℕ, ◌-◌, ◌^◌, ◌&&◌, Bool, false, not, nat_le, nat_lt, List, [], ◌∷◌, ◌++◌, length, drop, Option, None, Some, if◌then◌else◌, codes}
use Rattle.std.specs.List.{flat_map, list_any}
use Rattle.std.specs.Str.{bytes_eq}
use Rattle.mx_word.specs.declared.symbols.Symbol.{Symbol}
use Rattle.mx_word.specs.declared.symbols.Value.{Value}
use Rattle.mx_word.specs.declared.symbols.Value.TheVariants.{Pure, Reg}
use Rattle.mx_slips.specs.Cases.{ends_with}
use Rattle.mx_slips.specs.declared.pieces.Piece.{Piece}
use Rattle.mx_slips.specs.declared.sources.SourceLine.{SourceLine}
use Rattle.mx_slips.specs.declared.sources.Statement.{Statement}
use Rattle.mx_slips.specs.declared.tokens.Token.{Token}
use Rattle.mx_object.specs.declared.labels.Label.{Label}
use Rattle.mx_object.specs.declared.tetras.ListedTetra.{ListedTetra}

-- ---- constants

-- operands that begin with the place of the line, as those of `Here IS @`
abbrev pub begin_with_place : List Token → Bool
begin_with_place [] = false
begin_with_place (t ∷ more) = bytes_eq t.text (codes "@")

abbrev pub is_constant : Statement → Bool
is_constant s = bytes_eq s.op.text (codes "IS") && not (begin_with_place s.tokens)

-- A name after a colon: with a prefix or without one, a complete name ends so.
abbrev pub full_name : List ℕ → List (List ℕ)
full_name label = (codes ":" ++ label) ∷ []

abbrev pub name_of : Option Piece → List (List ℕ)
name_of None = []
name_of (Some label) = full_name label.text

abbrev pub constant_of : Statement → List (List ℕ)
constant_of s = if is_constant s then name_of s.label else []

abbrev pub constants_in : List SourceLine → List (List ℕ)
constants_in lines = flat_map (λ (l : SourceLine). flat_map constant_of l.statements) lines

abbrev pub end_of : List ℕ → ℕ → List ℕ
end_of text count = drop (length text - count) text

abbrev pub is_among : List (List ℕ) → List ℕ → Bool
is_among constants name = list_any (ends_with name) constants

-- ---- labels

abbrev pub label_at : List ℕ → ℕ → List Label
label_at name address = record { name = name; address = address } ∷ []

-- of a source: the label that a name with a value is
abbrev pub value_label : List (List ℕ) → List ℕ → Value → List Label
value_label constants name (Pure a) = if is_among constants name then [] else label_at name a
value_label constants name (Reg k) = []

abbrev pub label_unless : List (List ℕ) → Symbol → List Label
label_unless constants s = value_label constants s.name s.value

-- of an object
abbrev pub near_labels : ListedTetra → List Label
near_labels t = if nat_le (2 ^ 61) t.address then [] else t.labels

abbrev pub far_value : List ℕ → Value → List Label
far_value name (Pure a) = if nat_lt a (2 ^ 61) then [] else label_at name a
far_value name (Reg k) = []

abbrev pub far_label : Symbol → List Label
far_label s = far_value s.name s.value

abbrev pub object_labels : List ListedTetra → List Symbol → List Label
object_labels tetras symbols = flat_map near_labels tetras ++ flat_map far_label symbols
