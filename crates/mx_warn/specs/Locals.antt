-- A local label `dB` with no `dH` before it: its value is 0. (MMIXware, the part on MMIXAL: local labels.)
use Rattle.std.specs.Prelude.{ℕ, ◌==◌, ◌&&◌, List, [], ◌∷◌, Bool, false, not, nat_lt, if◌then◌else◌, Option, None, Some}
use Rattle.std.specs.List.{find, list_any}
use Rattle.std.specs.Option.{option_map}
use Rattle.mx_word.specs.Kinds.{is_digit}
use Rattle.mx_slips.specs.declared.pieces.Piece.{Piece}
use Rattle.mx_slips.specs.declared.sources.SourceLine.{SourceLine}
use Rattle.mx_slips.specs.declared.sources.Statement.{Statement}
use Rattle.mx_slips.specs.declared.tokens.Token.{Token}
use Rattle.mx_slips.specs.declared.marks.Mark.{Mark}
use Rattle.mx_slips.specs.Backslashes.{token_mark}

-- the digit d of `dB`
abbrev pub back_digit : List ℕ → Option ℕ
back_digit (d ∷ b ∷ []) = if is_digit d && b == 66 then Some d else None
back_digit text = None

-- whether a text is `dH`
abbrev pub is_local : ℕ → List ℕ → Bool
is_local d (e ∷ b ∷ []) = e == d && b == 72
is_local d text = false

abbrev pub has_local : ℕ → Option Piece → Bool
has_local d None = false
has_local d (Some label) = is_local d label.text

-- whether a statement of a line has the label `dH`
abbrev pub line_has : ℕ → SourceLine → Bool
line_has d line = list_any (λ (s : Statement). has_local d s.label) line.statements

-- whether one has it whose operation is before this place
abbrev pub line_has_before : ℕ → ℕ → SourceLine → Bool
line_has_before d place line = list_any (λ (s : Statement). nat_lt s.op.from place && has_local d s.label) line.statements

-- whether a statement before the one at this place of the line with this number has it
abbrev pub comes_before : ℕ → ℕ → ℕ → SourceLine → Bool
comes_before d number place line =
    if nat_lt line.number number then line_has d line
    else line.number == number && line_has_before d place line

abbrev pub is_unlabelled : List SourceLine → ℕ → ℕ → Option ℕ → Bool
is_unlabelled lines number place None = false
is_unlabelled lines number place (Some d) = not (list_any (comes_before d number place) lines)

abbrev pub is_unplaced : List SourceLine → ℕ → ℕ → Token → Bool
is_unplaced lines number place t = is_unlabelled lines number place (back_digit t.text)

-- the first such local label of a statement on the line with this number
unfoldable pub no_label_before : List SourceLine → ℕ → Statement → Option Mark
no_label_before lines number s = option_map token_mark (find (is_unplaced lines number s.op.from) s.tokens)
