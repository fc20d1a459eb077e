-- GREG with an address that nothing uses: without its line the source is not refused, and each line loads the same tetras. So no
-- instruction names its register, and none has it as a base. A source that names $250 to $254 by number is left alone.
use Rattle.std.specs.Prelude.{ℕ, ◌==◌, ◌&&◌, ◌||◌, List, [], ◌∷◌, ◌++◌, length, Bool, true, false, not, codes, if◌then◌else◌, Option, None}
use Rattle.std.specs.List.{flat_map, list_any}
use Rattle.std.specs.Result.{is_ok}
use Rattle.std.specs.Str.{bytes_eq}
use Rattle.mx_word.specs.Kinds.{is_letter}
use Rattle.mx_files.specs.Sources.{source_meaning}
use Rattle.mx_view.specs.Loads.{loads_of}
use Rattle.mx_view.specs.declared.cells.Cell.{Cell}
use Rattle.mx_slips.specs.declared.sources.SourceLine.{SourceLine}
use Rattle.mx_slips.specs.declared.sources.Statement.{Statement}
use Rattle.mx_slips.specs.declared.tokens.Token.{Token}
use Rattle.mx_slips.specs.declared.marks.Mark.{Mark}
use Rattle.mx_slips.specs.Afters.{begins_with}
use Rattle.mx_slips.specs.Bases.{is_greg}
use Rattle.mx_warn.specs.Overlaps.{first_operation}

-- ---- which GREG has an address

abbrev pub begins_address : List ℕ → Bool
begins_address [] = false
begins_address (b ∷ bs) = b == 64 || is_letter b

abbrev pub is_address : List Token → Bool
is_address [] = false
is_address (t ∷ more) = begins_address t.text

abbrev pub is_address_greg : List Statement → Bool
is_address_greg (s ∷ []) = is_greg s && is_address s.tokens
is_address_greg statements = false

-- a number of three digits that begins with 25 and is not 255
abbrev pub is_global_number : Token → Bool
is_global_number t = length t.text == 3 && begins_with 50 t.text && not (bytes_eq t.text (codes "255"))

abbrev pub line_names_global : SourceLine → Bool
line_names_global line = list_any (λ (s : Statement). list_any is_global_number s.tokens) line.statements

abbrev pub has_cells : List Cell → Bool
has_cells [] = false
has_cells (c ∷ more) = true

abbrev pub is_loading : SourceLine → Bool
is_loading line = has_cells line.cells

-- ---- the source without its line

abbrev pub kept_text : ℕ → SourceLine → List ℕ
kept_text number line = if line.number == number then codes "\n" else line.text ++ codes "\n"

abbrev pub without_line : ℕ → List SourceLine → List ℕ
without_line number lines = flat_map (kept_text number) lines

abbrev pub is_same_cell : Cell → Cell → Bool
is_same_cell c d = c.address == d.address && c.tetra == d.tetra

unfoldable pub same_cells : List Cell → List Cell → Bool
same_cells [] [] = true
same_cells (c ∷ cells) (d ∷ others) = is_same_cell c d && same_cells cells others
same_cells cells others = false

-- each line with the tetras that it loads
unfoldable pub same_loads : List (List Cell) → List SourceLine → Bool
same_loads [] [] = true
same_loads (cells ∷ loads) (line ∷ lines) = same_cells cells line.cells && same_loads loads lines
same_loads loads lines = false

-- whether a source is not refused, and each of its lines loads the tetras of one of these
abbrev pub loads_same : List ℕ → List SourceLine → Bool
loads_same source lines = same_loads (loads_of source) lines && is_ok (source_meaning source)

abbrev pub is_idle : List SourceLine → ℕ → Bool
is_idle lines number = loads_same (without_line number lines) lines

abbrev pub may_be_idle : List SourceLine → List Statement → Bool
may_be_idle lines statements =
    is_address_greg statements && list_any is_loading lines && not (list_any line_names_global lines)

unfoldable pub unused_base : List SourceLine → SourceLine → Option Mark
unused_base lines line =
    if may_be_idle lines line.statements && is_idle lines line.number then first_operation 0 line.statements else None
