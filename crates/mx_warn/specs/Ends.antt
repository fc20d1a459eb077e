-- An instruction that goes on to the next tetra, where that is of a line of data. JMP, GO, POP and RESUME do not go on, nor does
-- TRAP 0,Halt; and PUSHJ and PUSHGO may not come back.
use Rattle.std.specs.Prelude.{ℕ, ◌-◌, ◌/◌, ◌==◌, ◌&&◌, ◌||◌, List, [], ◌∷◌, Bool, not, nat_le, if◌then◌else◌, Option, None}
use Rattle.std.specs.List.{find, list_any}
use Rattle.std.specs.Option.{option_map}
use Rattle.mx_view.specs.declared.cells.Cell.{Cell}
use Rattle.mx_slips.specs.declared.sources.SourceLine.{SourceLine}
use Rattle.mx_slips.specs.declared.marks.Mark.{Mark}
use Rattle.mx_warn.specs.Cells.{has_instruction}
use Rattle.mx_slips.specs.Marks.{line_number}
use Rattle.mx_warn.specs.Overlaps.{mark_with}

-- the codes of GO, of PUSHGO, and of JMP, PUSHJ, POP and RESUME
abbrev pub leads_away : ℕ → Bool
leads_away code =
    code == 0x9e || code == 0x9f || code == 0xbe || code == 0xbf || (nat_le 0xf0 code && nat_le code 0xf3) || code == 0xf8 || code == 0xf9

-- TRAP with X and Y 0 is a call of Halt
abbrev pub goes_on : ℕ → Bool
goes_on tetra = nat_le 0x100 tetra && not (leads_away (tetra / 0x1000000))

-- data in the tetra after this address
abbrev pub is_after : ℕ → Cell → Bool
is_after address c = c.address - address == 4

abbrev pub is_loaded_after : ℕ → List Cell → Bool
is_loaded_after address cells = list_any (is_after address) cells

abbrev pub is_data_after : ℕ → SourceLine → Bool
is_data_after address line = is_loaded_after address line.cells && not (has_instruction line)

-- the number of the first line with such data
unfoldable pub data_line : List SourceLine → ℕ → Option ℕ
data_line lines address = option_map line_number (find (is_data_after address) lines)

-- that line after one tetra that goes on
abbrev pub next_data : List SourceLine → List Cell → Option ℕ
next_data lines (c ∷ []) = if goes_on c.tetra then data_line lines c.address else None
next_data lines cells = None

unfoldable pub data_after_code : List SourceLine → SourceLine → Option Mark
data_after_code lines line = if has_instruction line then mark_with line.statements (next_data lines line.cells) else None
