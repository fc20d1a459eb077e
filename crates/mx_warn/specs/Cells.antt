-- What a line of a source loads: instructions or data, and into which bytes.
use Rattle.std.specs.Prelude.{ℕ, ◌/◌, ◌%◌, ◌==◌, ◌&&◌, ◌||◌, List, Bool, not, nat_lt, codes}
use Rattle.std.specs.List.{list_any}
use Rattle.std.specs.Str.{bytes_eq}
use Rattle.mx_view.specs.declared.cells.Cell.{Cell}
use Rattle.mx_slips.specs.Operations.{is_data_operation}
use Rattle.mx_slips.specs.declared.sources.SourceLine.{SourceLine}
use Rattle.mx_slips.specs.declared.sources.Statement.{Statement}

-- an operation that places nothing
abbrev pub is_silent_operation : List ℕ → Bool
is_silent_operation op =
    bytes_eq op (codes "IS") || bytes_eq op (codes "LOC") || bytes_eq op (codes "GREG") || bytes_eq op (codes "PREFIX")
    || bytes_eq op (codes "LOCAL")

-- any other operation is an instruction
abbrev pub is_instruction : Statement → Bool
is_instruction s = not (is_data_operation s.op.text || is_silent_operation s.op.text)

abbrev pub has_instruction : SourceLine → Bool
has_instruction line = list_any is_instruction line.statements

-- Two tetras share a byte that is 0 in neither: the byte with this weight, or any.
abbrev pub has_byte : ℕ → ℕ → Bool
has_byte weight t = nat_lt 0 (t / weight % 256)

abbrev pub share_byte : ℕ → ℕ → ℕ → Bool
share_byte weight t u = has_byte weight t && has_byte weight u

abbrev pub share_bytes : ℕ → ℕ → Bool
share_bytes t u = share_byte 1 t u || share_byte 0x100 t u || share_byte 0x10000 t u || share_byte 0x1000000 t u

-- two cells in which a byte is placed twice, and two lists of them
abbrev pub overlaps : Cell → Cell → Bool
overlaps c d = c.address == d.address && share_bytes c.tetra d.tetra

abbrev pub overlap : List Cell → List Cell → Bool
overlap cells others = list_any (λ c. list_any (overlaps c) others) cells
