-- What MMIX has in place of an operation of other machines. A rule of this program.
use Rattle.std.specs.Prelude.{ℕ, Bool, not, is_some, List, [], map, Option, None, Some}
use Rattle.std.specs.List.{find}
use Rattle.std.specs.Str.{str_eq_ignore_ascii_case}
use Rattle.mx_ops.specs.Opcodes.{operation_of}
use Rattle.mx_foreign.specs.declared.table.TheConstants.{FOREIGN}

-- a name, and a sentence on what MMIX has
abbrev pub Row : Type 0
Row = List ℕ × List ℕ

unfoldable pub foreign : List Row
foreign = map (λ row. (row.0.now, row.1.now)) FOREIGN

abbrev pub advice_by : Option Row → List ℕ
advice_by None = []
advice_by (Some row) = row.1

-- the sentence of the first row that has a name, in upper or lower case; no text where none has it
abbrev pub advice_in : List ℕ → List Row → List ℕ
advice_in name rows = advice_by (find (λ row. str_eq_ignore_ascii_case name row.0) rows)

unfoldable pub advice_of : List ℕ → List ℕ
advice_of name = advice_in name foreign

-- whether a row is about no operation of MMIXAL
abbrev pub is_foreign : Row → Bool
is_foreign row = not (is_some (operation_of row.0))
