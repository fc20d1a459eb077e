-- What is marked in a line.
use Rattle.std.specs.Prelude.{ℕ, List, length}
use Rattle.mx_slips.specs.declared.marks.Mark.{Mark}
use Rattle.mx_slips.specs.declared.sources.SourceLine.{SourceLine}

abbrev pub line_number : SourceLine → ℕ
line_number line = line.number

abbrev pub mark_of : ℕ → List ℕ → ℕ → Mark
mark_of from text other = record { place = from; length = length text; other = other }
