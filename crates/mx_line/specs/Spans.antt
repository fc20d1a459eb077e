-- Parts of a line.
use Rattle.std.specs.Prelude.{ℕ, ◌+◌, List, length, slice_range}
use Rattle.mx_line.specs.declared.spans.Span.{Span}

-- the bytes of a line at a span
abbrev pub part : List ℕ → Span → List ℕ
part line span = slice_range line span.from span.to

-- the span of these bytes, which are at a place
abbrev pub span : ℕ → List ℕ → Span
span from bytes = record { from = from; to = from + length bytes }
