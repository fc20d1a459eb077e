-- Places and ranges of a text as JSON: lines are counted from 0, and columns in units of UTF-16. (Language Server Protocol, "Position",
-- "Range" and "Location".)
use Rattle.std.specs.Prelude.{ℕ, ◌+◌, ◌-◌, ◌&&◌, nat_lt, List, ◌++◌, length, codes, decimal, if◌then◌else◌}
use Rattle.mx_json.specs.Json.{string}
use Rattle.mx_frames.specs.Columns.{column_of}

-- of a line whose number is counted from 1
unfoldable pub position : ℕ → ℕ → List ℕ
position number column = codes "{\"line\":" ++ decimal (number - 1) ++ codes ",\"character\":" ++ decimal column ++ codes "}"

unfoldable pub columns_range : ℕ → ℕ → ℕ → List ℕ
columns_range number start end = codes "{\"start\":" ++ position number start ++ codes ",\"end\":" ++ position number end ++ codes "}"

-- the place so many bytes after another one, at most the end of the line
abbrev pub end_of : List ℕ → ℕ → ℕ → ℕ
end_of line from count = if nat_lt from (length line) && nat_lt count (length line - from) then from + count else length line

-- the bytes of a line from one place up to another
abbrev pub range : ℕ → List ℕ → ℕ → ℕ → List ℕ
range number line from to = columns_range number (column_of line from) (column_of line to)

abbrev pub line_range : ℕ → List ℕ → List ℕ
line_range number line = range number line 0 (length line)

-- a range in the text of a name
unfoldable pub location : List ℕ → List ℕ → List ℕ
location uri range = codes "{\"uri\":" ++ string uri ++ codes ",\"range\":" ++ range ++ codes "}"
