-- A text that is changed by ranges. On the wire a line ends with a newline, with a carriage return, or with both. (Language Server
-- Protocol, "Text Documents" and "DidChangeTextDocument Notification".)
use Rattle.std.specs.Prelude.{ℕ, zero, suc, ◌+◌, ◌-◌, ◌==◌, ◌&&◌, not, nat_lt, Bool, List, [], ◌∷◌, ◌++◌, length, take, drop, min, if◌then◌else◌}
use Rattle.mx_frames.specs.Columns.{place_of}
use Rattle.mx_line.specs.Bytes.{run}

-- ---- lines

abbrev pub is_no_end : ℕ → Bool
is_no_end b = not (b == 10) && not (b == 13)

-- the first line of a text, without its end
abbrev pub first_line : List ℕ → List ℕ
first_line text = run is_no_end text

-- a text without the end of a line at its front
abbrev pub past_end : List ℕ → List ℕ
past_end [] = []
past_end (a ∷ []) = []
past_end (a ∷ b ∷ rest) = if a == 13 && b == 10 then rest else b ∷ rest

-- a text without its first line
abbrev pub later_lines : List ℕ → List ℕ
later_lines text = past_end (drop (length (first_line text)) text)

-- a text without its first n lines
unfoldable pub lines_after : ℕ → List ℕ → List ℕ
lines_after zero text = text
lines_after (suc n) text = lines_after n (later_lines text)

-- ---- places

-- of a text, from a line on: how many bytes are before a column of this line, which are all at most
abbrev pub offset_in : List ℕ → List ℕ → ℕ → ℕ
offset_in text rest column = min ((length text - length rest) + place_of (first_line rest) column) (length text)

-- how many bytes are before a column of a line, both counted from 0
abbrev pub offset_of : List ℕ → ℕ → ℕ → ℕ
offset_of text line column = offset_in text (lines_after line text) column

-- ---- changes

-- where a range ends, and not before it begins
abbrev pub end_after : ℕ → ℕ → ℕ
end_after from to = if nat_lt from to then to else from

-- a text with other bytes in place of those from one place up to another
abbrev pub spliced : List ℕ → ℕ → ℕ → List ℕ → List ℕ
spliced text from to new = take from text ++ new ++ drop (end_after from to) text
