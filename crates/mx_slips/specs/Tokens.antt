-- The tokens of an operand field: its strings, character constants, numbers, names and other bytes, each with its place in the line.
-- (MMIXware, the part on MMIXAL: constants, symbols and strings.)
use Rattle.std.specs.Prelude.{ℕ, zero, suc, ◌+◌, ◌-◌, ◌==◌, List, [], ◌∷◌, length, take, if◌then◌else◌, Bool, Option, None, Some, is_some}
use Rattle.std.specs.List.{position}
use Rattle.mx_word.specs.Kinds.{is_hexadecimal}
use Rattle.mx_line.specs.Bytes.{is_name_byte, run}
use Rattle.mx_line.specs.Spans.{part}
use Rattle.mx_line.specs.declared.spans.Span.{Span}
use Rattle.mx_ops.specs.Predefined.{predefined_value}
use Rattle.mx_slips.specs.declared.pieces.Piece.{Piece}
use Rattle.mx_slips.specs.declared.tokens.Token.{Token}

abbrev pub piece_at : List ℕ → Span → Piece
piece_at line span = record { from = span.from; text = part line span }

-- a string with its two quotes, by the place of the second one
abbrev pub string_length : List ℕ → Option ℕ → ℕ
string_length bytes (Some n) = n + 2
string_length bytes None = length bytes + 1

-- How many bytes the token at the front of a text has: a string up to its quote, a character constant, `#` with hexadecimal digits,
-- letters and digits, or one other byte.
unfoldable pub token_length : List ℕ → ℕ
token_length [] = 0
token_length (b ∷ bs) =
    if b == 34 then string_length bs (position (λ c. c == 34) bs)
    else if b == 39 then 3
    else if b == 35 then length (run is_hexadecimal bs) + 1
    else if is_name_byte b then length (run is_name_byte (b ∷ bs))
    else 1

-- whether a name is that of a predefined symbol
abbrev pub is_predefined : List ℕ → Bool
is_predefined name = is_some (predefined_value (58 ∷ name))

abbrev pub token_with : ℕ → List ℕ → Token
token_with from text = record { from = from; text = text; is_predefined = is_predefined text }

-- the token at the front of a text that reaches to this place of the line
abbrev pub token_at : ℕ → List ℕ → Token
token_at end text = token_with (end - length text) (take (token_length text) text)

-- those of a text whose first n bytes belong to a token before them
unfoldable pub tokens_after : ℕ → ℕ → List ℕ → List Token
tokens_after n end [] = []
tokens_after (suc n) end (b ∷ bs) = tokens_after n end bs
tokens_after zero end (b ∷ bs) = token_at end (b ∷ bs) ∷ tokens_after (token_length (b ∷ bs) - 1) end bs

abbrev pub tokens_of : ℕ → List ℕ → List Token
tokens_of end text = tokens_after 0 end text
