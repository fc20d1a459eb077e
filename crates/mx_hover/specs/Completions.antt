-- The words that may be meant at a place: of the operations, of the labels of the source and of the predefined symbols those that begin
-- with what is written there, in this order. (Language Server Protocol, "Completion Request".)
use Rattle.std.specs.Prelude.{ℕ, ◌==◌, ◌&&◌, not, Bool, List, [], ◌∷◌, ◌++◌, length, map, take, codes, if◌then◌else◌}
use Rattle.std.specs.List.{flat_map}
use Rattle.std.specs.Str.{str_eq_ignore_ascii_case}
use Rattle.mx_json.specs.Json.{array, string}
use Rattle.mx_line.specs.Lines.{lines_of}
use Rattle.mx_marks.specs.Mending.{line_text}
use Rattle.mx_occurrences.specs.Occurrences.{occurrences_of}
use Rattle.mx_occurrences.specs.declared.occurrence.Occurrence.{Occurrence}
use Rattle.mx_ops.specs.Opcodes.{Row, chosen_operations, opcode_rows, pseudo_operations}
use Rattle.mx_ops.specs.Predefined.{predefined_names}
use Rattle.mx_references.specs.Outline.{is_symbol_label}
use Rattle.mx_word.specs.Kinds.{is_name_byte}

-- ---- what is written there

-- a letter or a digit, but for the colon, which parts a prefix from a name
abbrev pub is_word_byte : ℕ → Bool
is_word_byte b = is_name_byte b && not (b == 58)

-- what follows the last byte that is none: the word is what has come of it
unfoldable pub word_from : List ℕ → List ℕ → List ℕ
word_from word [] = word
word_from word (b ∷ bs) = if is_word_byte b then word_from word bs else word_from bs bs

-- the letters and digits that a text ends with
abbrev pub last_word : List ℕ → List ℕ
last_word text = word_from text text

-- those before a place of line number
abbrev pub word_at : ℕ → ℕ → List ℕ → List ℕ
word_at number from source = last_word (take from (line_text number (lines_of source)))

-- a name begins with a word, in capital or small letters
abbrev pub begins_with : List ℕ → List ℕ → Bool
begins_with word name = str_eq_ignore_ascii_case (take (length word) name) word

-- ---- the names

-- the pseudo-operations, LDA and SET
unfoldable pub directives : List (List ℕ)
directives = map (λ o. o.0) (pseudo_operations ++ chosen_operations)

-- the instructions, in the order of their codes
unfoldable pub instructions : List (List ℕ)
instructions = flat_map (λ (r : Row). r.names) opcode_rows

-- the predefined symbols, without the colon in front of each
unfoldable pub predefined : List (List ℕ)
predefined = map (λ p. p.0) predefined_names

-- ---- what is answered

-- a name of a kind, as the protocol numbers it
unfoldable pub item : List ℕ → List ℕ → List ℕ
item kind name = codes "{\"label\":" ++ string name ++ codes ",\"kind\":" ++ kind ++ codes "}"

abbrev pub item_if : List ℕ → List ℕ → List ℕ → List (List ℕ)
item_if word kind name = if begins_with word name then item kind name ∷ [] else []

-- 14 is a keyword, 6 a variable and 21 a constant
abbrev pub label_if : List ℕ → Occurrence → List (List ℕ)
label_if word o = if is_symbol_label o then item_if word (codes "6") o.text else []

unfoldable pub items : List ℕ → List Occurrence → List (List ℕ)
items word names =
    flat_map (item_if word (codes "14")) directives ++ flat_map (item_if word (codes "14")) instructions ++ flat_map (label_if word) names
    ++ flat_map (item_if word (codes "21")) predefined

unfoldable pub completion_of : List ℕ → List Occurrence → List ℕ
completion_of word names = codes "{\"isIncomplete\":false,\"items\":" ++ array (λ value. value) (items word names) ++ codes "}"

abbrev pub completion : ℕ → ℕ → List ℕ → List ℕ
completion number from source = completion_of (word_at number from source) (occurrences_of source)
