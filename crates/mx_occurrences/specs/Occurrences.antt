-- The names of a source in their places: its labels, and the names and local labels in its operands. (MMIXware, MMIXAL: symbols, PREFIX
-- and local symbols.)
use Rattle.std.specs.Prelude.{ℕ, ◌+◌, ◌-◌, ◌^◌, ◌==◌, ◌&&◌, nat_le, nat_lt, Bool, true, false, List, [], ◌∷◌, ◌++◌, length, replicate, slice_index_or, slice_set, Option, None, Some, if◌then◌else◌}
use Rattle.std.specs.List.{find, flat_map}
use Rattle.std.specs.Str.{bytes_eq}
use Rattle.mx_word.specs.Kinds.{is_digit, is_letter}
use Rattle.mx_ops.specs.Opcodes.{operation_of}
use Rattle.mx_ops.specs.declared.op.Op.{Op}
use Rattle.mx_ops.specs.declared.op.Op.TheVariants.{Pseudo as PseudoOp}
use Rattle.mx_ops.specs.declared.op.Pseudo.TheVariants as pseudo
use Rattle.mx_slips.specs.Sources.{unloaded_lines}
use Rattle.mx_slips.specs.declared.pieces.Piece.{Piece}
use Rattle.mx_slips.specs.declared.sources.Statement.{Statement}
use Rattle.mx_slips.specs.declared.sources.SourceLine.{SourceLine}
use Rattle.mx_slips.specs.declared.tokens.Token.{Token}
use Rattle.mx_occurrences.specs.declared.course.Course.{Course}
use Rattle.mx_occurrences.specs.declared.occurrence.Named.{Named}
use Rattle.mx_occurrences.specs.declared.occurrence.Named.TheVariants.{Symbol, Local}
use Rattle.mx_occurrences.specs.declared.occurrence.Occurrence.{Occurrence}

abbrev pub occurrence : ℕ → ℕ → List ℕ → Bool → Named → Occurrence
occurrence line from text is_label named = record { line = line; from = from; text = text; is_label = is_label; named = named }

-- ---- complete names

abbrev pub begins_with_colon : List ℕ → Bool
begins_with_colon [] = false
begins_with_colon (b ∷ bs) = b == 58

abbrev pub full_name : List ℕ → List ℕ → List ℕ
full_name prefix name = if begins_with_colon name then name else prefix ++ name

-- ---- what has come

abbrev pub start : Course
start = record { prefix = 58 ∷ []; counts = replicate 10 0 }

unfoldable pub next : ℕ → ℕ
next n = if nat_lt n (2 ^ 64 - 1) then n + 1 else n

abbrev pub digit_if : ℕ → Bool → Option ℕ
digit_if b true = Some (b - 48)
digit_if b false = None

abbrev pub front_digit : List ℕ → Option ℕ
front_digit [] = None
front_digit (b ∷ bs) = digit_if b (is_digit b)

abbrev pub count_of : Course → ℕ → ℕ
count_of c d = if nat_lt d 10 then slice_index_or c.counts d 0 else 0

abbrev pub counted : Course → ℕ → Course
counted c d = if nat_lt d 10 then record c { counts = slice_set c.counts d (next (slice_index_or c.counts d 0)) } else c

abbrev pub counted_if : Course → Option ℕ → Course
counted_if c None = c
counted_if c (Some d) = counted c d

abbrev pub with_label : Course → Option Piece → Course
with_label c None = c
with_label c (Some label) = counted_if c (front_digit label.text)

abbrev pub after_label : Course → Statement → Course
after_label c s = with_label c s.label

abbrev pub is_prefix_op : Option Op → Bool
is_prefix_op (Some (PseudoOp pseudo.Prefix)) = true
is_prefix_op op = false

abbrev pub is_prefix : Statement → Bool
is_prefix s = is_prefix_op (operation_of s.op.text)

abbrev pub prefix_with : List ℕ → List Token → List ℕ
prefix_with prefix (t ∷ []) = full_name prefix t.text
prefix_with prefix tokens = prefix

abbrev pub after_prefix : Course → Statement → Course
after_prefix c s = if is_prefix s then record c { prefix = prefix_with c.prefix s.tokens } else c

abbrev pub course_after : Course → Statement → Course
course_after c s = after_prefix (after_label c s) s

-- ---- what a name names

abbrev pub label_by : Course → List ℕ → Option ℕ → Named
label_by c label (Some d) = Local d (count_of c d)
label_by c label None = Symbol (full_name c.prefix label)

-- a label, once it is counted
abbrev pub label_named : Course → List ℕ → Named
label_named c label = label_by c label (front_digit label)

-- dB is the last dH before the statement, and dF the next one after it: 66 is B and 70 is F
abbrev pub local_named : Course → Course → ℕ → ℕ → Option Named
local_named before c d way =
    if way == 66 then Some (Local d (count_of before d)) else if way == 70 then Some (Local d (next (count_of c d))) else None

abbrev pub digit_named : Course → Course → ℕ → List ℕ → Option Named
digit_named before c d (b ∷ way ∷ []) = local_named before c d way
digit_named before c d text = None

abbrev pub begins_with_letter : List ℕ → Bool
begins_with_letter [] = false
begins_with_letter (b ∷ bs) = is_letter b

abbrev pub token_by : Course → Course → List ℕ → Option ℕ → Option Named
token_by before c text (Some d) = digit_named before c d text
token_by before c text None = if begins_with_letter text then Some (Symbol (full_name c.prefix text)) else None

abbrev pub token_named : Course → Course → List ℕ → Option Named
token_named before c text = token_by before c text (front_digit text)

-- ---- the names of a statement, of lines and of a source

abbrev pub label_in : Course → ℕ → Option Piece → List Occurrence
label_in c line None = []
label_in c line (Some label) = occurrence line label.from label.text true (label_named c label.text) ∷ []

abbrev pub in_label : Course → ℕ → Statement → List Occurrence
in_label c line s = label_in c line s.label

abbrev pub token_if : ℕ → Token → Option Named → List Occurrence
token_if line t None = []
token_if line t (Some named) = occurrence line t.from t.text false named ∷ []

abbrev pub in_token : Course → Course → ℕ → Token → List Occurrence
in_token before c line t = token_if line t (token_named before c t.text)

-- the operand of PREFIX names no symbol
abbrev pub in_operands : Course → Course → ℕ → Statement → List Occurrence
in_operands before c line s = if is_prefix s then [] else flat_map (in_token before c line) s.tokens

abbrev pub in_statement : Course → ℕ → Statement → List Occurrence
in_statement c line s = in_label (after_label c s) line s ++ in_operands c (after_label c s) line s

unfoldable pub in_statements : Course → ℕ → List Statement → List Occurrence
in_statements c line [] = []
in_statements c line (s ∷ later) = in_statement c line s ++ in_statements (course_after c s) line later

unfoldable pub course_through : Course → List Statement → Course
course_through c [] = c
course_through c (s ∷ later) = course_through (course_after c s) later

unfoldable pub in_lines : Course → List SourceLine → List Occurrence
in_lines c [] = []
in_lines c (l ∷ later) = in_statements c l.number l.statements ++ in_lines (course_through c l.statements) later

abbrev pub occurrences_in : List SourceLine → List Occurrence
occurrences_in lines = in_lines start lines

abbrev pub occurrences_of : List ℕ → List Occurrence
occurrences_of source = occurrences_in (unloaded_lines source)

-- ---- names that are looked up

abbrev pub is_same : Named → Named → Bool
is_same (Symbol name) (Symbol full) = bytes_eq name full
is_same (Local d n) (Local e m) = d == e && n == m
is_same one other = false

-- a name at a place, or right before it
abbrev pub reaches : ℕ → ℕ → Occurrence → Bool
reaches line place o = o.line == line && nat_le o.from place && nat_le (place - o.from) (length o.text)

abbrev pub occurrence_at : List Occurrence → ℕ → ℕ → Option Occurrence
occurrence_at names line place = find (reaches line place) names

abbrev pub defines : Named → Occurrence → Bool
defines named o = o.is_label && is_same named o.named

abbrev pub definition_of : List Occurrence → Named → Option Occurrence
definition_of names named = find (defines named) names
