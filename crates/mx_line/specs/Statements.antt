-- The statements of a line, rule by rule: a relation between a line, a place in it and what is there. A text here
-- is what is in the line from a place on.
-- (MMIXware, the part on MMIXAL: the form of a line; TAOCP 1, Fascicle 1, section 1.3.2'. The bound of 4,096 bytes and
-- the order of faults: a rule of this program.)
use Rattle.std.specs.Prelude.{◌≡◌, ℕ, ◌+◌, ◌<◌, ◌≤◌, List, [], ◌∷◌, ◌++◌, length, drop, Bool, true, false, not, ◌==◌, ◌||◌, Option, None, Some, Result, Ok, Err}
use Rattle.std.specs.List.{list_all}
use Rattle.mx_line.specs.declared.spans.Span.{Span}
use Rattle.mx_line.specs.declared.faults.LineFault.{LineFault}
use Rattle.mx_line.specs.declared.faults.LineFault.TheVariants.{TooLong, BadLabel, BadLocal, BadOpcode, OpenString, OpenChar, NoOpcode}
use Rattle.mx_line.specs.declared.cutter.Cut.{Cut}
use Rattle.mx_line.specs.Bytes.{is_blank, is_name_byte}
use Rattle.mx_line.specs.Fields.{ends_field, ends_here}
use Rattle.mx_line.specs.Spans.{span}
use Rattle.mx_line.specs.Cutting.{is_bad_local, ends_label}

-- what is at a place: a statement, nothing more, or a fault
abbrev pub Found : Type 0
Found = Result (Option Cut) LineFault

abbrev pub begins : (ℕ → Bool) → List ℕ → Bool
begins kind [] = false
begins kind (b ∷ bs) = kind b

-- The text is a run of bytes of one kind, as long as can be, and a rest.
pub record Run (kind : ℕ → Bool) (text front rest : List ℕ) : Type 0 where
  pub spelled : text ≡ front ++ rest
  pub all : list_all kind front ≡ true
  pub ends : begins kind rest ≡ false

-- An operand field: strings, character constants, and other bytes than blanks and `;`.
abbrev pub is_no_quote : ℕ → Bool
is_no_quote b = not (b == 34)

abbrev pub is_other : ℕ → Bool
is_other b = not (b == 34 || b == 39 || ends_field b)

pub data IsField : List ℕ → Type 0 where
  empty : IsField []
  string_first : (inner rest : List ℕ) → list_all is_no_quote inner ≡ true → IsField rest → IsField (34 ∷ (inner ++ 34 ∷ rest))
  constant_first : (b : ℕ) (rest : List ℕ) → IsField rest → IsField (39 ∷ b ∷ 39 ∷ rest)
  byte_first : (b : ℕ) (rest : List ℕ) → is_other b ≡ true → IsField rest → IsField (b ∷ rest)

-- whether what follows an apostrophe is one byte and an apostrophe
abbrev pub closes : List ℕ → Bool
closes [] = false
closes (b ∷ []) = false
closes (b ∷ c ∷ bs) = c == 39

-- The next statement begins right after a `;`, if that is the first byte that is not blank after
-- the operand field. Anything else is a comment to the end of the line.
pub data Next (place : ℕ) (text : List ℕ) : ℕ → Type 0 where
  another : (gap rest : List ℕ) → Run is_blank text gap (59 ∷ rest) → Next place text (place + length gap + 1)
  nothing_more : (gap rest : List ℕ) → Run is_blank text gap rest → begins (λ b. b == 59) rest ≡ false → Next place text (place + length text)

-- What follows the opcode: the operand field, or a string or character constant that is not closed.
pub data Operands (label : Option Span) (op : Span) (place : ℕ) (text : List ℕ) : Found → Type 0 where
  field : (gap rest operands after : List ℕ) (next : ℕ) → Run is_blank text gap rest → rest ≡ operands ++ after → IsField operands → ends_here after ≡ true →
      Next (place + length gap + length operands) after next →
      Operands label op place text (Ok (Some (record { label = label; op = op; operands = span (place + length gap) operands; next = next })))
  open_string : (gap rest front inner : List ℕ) → Run is_blank text gap rest → rest ≡ front ++ 34 ∷ inner → IsField front → list_all is_no_quote inner ≡ true →
      Operands label op place text (Err OpenString)
  open_char : (gap rest front after : List ℕ) → Run is_blank text gap rest → rest ≡ front ++ 39 ∷ after → IsField front → closes after ≡ false →
      Operands label op place text (Err OpenChar)

-- The opcode is a run of letters and digits, and ends at a blank, at `;` or at the end of the
-- line. Without one, the rest of the line is a comment, but a label needs an opcode.
pub data Operation (label : Option Span) (place : ℕ) (text : List ℕ) : Found → Type 0 where
  named : (gap rest op after : List ℕ) (found : Found) → Run is_blank text gap rest → Run is_name_byte rest op after → 0 < length op → ends_here after ≡ true →
      Operands label (span (place + length gap) op) (place + length gap + length op) after found → Operation label place text found
  bad_opcode : (gap rest op after : List ℕ) → Run is_blank text gap rest → Run is_name_byte rest op after → 0 < length op → ends_here after ≡ false →
      Operation label place text (Err BadOpcode)
  only_blanks : (gap rest : List ℕ) → Run is_blank text gap rest → begins is_name_byte rest ≡ false → label ≡ None → Operation label place text (Ok None)
  only_label : (gap rest : List ℕ) (before : Span) → Run is_blank text gap rest → begins is_name_byte rest ≡ false → label ≡ Some before → Operation label place text (Err NoOpcode)

-- A statement begins with a blank, or with a label, a run of letters and digits that is followed
-- by a blank or the end of the line. Anything else is a comment.
pub data Statement (place : ℕ) (text : List ℕ) : Found → Type 0 where
  comment : begins is_name_byte text ≡ false → begins is_blank text ≡ false → Statement place text (Ok None)
  unlabelled : (found : Found) → begins is_name_byte text ≡ false → begins is_blank text ≡ true → Operation None place text found → Statement place text found
  labelled : (label rest : List ℕ) (found : Found) → Run is_name_byte text label rest → 0 < length label → is_bad_local label ≡ false → ends_label rest ≡ true →
      Operation (Some (span place label)) (place + length label) rest found → Statement place text found
  bad_local : (label rest : List ℕ) → Run is_name_byte text label rest → 0 < length label → is_bad_local label ≡ true → Statement place text (Err BadLocal)
  bad_label : (label rest : List ℕ) → Run is_name_byte text label rest → 0 < length label → is_bad_local label ≡ false → ends_label rest ≡ false → Statement place text (Err BadLabel)

-- A line of more than 4,096 bytes has that fault in place of its statements.
pub data StatementOf (line : List ℕ) (place : ℕ) : Found → Type 0 where
  too_long : place ≡ 0 → 4096 < length line → StatementOf line place (Err TooLong)
  later : (found : Found) → 0 < place → Statement place (drop place line) found → StatementOf line place found
  first : (found : Found) → place ≡ 0 → length line ≤ 4096 → Statement place line found → StatementOf line place found

-- the statements of a line from a place on; a fault ends the list
pub data Statements (line : List ℕ) : ℕ → List (Result Cut LineFault) → Type 0 where
  none : (place : ℕ) → StatementOf line place (Ok None) → Statements line place []
  fault : (place : ℕ) (why : LineFault) → StatementOf line place (Err why) → Statements line place (Err why ∷ [])
  next : (place : ℕ) (cut : Cut) (cuts : List (Result Cut LineFault)) → StatementOf line place (Ok (Some cut)) → Statements line cut.next cuts → Statements line place (Ok cut ∷ cuts)
