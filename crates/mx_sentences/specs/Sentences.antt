-- What is said of a fault: what is wrong, with the marked text, which name is meant perhaps, and how to fix it. A rule of this program.
use Rattle.std.specs.Prelude.{ℕ, ◌-◌, ◌==◌, ◌||◌, Bool, if◌then◌else◌, List, [], ◌∷◌, ◌++◌, length, Option, None, Some, codes, decimal}
use Rattle.mx_line.specs.Lines.{lines_of}
use Rattle.mx_ops.specs.declared.op.Op.{Op}
use Rattle.mx_ops.specs.declared.op.Op.TheVariants.{Pseudo as PseudoOp, Code, Lda, Set}
use Rattle.mx_ops.specs.declared.op.Shape.{Shape}
use Rattle.mx_ops.specs.declared.op.Shape.TheVariants.{Three, Regs, Round, Neg, Rel, Mem, MemPure, Wyde as WydeShape, Jump, Put, Get, Pop, One, Save, Unsave, Free}
use Rattle.mx_ops.specs.Opcodes.{operation_of}
use Rattle.mx_ops.specs.Shapes.{shapes_of}
use Rattle.mx_asm.specs.Faults.{fault_number}
use Rattle.mx_asm.specs.Whole.{Line}
use Rattle.mx_asm.specs.declared.faults.AsmFault.{AsmFault}
use Rattle.mx_marks.specs.declared.labels.Likeness.TheVariants.{Alike}
use Rattle.mx_marks.specs.declared.marks.Mark.{Mark}
use Rattle.mx_sentences.specs.declared.choices.Unknown.{Unknown}
use Rattle.mx_sentences.specs.declared.choices.Unknown.TheVariants.{Misspelled}
use Rattle.mx_sentences.specs.declared.sentences.Remark.{Remark}
use Rattle.mx_marks.specs.Labels.{first_label, first_word, known_names, label_number, operation_names}
use Rattle.mx_marks.specs.Marks.{marked_text, operation_at}
use Rattle.mx_sentences.specs.Places.{mark_of, statement_place}
use Rattle.mx_sentences.specs.Additions.{base_text, begins_letter, instead_text, main_text, reach_text, set_text}
use Rattle.mx_sentences.specs.Choices.{is_defined, row_with, unknown_kind, whole_row}
use Rattle.mx_advice.specs.Rows.{Row}

-- ---- what is wrong

abbrev pub quoted : Line → Line
quoted text = codes "`" ++ text ++ codes "`"

-- The noun takes the place of a text that is not known.
abbrev pub subject_of : Row → Line → Line
subject_of row [] = row.noun
subject_of row (b ∷ bs) = quoted (b ∷ bs)

abbrev pub what_text : Row → Line → Line
what_text row marked = if length row.after == 0 then row.noun else row.before ++ subject_of row marked ++ row.after

-- ---- how to fix it

-- which operands an operation takes
abbrev pub shape_text : Shape → Line
shape_text Three = codes "$X,$Y,$Z or $X,$Y,n"
shape_text Regs = codes "$X,$Y,$Z"
shape_text Round = codes "$X,$Z or $X,n,$Z"
shape_text Neg = codes "$X,$Z or $X,n or $X,n,$Z or $X,n,n"
shape_text Rel = codes "$X,label"
shape_text Mem = codes "$X,$Y,$Z or $X,$Y,n or $X,$Y or $X,label"
shape_text MemPure = codes "n,$Y,$Z or n,$Y,n or n,$Y or n,label"
shape_text WydeShape = codes "$X,n"
shape_text Jump = codes "a label"
shape_text Put = codes "r,$Z or r,n for a special register r as rJ"
shape_text Get = codes "$X,r for a special register r as rJ"
shape_text Pop = codes "n,n or n"
shape_text One = codes "n"
shape_text Save = codes "$X,0"
shape_text Unsave = codes "$Z"
shape_text Free = codes "n or n,n or n,n,n"

abbrev pub first_text : List Shape → Line
first_text [] = []
first_text (s ∷ shapes) = shape_text s

abbrev pub operands_text : Option Op → Line
operands_text (Some (Code code)) = first_text (shapes_of code)
operands_text (Some Lda) = shape_text Mem
operands_text (Some Set) = codes "$X,$Y or $X,n"
operands_text (Some (PseudoOp p)) = []
operands_text None = []

abbrev pub takes_text : Line → Line → Line
takes_text operation [] = []
takes_text operation (b ∷ bs) = codes " " ++ operation ++ codes " takes " ++ (b ∷ bs) ++ codes "."

-- 40 is Operands, 41 NotRegister and 42 NotPure
abbrev pub is_of_shape : ℕ → Bool
is_of_shape fault = fault == 40 || fault == 41 || fault == 42

-- what loads the address that a label of data has, and what is there
unfoldable pub into_text : Line → Line
into_text name = codes "LDA $1," ++ name ++ codes " puts it into a register"

unfoldable pub from_text : Line → Line
from_text name = codes ", and LDO $1," ++ name ++ codes " loads the octa there."

abbrev pub load_text : Line → Line
load_text name = into_text name ++ from_text name

-- the line of a label that is defined already, if it is found
abbrev pub defined_text : ℕ → Line
defined_text number = if number == 0 then [] else codes " It is the label of line " ++ decimal number ++ codes "."

-- what takes a value that does not fit: a label of data, or a number of SET
abbrev pub fit_text : Line → Line → ℕ → Line
fit_text marked line place = if begins_letter marked then load_text marked else set_text marked line place

-- 30 is Twice, 43 Fit, 44 NoBase, 45 TooFar and 85 FutureTooFar
abbrev pub more_at : ℕ → ℕ → List ℕ → Line → Line → ℕ → Line
more_at fault number source marked line place =
    if is_of_shape fault then
    takes_text (operation_at line place) (operands_text (operation_of (operation_at line place))) ++ instead_text fault line place
    else if fault == 43 then fit_text marked line place
    else if fault == 44 then base_text line place
    else if fault == 45 || fault == 85 then reach_text fault line place
    else if fault == 30 then defined_text (label_number marked (number - 1) 1 (lines_of source))
    else []

-- what is added where the statement is known
abbrev pub more_help : ℕ → ℕ → List ℕ → Line → Line → Option ℕ → Line
more_help fault number source marked line None = []
more_help fault number source marked line (Some place) = more_at fault number source marked line place

-- ---- which name is meant perhaps

abbrev pub label_or_name : Line → Line → Line
label_or_name name [] = first_word (length known_names) name known_names
label_or_name name (b ∷ bs) = b ∷ bs

-- a label of the source that is like a name, or else a name that MMIXAL defines
abbrev pub meant_name : List ℕ → Line → Line
meant_name source name = label_or_name name (first_label Alike name 4294967295 (lines_of source))

abbrev pub meant_operation : Line → Line
meant_operation name = first_word (length operation_names) name operation_names

-- Only a misspelling may mean another operation.
abbrev pub meant_of : Unknown → Line → Line
meant_of Misspelled marked = meant_operation marked
meant_of kind marked = []

abbrev pub meant_unknown : Line → Line → Option ℕ → Line
meant_unknown marked line None = []
meant_unknown marked line (Some place) = meant_of (unknown_kind marked line place) marked

-- 17 is Future, 39 UnknownOpcode and 80 UndefinedSymbol
abbrev pub meant_by : ℕ → List ℕ → Line → Line → Option ℕ → Line
meant_by fault source marked line place =
    if fault == 39 then meant_unknown marked line place
    else if fault == 80 then meant_name source marked
    else if fault == 17 then (if is_defined source marked then [] else meant_name source marked)
    else []

-- ---- the whole

abbrev pub part_text : Line → Option Mark → Line
part_text line None = []
part_text line (Some m) = if m.is_part then marked_text line m else []

abbrev pub remark : Option Mark → Line → Line → Line → Remark
remark mark what meant help = record { mark = mark; what = what; meant = meant; help = help }

abbrev pub with_part : ℕ → ℕ → List ℕ → Line → Option ℕ → Option Mark → Line → Remark
with_part fault number source line place mark marked =
    remark mark (what_text (row_with fault source marked line place) marked) (meant_by fault source marked line place)
    ((row_with fault source marked line place).help ++ more_help fault number source marked line place)

abbrev pub with_mark : AsmFault → ℕ → List ℕ → Line → Option Mark → Remark
with_mark why number source line mark =
    with_part (fault_number why) number source line (statement_place why line) mark (part_text line mark)

-- what is said of a fault in this line of a source, which has this number
abbrev pub remark_of : AsmFault → ℕ → List ℕ → Line → Remark
remark_of why number source line = with_mark why number source line (mark_of why number source line)

-- what is said of a fault of the source as a whole
abbrev pub remark_of_whole : ℕ → List ℕ → Remark
remark_of_whole fault source = remark None (what_text (whole_row fault source) []) [] ((whole_row fault source).help ++ main_text fault source)
