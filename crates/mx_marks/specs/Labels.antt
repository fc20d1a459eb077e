-- The labels of a source, and words that are like a name. A rule of this program.
use Rattle.std.specs.Prelude.{ℕ, zero, suc, ◌+◌, ◌-◌, ◌==◌, ◌&&◌, ◌||◌, nat_le, Bool, true, false, if◌then◌else◌, Option, Some, List, [], ◌∷◌, length, drop, codes}
use Rattle.std.specs.Str.{bytes_eq, str_eq_ignore_ascii_case}
use Rattle.mx_word.specs.Kinds.{is_digit, is_letter}
use Rattle.mx_line.specs.Lines.{lines_of}
use Rattle.mx_ops.specs.declared.op.Op.{Op}
use Rattle.mx_ops.specs.declared.op.Op.TheVariants.{Pseudo as PseudoOp, Code, Lda, Set}
use Rattle.mx_ops.specs.declared.op.Pseudo.{Pseudo}
use Rattle.mx_ops.specs.declared.op.Pseudo.TheVariants as pseudo
use Rattle.mx_ops.specs.Opcodes.{operation_of}
use Rattle.mx_marks.specs.Fields.{Line, after_word, word}
use Rattle.mx_marks.specs.declared.labels.Likeness.{Likeness}
use Rattle.mx_marks.specs.declared.labels.Likeness.TheVariants.{Same, Alike}

-- ---- names that are like each other

-- whether the first two letters of a text are those of another, exchanged
abbrev pub are_exchanged : List ℕ → List ℕ → Bool
are_exchanged (p ∷ q ∷ ps) (r ∷ s ∷ rs) = p == s && q == r
are_exchanged a b = false

-- two texts that are the same but for their first letters, but for one letter more in front of one of them, or but for an exchange of the
-- first two letters
abbrev pub is_slip : List ℕ → List ℕ → Bool
is_slip a b =
    bytes_eq (drop 1 a) (drop 1 b) || bytes_eq (drop 1 a) b || bytes_eq a (drop 1 b) || (are_exchanged a b && bytes_eq (drop 2 a) (drop 2 b))

-- two texts of which one is one letter and the other ends, or that are the same but for a digit in place of a letter
abbrev pub is_digit_slip : ℕ → ℕ → Bool
is_digit_slip x y = (is_digit x && is_letter y) || (is_letter x && is_digit y)

abbrev pub is_short_slip : List ℕ → List ℕ → Bool
is_short_slip [] ys = length ys == 1
is_short_slip (x ∷ xs) [] = length xs == 0
is_short_slip (x ∷ xs) (y ∷ ys) = is_digit_slip x y && bytes_eq xs ys

-- any slip in a long word, and in a short one only such a one
abbrev pub is_slip_in : Bool → List ℕ → List ℕ → Bool
is_slip_in true a b = is_slip a b
is_slip_in false a b = is_short_slip a b

-- whether two texts begin with one byte
abbrev pub begin_alike : List ℕ → List ℕ → Bool
begin_alike [] ys = false
begin_alike (x ∷ xs) [] = false
begin_alike (x ∷ xs) (y ∷ ys) = x == y

-- Two words with one slip. Long ones differ in one letter, one of them has one letter more, or two letters are exchanged. Of short ones
-- the one has one letter more at its end, or a digit in place of a letter.
unfoldable pub is_near : Bool → List ℕ → List ℕ → Bool
is_near is_long [] ys = is_slip_in is_long [] ys
is_near is_long (x ∷ xs) [] = is_slip_in is_long (x ∷ xs) []
is_near is_long (x ∷ xs) (y ∷ ys) = if x == y then is_near is_long xs ys else is_slip_in is_long (x ∷ xs) (y ∷ ys)

-- Words are alike that differ in capitals alone; where the one has three letters or more, those that are near each other, too. Words
-- are short where neither has four letters.
abbrev pub is_alike : List ℕ → List ℕ → Bool
is_alike name other = str_eq_ignore_ascii_case name other || (nat_le 3 (length name) && is_near (nat_le 4 (length name) || nat_le 4 (length other)) name other)

abbrev pub is_like : Likeness → List ℕ → List ℕ → Bool
is_like Same name other = bytes_eq name other
is_like Alike name other = is_alike name other

-- ---- where they are looked for

-- the first of this many lines whose label is like a name; no text where none is
unfoldable pub first_line : Likeness → List ℕ → ℕ → List Line → Line
first_line kind name most [] = []
first_line kind name most (line ∷ lines) =
    if most == 0 then [] else if is_like kind name (word line) then line else first_line kind name (most - 1) lines

-- its label
abbrev pub first_label : Likeness → List ℕ → ℕ → List Line → List ℕ
first_label kind name most lines = word (first_line kind name most lines)

abbrev pub is_label : List ℕ → ℕ → List Line → Bool
is_label name most lines = nat_le 1 (length (first_label Same name most lines))

-- the number of the first of this many lines that has a label, where the lines are counted from this number on; 0 where none has it
unfoldable pub label_number : List ℕ → ℕ → ℕ → List Line → ℕ
label_number name most number [] = 0
label_number name most number (line ∷ lines) =
    if most == 0 then 0 else if bytes_eq name (word line) then number else label_number name (most - 1) (number + 1) lines

-- ---- what a label is in front of

-- the operation in the line of a label
abbrev pub label_operation : List ℕ → List ℕ → Option Op
label_operation name source = operation_of (word (after_word (first_line Same name 4294967295 (lines_of source))))

abbrev pub is_data_pseudo : Pseudo → Bool
is_data_pseudo pseudo.Byte = true
is_data_pseudo pseudo.Wyde = true
is_data_pseudo pseudo.Tetra = true
is_data_pseudo pseudo.Octa = true
is_data_pseudo other = false

abbrev pub is_data : Option Op → Bool
is_data (Some (PseudoOp p)) = is_data_pseudo p
is_data op = false

abbrev pub is_code : Option Op → Bool
is_code (Some (Code code)) = true
is_code (Some Lda) = true
is_code (Some Set) = true
is_code op = false

-- whether a name is a label of data, or of an instruction
abbrev pub labels_data : List ℕ → List ℕ → Bool
labels_data name source = is_data (label_operation name source)

abbrev pub labels_code : List ℕ → List ℕ → Bool
labels_code name source = is_code (label_operation name source)

-- ---- words that are looked through

-- the first of this many words of a text that is like a name; no text where none is
unfoldable pub first_word : ℕ → List ℕ → List ℕ → List ℕ
first_word zero name text = []
first_word (suc n) name text = if is_alike name (word text) then word text else first_word n name (after_word text)

-- names that MMIXAL defines and that programs write
unfoldable pub known_names : List ℕ
known_names = codes "Data_Segment Pool_Segment Halt Fopen Fclose Fread Fgets Fwrite Fputs Fseek Ftell StdIn StdOut StdErr TextRead TextWrite BinaryRead BinaryWrite rA rB rC rD rE rF rG rH rI rJ rK rL rM rN rO rP rQ rR rS rT rU rV rW rX rY rZ rBB rTT rWW rXX rYY rZZ"

-- the operations, those that are written most in front
unfoldable pub operation_names : List ℕ
operation_names = codes "ADD SUB SET LDO STO JMP BYTE TRAP LOC GREG CMP BZ BNZ BP BN BNP BNN PBZ PBNZ PBP PBN PBNP PBNN GETA PUSHJ POP MUL DIV NEG LDB STB LDA IS WYDE TETRA OCTA AND OR XOR ANDN ORN NOR NAND NXOR SL SLU SR SRU ADDU SUBU MULU DIVU CMPU NEGU LDBU LDW LDWU LDT LDTU LDOU STBU STW STWU STT STTU STOU 2ADDU 4ADDU 8ADDU 16ADDU SETL SETML SETMH SETH INCL INCML INCMH INCH ORL ORML ORMH ORH ANDNL ANDNML ANDNMH ANDNH CSZ CSNZ CSP CSN CSNP CSNN CSOD CSEV ZSZ ZSNZ ZSP ZSN ZSNP ZSNN ZSOD ZSEV BOD BEV PBOD PBEV GO PUSHGO GET PUT SAVE UNSAVE RESUME TRIP SWYM SYNC PREFIX LOCAL BDIF WDIF TDIF ODIF MUX SADD MOR MXOR LDHT STHT STCO LDUNC STUNC CSWAP PRELD PREST PREGO SYNCD SYNCID LDVTS"
