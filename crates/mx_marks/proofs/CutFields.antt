-- A caret is where the field begins that is cut from the line.
use Rattle.std.proofs.Common.{◌≡◌, ℕ, ◌+◌, ◌-◌, ◌≤◌, [], ◌∷◌, length, drop, Bool, true, false, cond, arith, refl, sym, subst, Option, None, Some, Result, Ok, Err}
use Rattle.std.proofs.lemmas.Bool.Decides.{nat_tests}
use Rattle.std.proofs.lemmas.List.{length-drop}
use Rattle.mx_line.specs.Bytes.{is_blank, is_name_byte, past, run}
use Rattle.mx_line.specs.Cutting.{ends_label, is_bad_local, is_too_long, labelled_at, opcode_at, operands_at, operation_at, statement_at, with_field}
unfoldable use Rattle.mx_line.specs.Cutting.{statement_of}
use Rattle.mx_line.specs.Fields.{ends_here}
use Rattle.mx_line.specs.Fields.{field_length}
use Rattle.mx_line.specs.declared.cutter.Cut.{Cut}
use Rattle.mx_line.specs.declared.faults.LineFault.{LineFault}
use Rattle.mx_line.specs.declared.faults.LineFault.TheVariants.{BadLabel, BadLocal, BadOpcode, TooLong}
use Rattle.mx_line.specs.declared.spans.Span.{Span}
use Rattle.mx_line.proofs.KindLemmas.{run-whole}
use Rattle.mx_marks.specs.Fields.{Line, after_word, from_field}
use Rattle.mx_marks.specs.declared.fields.Field.TheVariants.{Operands, Operation}

abbrev Found : Type 0
Found = Result (Option Cut) LineFault

-- where the operation and the operands are, by what is after them
record PlacedFields (end : ℕ) (from : Line) (cut : Cut) : Type 0 where
  operation : cut.op.from + length from ≡ end
  operands : cut.operands.from + length (after_word from) ≡ end

in-field : (label : Option Span) (op : Span) (place : ℕ) (text : Line) (r : Result ℕ LineFault) (cut : Cut) → with_field label op place text r ≡ Ok (Some cut) → (cut.op.from ≡ op.from) × (cut.operands.from ≡ place)
in-field label op place text (Err why) cut e = absurd (cc)
in-field label op place text (Ok count) cut e = grind (arith, nat_tests)

record Fields (op operands : ℕ) (cut : Cut) : Type 0 where
  op_from : cut.op.from ≡ op
  operands_from : cut.operands.from ≡ operands

in-word : (label : Option Span) (place : ℕ) (word rest : Line) (cut : Cut) → opcode_at label place word rest ≡ Ok (Some cut) → Fields place (place + length word + length (run is_blank rest)) cut
in-word None place [] rest cut e = absurd (cc)
in-word (Some label) place [] rest cut e = absurd (cc)
in-word label place (b ∷ bs) rest cut e = by (ends_here rest) e
  where
    by : (t : Bool) → cond t (operands_at label (record { from = place; to = place + length (b ∷ bs) }) (place + length (b ∷ bs)) rest) (Err BadOpcode) ≡ Ok (Some cut) → Fields place (place + length (b ∷ bs) + length (run is_blank rest)) cut
    by true e = let is = in-field label (record { from = place; to = place + length (b ∷ bs) }) (place + length (b ∷ bs) + length (run is_blank rest)) (past is_blank rest) (field_length (past is_blank rest)) cut e in record { op_from = is.0; operands_from = is.1 }
    by false e = absurd (cc)

in-operation : (label : Option Span) (place : ℕ) (text : Line) (cut : Cut) → operation_at label place text ≡ Ok (Some cut) → PlacedFields (place + length text) (past is_blank text) cut
in-operation label place text cut e =
    let from : Line = past is_blank text in
    let is = in-word label (place + length (run is_blank text)) (run is_name_byte from) (past is_name_byte from) cut e in
    let first = run-whole is_blank text in
    let word = run-whole is_name_byte from in
    let gap = run-whole is_blank (past is_name_byte from) in
    record {
      operation = omega (arith, is.op_from, first);
      operands = omega (arith, is.operands_from, first, word, gap);
    }

no-word : (b : ℕ) (bs : Line) → is_name_byte b ≡ false → past is_name_byte (b ∷ bs) ≡ b ∷ bs
no-word b bs e = grind (arith, nat_tests)

in-statement : (place : ℕ) (text : Line) (cut : Cut) → statement_at place text ≡ Ok (Some cut) → PlacedFields (place + length text) (after_word text) cut
in-statement place [] cut e = absurd (cc)
in-statement place (b ∷ bs) cut e = by (is_name_byte b) (is_blank b) refl e
  where
    text : Line
    text = b ∷ bs

    word : Line
    word = run is_name_byte text

    rest : Line
    rest = past is_name_byte text

    labelled : (bad ends : Bool) → cond bad (Err BadLocal) (cond ends (operation_at (Some (record { from = place; to = place + length word })) (place + length word) rest) (Err BadLabel)) ≡ Ok (Some cut) → PlacedFields (place + length text) (after_word text) cut
    labelled true ends e = absurd (cc)
    labelled false false e = absurd (cc)
    labelled false true e =
        let is = in-operation (Some (record { from = place; to = place + length word })) (place + length word) rest cut e in
        let whole = run-whole is_name_byte text in
        record { operation = omega (arith, is.operation, whole); operands = omega (arith, is.operands, whole) }

    by : (t u : Bool) → is_name_byte b ≡ t → cond t (labelled_at place word rest) (cond u (operation_at None place text) (Ok None)) ≡ Ok (Some cut) → PlacedFields (place + length text) (after_word text) cut
    by true u t e = labelled (is_bad_local word) (ends_label rest) e
    by false true t e = subst (λ x. PlacedFields (place + length text) (past is_blank x) cut) (sym (no-word b bs t)) (in-operation None place text cut e)
    by false false t e = absurd (cc)

cut-placed : (line : Line) (place : ℕ) (cut : Cut) → place ≤ length line → statement_of line place ≡ Ok (Some cut) → PlacedFields (length line) (after_word (drop place line)) cut
unfolding statement_of
cut-placed line place cut within e = by (is_too_long line place) e
  where
    by : (t : Bool) → cond t (Err TooLong) (statement_at place (drop place line)) ≡ Ok (Some cut) → PlacedFields (length line) (after_word (drop place line)) cut
    by true e = absurd (cc)
    by false e =
        let is = in-statement place (drop place line) cut e in
        let rest = length-drop place line in
        record { operation = omega (arith, is.operation, rest, within); operands = omega (arith, is.operands, rest, within) }

pub operation-marked : (line : Line) (place : ℕ) (cut : Cut) → place ≤ length line → statement_of line place ≡ Ok (Some cut) → length line - length (from_field Operation (drop place line)) ≡ cut.op.from
operation-marked line place cut within e = let is = cut-placed line place cut within e in omega (arith, is.operation)

pub operands-marked : (line : Line) (place : ℕ) (cut : Cut) → place ≤ length line → statement_of line place ≡ Ok (Some cut) → length line - length (from_field Operands (drop place line)) ≡ cut.operands.from
operands-marked line place cut within e = let is = cut-placed line place cut within e in omega (arith, is.operands)

pub ruleset marked = (operation-marked, operands-marked)
