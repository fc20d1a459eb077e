-- A statement that is read is the one that is listed.
use Rattle.std.proofs.Common.{◌≡◌, ℕ, List, Option, Result, Ok, Err, refl, ap, sym, ◌∙◌, ◌⊎◌, ◌↔◌, is_some, option_map, rules}
use Rattle.mx_asm.proofs.Words.{Span, Cut, part, item_of, ExprFault, Tree, reading, reading-ok, reading-err, list-read, fault-read, Op, StatementTree, Answer, Fields, IsRead, IsFault, label_of, label_in, fields_of, operation_for, Stmt, refused, with_operands, with_operation, statement_in, entry_with, entry_of}
use Rattle.mx_stmt.specs.declared.faults.StmtFault.{StmtFault}
use Rattle.mx_stmt.specs.Reading.IsFault.{operation, operand_list}
use Rattle.mx_stmt.proofs.FieldsRead.{same-parsed as same-statement}

pub read-is : (fields : Fields) (line : ℕ) (s : StatementTree) → IsRead fields line s → statement_in fields line ≡ Ok s
read-is fields line s h = search (rules, list-read, same-statement)

pub faulty-is : (fields : Fields) (line : ℕ) (fault : StmtFault) → IsFault fields fault → statement_in fields line ≡ Err fault
faulty-is fields line fault (operation fault' is) = ap (with_operation fields line) is
faulty-is fields line fault (operand_list op first is least) =
    ap (with_operation fields line) is ∙ ap (with_operands fields line op) ((fault-read fields.operands first).1 least)

-- what fields say: a statement, or the first fault
abbrev pub Says : Fields → ℕ → Answer StatementTree → Type 0
Says fields line (Ok s) = IsRead fields line s
Says fields line (Err fault) = IsFault fields fault

operands-say : (fields : Fields) (line : ℕ) (op : Op) (r : Result (List Tree) ExprFault) → operation_for (is_some fields.label) fields.op ≡ Ok op → reading fields.operands ≡ r →
    Says fields line (with_operands fields line op r)
operands-say fields line op (Ok list) is e =
    let h = reading-ok fields.operands list e in record { line_is = refl; label_is = refl; op_is = is; spelled = h.0; faultless = h.1 }
operands-say fields line op (Err fault) is e = operand_list op fault is (reading-err fields.operands fault e)

operation-says : (fields : Fields) (line : ℕ) (a : Answer Op) → operation_for (is_some fields.label) fields.op ≡ a → Says fields line (with_operation fields line a)
operation-says fields line (Ok op) is = operands-say fields line op (reading fields.operands) is refl
operation-says fields line (Err fault) is = operation fault is

pub said : (fields : Fields) (line : ℕ) → Says fields line (statement_in fields line)
said fields line = operation-says fields line (operation_for (is_some fields.label) fields.op) refl

-- the fields of a cut
label-is : (text : List ℕ) (span : Option Span) → option_map label_of (option_map (part text) span) ≡ label_in text span
label-is text span = search rules

entry-fields : (line : ℕ) (text : List ℕ) (cut : Cut) → entry_of (item_of line text (Ok cut)) ≡ entry_with line (statement_in (fields_of text cut) line)
entry-fields line text cut = ap (λ label. entry_with line (statement_in (record { label = label; op = part text cut.op; operands = part text cut.operands }) line)) (label-is text cut.label)

pub entry-read : (line : ℕ) (text : List ℕ) (cut : Cut) (s : StatementTree) → IsRead (fields_of text cut) line s → Ok s ≡ entry_of (item_of line text (Ok cut))
entry-read line text cut s h = sym (entry-fields line text cut ∙ ap (entry_with line) (read-is (fields_of text cut) line s h))

pub entry-faulty : (line : ℕ) (text : List ℕ) (cut : Cut) (fault : StmtFault) → IsFault (fields_of text cut) fault → Err (refused line (Stmt fault)) ≡ entry_of (item_of line text (Ok cut))
entry-faulty line text cut fault h = sym (entry-fields line text cut ∙ ap (entry_with line) (faulty-is (fields_of text cut) line fault h))

-- ... and the other way
read-back : (fields : Fields) (line : ℕ) (s : StatementTree) (a : Answer StatementTree) → Says fields line a → entry_with line a ≡ Ok s → IsRead fields line s
read-back fields line s a h e = search rules

faulty-back : (fields : Fields) (line : ℕ) (fault : StmtFault) (a : Answer StatementTree) → Says fields line a → entry_with line a ≡ Err (refused line (Stmt fault)) → IsFault fields fault
faulty-back fields line fault a h e = search rules

pub statement-listed : (line : ℕ) (text : List ℕ) (cut : Cut) (s : StatementTree) → (entry_of (item_of line text (Ok cut)) ≡ Ok s) ↔ IsRead (fields_of text cut) line s
statement-listed line text cut s = (
  λ e. read-back (fields_of text cut) line s _ (said (fields_of text cut) line) (sym (entry-fields line text cut) ∙ e),
  λ h. sym (entry-read line text cut s h),
)

pub fault-listed : (line : ℕ) (text : List ℕ) (cut : Cut) (fault : StmtFault) → (entry_of (item_of line text (Ok cut)) ≡ Err (refused line (Stmt fault))) ↔ IsFault (fields_of text cut) fault
fault-listed line text cut fault = (
  λ e. faulty-back (fields_of text cut) line fault _ (said (fields_of text cut) line) (sym (entry-fields line text cut) ∙ e),
  λ h. sym (entry-faulty line text cut fault h),
)

one-of : (fields : Fields) (line : ℕ) (a : Answer StatementTree) → Says fields line a → ((s : StatementTree) × IsRead fields line s) ⊎ ((fault : StmtFault) × IsFault fields fault)
one-of fields line a h = search rules

pub read-or-faulty : (fields : Fields) (line : ℕ) → ((s : StatementTree) × IsRead fields line s) ⊎ ((fault : StmtFault) × IsFault fields fault)
read-or-faulty fields line = one-of fields line (statement_in fields line) (said fields line)

pub ruleset reads = (entry-read, entry-faulty)
