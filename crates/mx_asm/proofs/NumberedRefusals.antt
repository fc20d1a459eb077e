-- A refusal has a fault with a number above 0: by the definitions none is that memory runs out.
use Rattle.std.proofs.Common.{◌≡◌, ◌≢◌, ◌<◌, ℕ, ◌+◌, List, [], ◌∷◌, fold, Option, None, Some, Result, Ok, Err, refl, ap, sym, ◌∙◌, arith, IfErr, rules}
use Rattle.mx_line.specs.Source.{Item as Listed, items_of}
use Rattle.mx_asm.specs.Faults.{IsTold, fault_number, no_memory}
use Rattle.mx_asm.specs.OnePass.{status_after}
use Rattle.mx_line.specs.Lines.{lines_of}
use Rattle.mx_stmt.specs.Faults as statements
use Rattle.mx_stmt.specs.declared.faults.StmtFault.{StmtFault}
use Rattle.mx_stmt.proofs.NumberedFaults.{encoding-number}
use Rattle.mx_asm.proofs.ReadEntries.{Says, said}
use Rattle.mx_asm.proofs.InTurn.{source-refused}
use Rattle.mx_asm.proofs.EndLaw.{whole-is}
use Rattle.mx_asm.proofs.OnePassLaw.{refusal-is}
use Rattle.mx_asm.proofs.Words.{result_err, Value, Wait, Item, Naming, Label, Placed, Answer, StatementTree, encoding, no_targets, AsmFault, Refused, Head, statement_items, fixes, Entry, Fields, statement_in, entry_with, entry_of, entries_of, line_entries, Assembly, Status, Progress, Ended, Labelled, Taken, beginning, labelled, taken_label, taken_with, statement_taken, entry_taken, after_entry, and_entries, entries_taken, count_fault, counted, line_unless, line_following, end_following, refusal, Line, lines_refusal, line_after, lines_taken, one_pass, nat_tests}

-- a refusal has a number above 0
unfoldable HasNumber : {A : Type 0} → Result A Refused → Type 0
HasNumber (Ok x) = Unit {0}
HasNumber (Err r) = 0 < fault_number r.fault

err-has : (A : Type 0) (r : Refused) → 0 < fault_number r.fault → HasNumber {A = A} (Err r)
unfolding HasNumber
err-has A r h = h

ok-number : (a : Assembly) → HasNumber {A = Assembly} (Ok a)
unfolding HasNumber
ok-number a = tt

-- so does a fault
unfoldable FaultHasNumber : {A : Type 0} → Result A AsmFault → Type 0
FaultHasNumber (Ok x) = Unit {0}
FaultHasNumber (Err fault) = 0 < fault_number fault

-- ---- statements

said-number : (fields : Fields) (line : ℕ) (a : Answer StatementTree) → Says fields line a → HasNumber (entry_with line a)
unfolding HasNumber
said-number fields line a h = search rules

statement-number : (fields : Fields) (line : ℕ) → HasNumber (entry_with line (statement_in fields line))
statement-number fields line = said-number fields line (statement_in fields line) (said fields line)

entry-number : (item : Listed) → HasNumber (entry_of item)
unfolding HasNumber
entry-number item = grind (arith, nat_tests, statement-number)

fixes-number : (line : ℕ) (value : Value) (waits : List Wait) → HasNumber (fixes line value waits)
unfolding HasNumber fixes
fixes-number line value [] = tt
fixes-number line value (wait ∷ waits) = grind (arith, nat_tests, fixes-number line value waits)

items-number : (h : Head) (line : ℕ) (p : Placed) (waits : List Wait) → HasNumber (statement_items h line p waits)
unfolding HasNumber
items-number h line p waits = grind (arith, nat_tests, fixes-number)

label-number : (n : Naming) (label : Option Label) (value : Option Value) (waits : List Wait) → FaultHasNumber (labelled n label value waits)
unfolding FaultHasNumber
label-number n label value waits = grind (arith, nat_tests)

labelled-number : (a : Assembly) (line : ℕ) (p : Placed) (l : Labelled) → FaultHasNumber l → HasNumber (taken_label a line p l)
unfolding HasNumber FaultHasNumber
labelled-number a line p l h = grind (arith, items-number)

placed-number : (a : Assembly) (line : ℕ) (label : Option Label) (answer : Answer Placed) → ((fault : StmtFault) → answer ≡ Err fault → 0 < statements.fault_number fault) → HasNumber (taken_with a line label answer)
placed-number a line label answer h = grind (arith, err-has, labelled-number, label-number)

taken-number : (a : Assembly) (s : StatementTree) → HasNumber (statement_taken a s)
taken-number a s = placed-number a s.line s.label (encoding no_targets a.known s) (encoding-number no_targets a.known s)

-- ---- lines

after-number : (more : List Item → Assembly → Progress) → ((out : List Item) (a : Assembly) → HasNumber (more out a).1) → (out : List Item) (t : Taken) → HasNumber t → HasNumber (and_entries more (after_entry out t)).1
unfolding HasNumber
after-number more f out t h = search rules

one-number : (a : Assembly) (e : Entry) → HasNumber e → HasNumber (entry_taken a e)
unfolding HasNumber
one-number a e h = grind (arith, taken-number)

entries-number : (items : List Listed) (out : List Item) (a : Assembly) → HasNumber (entries_taken (entries_of items) out a).1
unfolding entries_taken
entries-number [] out a = ok-number a
entries-number (item ∷ items) out a = after-number (entries_taken (entries_of items)) (entries-number items) out (entry_taken a (entry_of item)) (one-number a (entry_of item) (entry-number item))

count-number : (a : Assembly) (text : List ℕ) (r : Refused) → count_fault a text ≡ Some r → 0 < fault_number r.fault
count-number a text r is = grind (arith, nat_tests)

unless-number : (f : Option Refused) (out : List Item) (a : Assembly) (text : List ℕ) → ((r : Refused) → f ≡ Some r → 0 < fault_number r.fault) → HasNumber (line_unless f out a text).1
unless-number (Some r) out a text h = err-has Assembly r (h r refl)
unless-number None out a text h = entries-number (items_of (a.lines + 1) text) out (counted a text)

following-number : (out : List Item) (s : Status) (text : List ℕ) → HasNumber s → HasNumber (line_following out s text).1
following-number out s text h = grind (arith, unless-number, count-number)

lines-number : (lines : List Line) (p : Progress) → HasNumber p.1 → HasNumber (fold line_after p lines).1
lines-number [] p h = h
lines-number (line ∷ lines) p h = lines-number lines (line_after p line) (following-number p.0 p.1 line h)

-- ---- the end

end-number : (out : List Item) (s : Status) → HasNumber s → HasNumber (end_following out s).1
unfolding HasNumber
end-number out s h = grind (arith, nat_tests)

-- ---- sources

err-number : {A : Type 0} (x : Result A Refused) (r : Refused) → HasNumber x → x ≡ Err r → 0 < fault_number r.fault
unfolding HasNumber
err-number x r h is = search rules

all-number : (lines : List Line) → HasNumber (lines_taken lines).1
all-number lines = lines-number lines ([], Ok beginning) (ok-number beginning)

of-refusal : (s : Status) (r : Refused) → result_err s ≡ Some r → s ≡ Err r
of-refusal s r is = grind arith

pub lines-refused : (lines : List Line) (r : Refused) → lines_refusal lines ≡ Some r → 0 < fault_number r.fault
lines-refused lines r is = err-number (lines_taken lines).1 r (all-number lines) (of-refusal (lines_taken lines).1 r (refusal-is lines ∙ is))

pub source-numbered : (source : List ℕ) (r : Refused) → refusal source ≡ Some r → 0 < fault_number r.fault
source-numbered source r is =
    err-number (one_pass (lines_of source)).1 r (end-number (lines_taken (lines_of source)).0 (lines_taken (lines_of source)).1 (all-number (lines_of source)))
    (ap (λ (e : Ended). e.1) (whole-is (lines_of source) ∙ source-refused source r is))

-- ---- what the calls answer

-- a refusal that has a number where it is not that memory ran out
told-by : (line from : ℕ) (fault : AsmFault) → (record { line = line; fault = fault; from_line = from } ≢ no_memory → 0 < fault_number fault) → IsTold (record { line = line; fault = fault; from_line = from })
told-by line from fault h = search rules

told : (r : Refused) → (r ≢ no_memory → 0 < fault_number r.fault) → IsTold r
told r h = told-by r.line r.from_line r.fault h

-- what the statements of a line are refused with
pub statements-told : (result : Result (Unit {0}) Refused) (out next : List Item) (a b : Assembly) (line : ℕ) (text : List ℕ) →
    (result ≢ Err no_memory → (next, status_after result b) ≡ entries_taken (line_entries line text) out a) → IfErr result IsTold
statements-told (Ok u) out next a b line text h = tt
statements-told (Err r) out next a b line text h =
    told r (λ other. err-number (entries_taken (line_entries line text) out a).1 r (entries-number (items_of line text) out a)
    (ap (λ (p : Progress). p.1) (sym (h (λ e. other (let same : r ≡ no_memory = cc in same))))))

pub ruleset numbered = (lines-refused, source-numbered)
