-- The statements of a line, one after another.
use Rattle.std.proofs.Common.{◌≡◌, ℕ, suc, ◌+◌, ◌-◌, ◌<◌, ◌≤◌, List, [], ◌∷◌, length, Bool, true, Option, Some, None, Result, IfOk, arith, length-drop, rules}
use Rattle.mx_line.proofs.Words.{cond_both, Span, LineFault, Cut, is_blank, is_name_byte, run, past, with_field, no_opcode, opcode_at, operation_at, ends_label, labelled_at, statement_at, statement_of, list_with, cuts_within, cuts_from, LabelBefore, CutInOrder}
use Rattle.mx_line.proofs.KindLemmas.{run-whole, run-length}
use Rattle.mx_line.proofs.FieldLemmas.{field_length-few}

with-order : (start end place : ℕ) (label : Option Span) (op : Span) (text : List ℕ) → LabelBefore start label op.from → op.from < op.to → op.to ≤ place → place + length text ≡ end →
    (r : Result ℕ LineFault) → IfOk r (λ n. n ≤ length text) → CutInOrder start end (with_field label op place text r)
with-order start end place label op text l o g e r h = search (rules, run-whole, length-drop)

none-order : (start end : ℕ) (label : Option Span) → CutInOrder start end (no_opcode label)
none-order start end label = search rules

opcode-order : (start end place : ℕ) (label : Option Span) (op rest : List ℕ) → LabelBefore start label place → place + length op + length rest ≡ end → CutInOrder start end (opcode_at label place op rest)
opcode-order start end place label op rest l e = search (rules, none-order, cond_both, with-order, run-whole, field_length-few)

operation-order : (start end place : ℕ) (label : Option Span) (text : List ℕ) → ((n : ℕ) → n ≡ place + length (run is_blank text) → LabelBefore start label n) → place + length text ≡ end →
    CutInOrder start end (operation_at label place text)
operation-order start end place label text l e = grind (arith, opcode-order, run-whole)

-- a text that begins with a byte of a kind has a run of it
pub some-run : (kind : ℕ → Bool) (b : ℕ) (bs : List ℕ) → kind b ≡ true → 0 < length (run kind (b ∷ bs))
some-run kind b bs h = rw (run-length kind (b ∷ bs)) (rw h (omega arith))

after-order : (start end place : ℕ) (label : Span) (rest : List ℕ) → label.from ≡ start → start < label.to → label.to ≡ place → place + length rest ≡ end → ends_label rest ≡ true →
    CutInOrder start end (operation_at (Some label) place rest)
after-order start end place label [] f o t e h = tt
after-order start end place label (b ∷ bs) f o t e h = let some = some-run is_blank b bs h in operation-order start end place (Some label) (b ∷ bs) (λ n k. (f, o, omega arith)) e

labelled-order : (start end : ℕ) (label rest : List ℕ) → 0 < length label → start + length label + length rest ≡ end → CutInOrder start end (labelled_at start label rest)
labelled-order start end label rest s e = grind (arith, cond_both, after-order)

statement_at-order : (start end : ℕ) (text : List ℕ) → start + length text ≡ end → CutInOrder start end (statement_at start text)
statement_at-order start end [] e = tt
statement_at-order start end (b ∷ bs) e =
    cond_both (is_name_byte b) _ _ (CutInOrder start end) (λ h. labelled-order start end (run is_name_byte (b ∷ bs)) (past is_name_byte (b ∷ bs)) (some-run is_name_byte b bs h) (omega (arith, run-whole is_name_byte (b ∷ bs)))) (λ _.
    cond_both (is_blank b) _ _ (CutInOrder start end) (λ h. let some = some-run is_blank b bs h in operation-order start end start None (b ∷ bs) (λ n k. omega arith) e) (λ _. tt))

pub statement-order : (line : List ℕ) (place : ℕ) → place ≤ length line → CutInOrder place (length line) (statement_of line place)
unfolding statement_of
statement-order line place h = grind (arith, cond_both, statement_at-order, length-drop)

pub past-label : (place : ℕ) (label : Option Span) (op : ℕ) → LabelBefore place label op → place < op
past-label place label op h = search rules

-- what is listed depends on what comes later
same-later : (place end : ℕ) (f g : ℕ → List (Result Cut LineFault)) → ((p : ℕ) → place < p → p ≤ end → f p ≡ g p) → (r : Result (Option Cut) LineFault) → CutInOrder place end r → list_with f r ≡ list_with g r
same-later place end f g h r o = search rules

-- More turns than the line has bytes left change nothing.
same-list : (line : List ℕ) (m n place : ℕ) → length line < m + place → length line < n + place → place ≤ length line → cuts_within m line place ≡ cuts_within n line place
unfolding cuts_within
same-list line (suc m) (suc n) place h k l =
    same-later place (length line) (cuts_within m line) (cuts_within n line) (λ p a b. same-list line m n p (omega arith) (omega arith) b) (statement_of line place) (statement-order line place l)
same-list line m n place h k l = absurd (omega arith)

-- the statements of a line from a place on: the first, and those from its end on
pub list-is : (line : List ℕ) (place : ℕ) → place ≤ length line → cuts_from line place ≡ list_with (cuts_from line) (statement_of line place)
unfolding cuts_within
list-is line place h =
    let e : length line + 1 - place ≡ suc (length line - place) = omega arith in
    rw e (same-later place (length line) (cuts_within (length line - place) line) (cuts_from line) (λ p a b. same-list line (length line - place) (length line + 1 - p) p (omega arith) (omega arith) b) (statement_of line place) (statement-order line place h))

pub ruleset listing = (statement-order, list-is)
