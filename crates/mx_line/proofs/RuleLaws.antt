-- What is at a place by the rules of statements is what is cut there, and nothing else is.
use Rattle.std.proofs.Common.{◌≡◌, ℕ, zero, suc, ◌+◌, ◌<◌, List, [], ◌∷◌, ◌++◌, length, drop, Bool, true, false, cond, Option, Some, None, Result, Ok, Err, refl, sym, ap, ◌∙◌, arith, subst, length-append, drop_at, ◌==◌, ◌&&◌, nat_lt, rules}
use Rattle.mx_line.proofs.Words.{cond_both, and_parts, eqb-true, eq-eqb, nat_tests, Span, LineFault, TooLong, BadLabel, BadLocal, BadOpcode, OpenString, OpenChar, is_blank, is_name_byte, run, past, field_length, ends_here, nothing, span, next_from, next_after, with_field, operands_at, no_opcode, opcode_at, operation_at, ends_label, is_bad_local, labelled_at, statement_at, is_too_long, statement_of, Found, begins, Run, Next, Operands, Operation, Statement, StatementOf}
use Rattle.mx_line.proofs.RunLaws.{run-is, run-only, past-only}
use Rattle.mx_line.proofs.StatementLemmas.{some-run}
use Rattle.mx_line.proofs.FieldLaws.{Spelled, spelled-is, whole-field, open-string, open-char}
use Rattle.mx_line.proofs.FieldLaws.OpenedString.{opened, inside}
use Rattle.mx_line.proofs.FieldLaws.OpenedChar.{opened_char, at_byte, at_close}
use Rattle.mx_line.specs.Statements.Next.{another, nothing_more}
use Rattle.mx_line.specs.Statements.Operands.{field, open_string, open_char}
use Rattle.mx_line.specs.Statements.Operation.{named, bad_opcode, only_blanks, only_label}
use Rattle.mx_line.specs.Statements.Statement.{comment, unlabelled, labelled, bad_local, bad_label}
use Rattle.mx_line.specs.Statements.StatementOf.{too_long, later, first}
use Rattle.std.proofs.lemmas.Bool.{and_right as and-false}

-- The rules hold of what is cut.
next-from-is : (place : ℕ) (text gap rest : List ℕ) → Run is_blank text gap rest → Next place text (next_from place gap rest)
next-from-is place text gap [] r =
    let e : place + length text ≡ place + length gap = omega (arith, ap length r.spelled, length-append gap []) in
    subst (Next place text) e (nothing_more gap [] r refl)
next-from-is place text gap (b ∷ bs) r =
    let e : place + length text ≡ place + length gap + length (b ∷ bs) = omega (arith, ap length r.spelled, length-append gap (b ∷ bs)) in
    cond_both (b == 59) _ _ (Next place text) (λ t. another gap bs (subst (λ c. Run is_blank text gap (c ∷ bs)) (eqb-true b 59 t) r)) (λ f. subst (Next place text) e (nothing_more gap (b ∷ bs) r f))

next-is : (place : ℕ) (text : List ℕ) → Next place text (next_after place text)
next-is place text = next-from-is place text (run is_blank text) (past is_blank text) (run-is is_blank text)

after-field : (bytes after rest : List ℕ) → rest ≡ bytes ++ after → drop (length bytes) rest ≡ after
after-field bytes after rest e = ap (drop (length bytes)) e ∙ drop_at bytes after (length bytes) refl

with-is : (label : Option Span) (op : Span) (place : ℕ) (text gap rest : List ℕ) → Run is_blank text gap rest → (r : Result ℕ LineFault) → Spelled nothing rest r →
    Operands label op place text (with_field label op (place + length gap) rest r)
with-is label op place text gap rest run (Ok n) h =
    let found : ℕ → List ℕ → Found = λ m t. Ok (Some (record { label = label; op = op; operands = record { from = place + length gap; to = place + length gap + m }; next = next_after (place + length gap + m) t })) in
    let end : ℕ = place + length gap + length h.bytes in
    subst (λ m. Operands label op place text (found m (drop m rest))) h.counted
    (subst (λ t. Operands label op place text (found (length h.bytes) t)) (sym (after-field h.bytes h.after rest h.spelled))
    (field gap rest h.bytes h.after (next_after end h.after) run h.spelled h.left h.ends (next-is end h.after)))
with-is label op place text gap rest run (Err OpenString) (opened bytes inner e l f) = open_string gap rest bytes inner run e l f
with-is label op place text gap rest run (Err OpenString) (inside e f) = absurd (cc)
with-is label op place text gap rest run (Err OpenChar) (opened_char bytes after e l f) = open_char gap rest bytes after run e l f
with-is label op place text gap rest run (Err OpenChar) (at_byte e f) = absurd (cc)
with-is label op place text gap rest run (Err OpenChar) (at_close e f) = absurd (cc)
with-is label op place text gap rest run r h = absurd h

operands-are : (label : Option Span) (op : Span) (place : ℕ) (text : List ℕ) → Operands label op place text (operands_at label op place text)
operands-are label op place text = with-is label op place text (run is_blank text) (past is_blank text) (run-is is_blank text) (field_length (past is_blank text)) (spelled-is nothing (past is_blank text))

opcode-is : (label : Option Span) (place : ℕ) (text gap rest op after : List ℕ) → Run is_blank text gap rest → Run is_name_byte rest op after → Operation label place text (opcode_at label (place + length gap) op after)
opcode-is None place text gap rest [] after r q = only_blanks gap rest r (ap (begins is_name_byte) q.spelled ∙ q.ends) refl
opcode-is (Some s) place text gap rest [] after r q = only_label gap rest s r (ap (begins is_name_byte) q.spelled ∙ q.ends) refl
opcode-is label place text gap rest (b ∷ bs) after r q =
    cond_both (ends_here after) _ _ (Operation label place text)
    (λ e. named gap rest (b ∷ bs) after _ r q (omega arith) e (operands-are label (span (place + length gap) (b ∷ bs)) (place + length gap + length (b ∷ bs)) after))
    (λ e. bad_opcode gap rest (b ∷ bs) after r q (omega arith) e)

operation-is : (label : Option Span) (place : ℕ) (text : List ℕ) → Operation label place text (operation_at label place text)
operation-is label place text =
    opcode-is label place text (run is_blank text) (past is_blank text) (run is_name_byte (past is_blank text)) (past is_name_byte (past is_blank text)) (run-is is_blank text) (run-is is_name_byte (past is_blank text))

labelled-is : (place : ℕ) (text label rest : List ℕ) → Run is_name_byte text label rest → 0 < length label → Statement place text (labelled_at place label rest)
labelled-is place text label rest r l =
    cond_both (is_bad_local label) _ _ (Statement place text) (λ b. bad_local label rest r l b) (λ b.
    cond_both (ends_label rest) _ _ (Statement place text) (λ e. labelled label rest _ r l b e (operation-is (Some (span place label)) (place + length label) rest)) (λ e. bad_label label rest r l b e))

statement-is : (place : ℕ) (text : List ℕ) → Statement place text (statement_at place text)
statement-is place [] = comment refl refl
statement-is place (b ∷ bs) =
    cond_both (is_name_byte b) _ _ (Statement place (b ∷ bs)) (λ w. labelled-is place (b ∷ bs) (run is_name_byte (b ∷ bs)) (past is_name_byte (b ∷ bs)) (run-is is_name_byte (b ∷ bs)) (some-run is_name_byte b bs w)) (λ w.
    cond_both (is_blank b) _ _ (Statement place (b ∷ bs)) (λ k. unlabelled _ w k (operation-is None place (b ∷ bs))) (λ k. comment w k))

long-true : (line : List ℕ) (place : ℕ) → is_too_long line place ≡ true → (place ≡ 0) × (4096 < length line)
long-true line place h = search rules

-- at the front of a line, and further on
placed : (line : List ℕ) (place : ℕ) → is_too_long line place ≡ false → StatementOf line place (statement_at place (drop place line))
placed line zero h = first _ refl (grind (arith, nat_tests)) (statement-is zero line)
placed line (suc n) h = later _ (omega arith) (statement-is (suc n) (drop (suc n) line))

pub statement_of-is : (line : List ℕ) (place : ℕ) → StatementOf line place (statement_of line place)
unfolding statement_of
statement_of-is line place =
    cond_both (is_too_long line place) _ _ (StatementOf line place) (λ t. let long = long-true line place t in too_long long.0 long.1) (placed line place)

-- Nothing else is cut.
next-after-gap : (place : ℕ) (text gap rest : List ℕ) → Run is_blank text gap rest → next_after place text ≡ next_from place gap rest
next-after-gap place text gap rest r = grind (arith, run-only, past-only)

next-none : (place : ℕ) (text gap rest : List ℕ) → text ≡ gap ++ rest → begins (λ b. b == 59) rest ≡ false → next_from place gap rest ≡ place + length text
next-none place text gap rest e h = grind (arith, length-append)

next-only : (place : ℕ) (text : List ℕ) (next : ℕ) → Next place text next → next_after place text ≡ next
next-only place text _ (another gap rest r) = next-after-gap place text gap (59 ∷ rest) r
next-only place text _ (nothing_more gap rest r h) = next-after-gap place text gap rest r ∙ next-none place text gap rest r.spelled h

operands-after-gap : (label : Option Span) (op : Span) (place : ℕ) (text gap rest : List ℕ) → Run is_blank text gap rest → operands_at label op place text ≡ with_field label op (place + length gap) rest (field_length rest)
operands-after-gap label op place text gap rest r = grind (arith, run-only, past-only)

operands-only : (label : Option Span) (op : Span) (place : ℕ) (text : List ℕ) (found : Found) → Operands label op place text found → operands_at label op place text ≡ found
operands-only label op place text _ (field gap rest operands after next r e f h n) =
    let at : ℕ → Found = λ m. Ok (Some (record { label = label; op = op; operands = span (place + length gap) operands; next = m })) in
    operands-after-gap label op place text gap rest r
    ∙ ap (with_field label op (place + length gap) rest) (ap field_length e ∙ whole-field operands after f h)
    ∙ ap (λ t. at (next_after (place + length gap + length operands) t)) (after-field operands after rest e)
    ∙ ap at (next-only (place + length gap + length operands) after next n)
operands-only label op place text _ (open_string gap rest front inner r e f h) =
    operands-after-gap label op place text gap rest r ∙ ap (with_field label op (place + length gap) rest) (ap field_length e ∙ open-string front inner f h)
operands-only label op place text _ (open_char gap rest front after r e f h) =
    operands-after-gap label op place text gap rest r ∙ ap (with_field label op (place + length gap) rest) (ap field_length e ∙ open-char front after f h)

operation-after-gap : (label : Option Span) (place : ℕ) (text gap rest op after : List ℕ) → Run is_blank text gap rest → Run is_name_byte rest op after → operation_at label place text ≡ opcode_at label (place + length gap) op after
operation-after-gap label place text gap rest op after r q = grind (arith, run-only, past-only)

-- without a letter or digit there is an empty opcode
empty-run : (kind : ℕ → Bool) (text : List ℕ) → begins kind text ≡ false → Run kind text [] text
empty-run kind text h = record { spelled = refl; all = refl; ends = h }

opcode-chosen : (label : Option Span) (place : ℕ) (op after : List ℕ) (t : Bool) → 0 < length op → ends_here after ≡ t →
    opcode_at label place op after ≡ cond t (operands_at label (span place op) (place + length op) after) (Err BadOpcode)
opcode-chosen label place op after t l e = search rules

operation-only : (label : Option Span) (place : ℕ) (text : List ℕ) (found : Found) → Operation label place text found → operation_at label place text ≡ found
operation-only label place text found (named gap rest op after _ r q l e h) =
    operation-after-gap label place text gap rest op after r q ∙ opcode-chosen label (place + length gap) op after true l e ∙ operands-only label (span (place + length gap) op) (place + length gap + length op) after _ h
operation-only label place text _ (bad_opcode gap rest op after r q l e) =
    operation-after-gap label place text gap rest op after r q ∙ opcode-chosen label (place + length gap) op after false l e
operation-only label place text _ (only_blanks gap rest r h e) =
    operation-after-gap label place text gap rest [] rest r (empty-run is_name_byte rest h) ∙ ap no_opcode e
operation-only label place text _ (only_label gap rest before r h e) =
    operation-after-gap label place text gap rest [] rest r (empty-run is_name_byte rest h) ∙ ap no_opcode e

at-label : (place : ℕ) (text : List ℕ) → begins is_name_byte text ≡ true → statement_at place text ≡ labelled_at place (run is_name_byte text) (past is_name_byte text)
at-label place text h = search rules

statement-after-label : (place : ℕ) (text label rest : List ℕ) → Run is_name_byte text label rest → 0 < length label → statement_at place text ≡ labelled_at place label rest
statement-after-label place text label rest r l = search (rules, at-label, run-only, past-only, and_parts)

label-chosen : (place : ℕ) (label rest : List ℕ) (s t : Bool) → is_bad_local label ≡ s → ends_label rest ≡ t →
    labelled_at place label rest ≡ cond s (Err BadLocal) (cond t (operation_at (Some (span place label)) (place + length label) rest) (Err BadLabel))
label-chosen place label rest s t e f = rw (e, f) refl

no-statement : (place : ℕ) (text : List ℕ) → begins is_name_byte text ≡ false → begins is_blank text ≡ false → statement_at place text ≡ Ok None
no-statement place text w k = search rules

statement-only : (place : ℕ) (text : List ℕ) (found : Found) → Statement place text found → statement_at place text ≡ found
statement-only place text _ (comment w k) = no-statement place text w k
statement-only place text found (unlabelled _ w k h) = search (rules, operation-only)
statement-only place text found (labelled label rest _ r l b e h) =
    statement-after-label place text label rest r l ∙ label-chosen place label rest false true b e ∙ operation-only (Some (span place label)) (place + length label) rest _ h
statement-only place text _ (bad_local label rest r l b) = statement-after-label place text label rest r l ∙ label-chosen place label rest true (ends_label rest) b refl
statement-only place text _ (bad_label label rest r l b e) = statement-after-label place text label rest r l ∙ label-chosen place label rest false false b e

too-long : (line : List ℕ) (place : ℕ) (t : Bool) → is_too_long line place ≡ t → statement_of line place ≡ cond t (Err TooLong) (statement_at place (drop place line))
unfolding statement_of
too-long line place t e = rw e refl

is-long : (line : List ℕ) → 4096 < length line → nat_lt 4096 (length line) ≡ true
is-long line l = grind (arith, nat_tests)

not-first : (place : ℕ) (t : Bool) → 0 < place → (place == 0 && t) ≡ false
not-first place t l = let e : (place == 0) ≡ false = grind (arith, nat_tests) in rw e refl

pub statement_of-only : (line : List ℕ) (place : ℕ) (found : Found) → StatementOf line place found → statement_of line place ≡ found
statement_of-only line place _ (too_long e l) = too-long line place true (rw ((eq-eqb place 0 e), (is-long line l)) refl)
statement_of-only line place found (later _ l h) = too-long line place false (not-first place (nat_lt 4096 (length line)) l) ∙ statement-only place (drop place line) _ h
statement_of-only line place found (first _ e l h) =
    too-long line place false (and-false (place == 0) (nat_lt 4096 (length line)) (grind (arith, nat_tests)))
    ∙ ap (λ p. statement_at p (drop p line)) e ∙ statement-only 0 line _ (subst (λ p. Statement p line found) e h)

-- what was answered is by the rules, and nothing else is
pub by-rules : (line : List ℕ) (place : ℕ) (found : Found) → found ≡ statement_of line place → StatementOf line place found
by-rules line place found e = subst (StatementOf line place) (sym e) (statement_of-is line place)

pub no-other : (line : List ℕ) (place : ℕ) (found other : Found) → found ≡ statement_of line place → StatementOf line place other → other ≡ found
no-other line place found other e h = sym (statement_of-only line place other h) ∙ sym e

pub ruleset answers = (by-rules, no-other)
