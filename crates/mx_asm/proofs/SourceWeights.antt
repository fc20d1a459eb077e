-- What the statements of a source ask for is bounded by the bytes of the source.
use Rattle.std.proofs.Common.{◌≡◌, ℕ, ◌+◌, ◌<◌, ◌≤◌, List, ◌++◌, length, drop, true, ◌⊎◌, inl, inr, Option, IfOk, IfSome, arith, ap, length-append, length-drop, rules, ◌-◌, ◌*◌, ◌^◌, [], ◌∷◌, map, take, sum_by, Bool, false, cond, nat_lt, Some, None, Result, Ok, Err, refl, subst, ◌==◌, option_map}
use Rattle.mx_asm.proofs.Words.{Span, Cut, Found, IsField, Next, Operation, Statement, StatementOf, nat_tests, common_steps, AllByRecursion, list_all, slice_split, take-length, cond_both, and_parts, ltb-true, ltb-false, length-take, sum_by-cons, bytes_eq-Decides, AreBytes, LineFault, lines_of, without_empty_last, size_up_to, is_too_far, split, part, cuts_from, InOrder, CutInOrder, statement, too_far, item_of, before, items_of, Statements, Op, opcode_rows, opcode_names, pseudo_operations, chosen_operations, operations, operation_of, Answer, StatementTree, Fields, operation_with, Entry, with_operation, entry_with, entry_of, entries_of, line_entries, source_entries, statements_in, refusal_in, first_fault, entries_refusal, end_refusal, last_line, refusal, sights_of, Line, lines_entries}
use Rattle.mx_line.specs.Fields.{ends_here}
use Rattle.mx_line.specs.Statements.{Operands}
use Rattle.mx_line.specs.Statements.Operands.{field, open_string, open_char}
use Rattle.mx_line.specs.Statements.StatementOf.{too_long, later, first}
use Rattle.mx_line.specs.Source.{Item, items_from}
use Rattle.mx_line.specs.Statements.Statements.{next as one_more}
use Rattle.mx_line.proofs.StatementLemmas.{statement-order}
use Rattle.mx_line.proofs.RuleLaws.{statement_of-only}
use Rattle.mx_line.proofs.ListLaws.{list-by-rules}
use Rattle.mx_ops.specs.Tables.{first_of}
use Rattle.mx_asm.proofs.Weights.{weight, weights, field_most, field-weighs}
use Rattle.mx_asm.proofs.EndLaw.{both-none}
use Rattle.mx_asm.proofs.ByteStatements.{part-bytes}
use Rattle.mx_asm.proofs.MeaningSources.{source-bytes}

-- ---- how many bytes of a line a statement takes at least

-- An operand field that is not empty follows a blank, and after the field there is a `;` or nothing more.
pub record HasRoom (end : ℕ) (cut : Cut) : Type 0 where
  pub gap : (cut.operands.to ≡ cut.operands.from) ⊎ (cut.op.to < cut.operands.from)
  pub last : (cut.operands.to < cut.next) ⊎ (cut.next ≡ end)

abbrev pub FoundRoom : ℕ → Found → Type 0
FoundRoom end found = IfOk found (λ o. IfSome o (HasRoom end))

-- a `;` or nothing more
next-last : (place end : ℕ) (text : List ℕ) (next : ℕ) → place + length text ≡ end → Next place text next → (place < next) ⊎ (next ≡ end)
next-last place end text next h1 h2 = grind (arith, nat_tests)

gap-first : (place : ℕ) (text gap rest operands after : List ℕ) → ends_here text ≡ true → text ≡ gap ++ rest → rest ≡ operands ++ after → IsField operands →
    (place + length gap + length operands ≡ place + length gap) ⊎ (place < place + length gap)
gap-first place text gap rest operands after h1 h2 h3 h4 = grind (arith, common_steps, nat_tests)

operands-room : (end : ℕ) (label : Option Span) (op : Span) (place : ℕ) (text : List ℕ) (found : Found) → ends_here text ≡ true → op.to ≡ place → place + length text ≡ end →
    Operands label op place text found → FoundRoom end found
operands-room end label op place text _ h o l (field gap rest operands after next r e f c n) = record {
  gap = by (gap-first place text gap rest operands after h r.spelled e f);
  last = next-last (place + length gap + length operands) end after next
      (omega (arith, l, ap length r.spelled, length-append gap rest, ap length e, length-append operands after)) n;
}
  where
    by : (place + length gap + length operands ≡ place + length gap) ⊎ (place < place + length gap) → (place + length gap + length operands ≡ place + length gap) ⊎ (op.to < place + length gap)
    by (inl same) = inl same
    by (inr less) = inr (omega (arith, less, o))
operands-room end label op place text _ h o l (open_string gap rest front inner r e f n) = tt
operands-room end label op place text _ h o l (open_char gap rest front after r e f n) = tt

operation-room : (end : ℕ) (label : Option Span) (place : ℕ) (text : List ℕ) (found : Found) → place + length text ≡ end → Operation label place text found → FoundRoom end found
operation-room end label place text found h1 h2 = search (rules, operands-room, length-append)

statement-room : (end place : ℕ) (text : List ℕ) (found : Found) → place + length text ≡ end → Statement place text found → FoundRoom end found
statement-room end place text found h1 h2 = search (rules, operation-room, length-append)

pub room-of : (line : List ℕ) (place : ℕ) (found : Found) → place ≤ length line → StatementOf line place found → FoundRoom (length line) found
room-of line place _ l (too_long e s) = tt
room-of line place found l (later _ s h) = statement-room (length line) place (drop place line) found (omega (arith, l, length-drop place line)) h
room-of line place found l (first _ e s h) = statement-room (length line) place line found (omega (arith, e)) h

-- ---- what the statements of a source ask for is bounded by the bytes of the source

-- ---- the names of operations have at least two bytes

abbrev is_long : List ℕ × Op → Bool
is_long entry = nat_lt 1 (length entry.0)

all-long : list_all is_long operations ≡ true
unfolding operations pseudo_operations chosen_operations opcode_names opcode_rows
all-long = refl

long-found : (table : List (List ℕ × Op)) (name : List ℕ) (op : Op) → list_all is_long table ≡ true → first_of name table ≡ Some op → 1 < length name
long-found [] name op h e = absurd (cc)
long-found (entry ∷ table) name op h e = grind (arith, and_parts, bytes_eq-Decides, ltb-true, long-found table name op)

name-long : (name : List ℕ) (op : Op) → operation_of name ≡ Some op → 1 < length name
unfolding operation_of
name-long name op e = long-found operations name op all-long e

named-long : (labelled : Bool) (name : List ℕ) (r : Option Op) (op : Op) → operation_of name ≡ r → operation_with labelled r ≡ Ok op → 1 < length name
named-long labelled name r op h1 h2 = search (rules, name-long)

-- ---- what one statement asks for

abbrev EntryMost : List ℕ → List ℕ → Entry → Type 0
EntryMost op operands (Err refused) = Unit {0}
EntryMost op operands (Ok s) = (1 < length op) × (weight s ≤ 40 + field_most operands)

operation-most : (fields : Fields) (line : ℕ) (r : Answer Op) → ((op : Op) → r ≡ Ok op → 1 < length fields.op) → AreBytes fields.operands →
    EntryMost fields.op fields.operands (entry_with line (with_operation fields line r))
operation-most fields line r h1 h2 = grind (arith, nat_tests, field-weighs)

entry-most : (line : ℕ) (label : Option (List ℕ)) (op operands : List ℕ) → AreBytes operands → EntryMost op operands (entry_of (statement line label op operands))
entry-most line label op operands h = search (rules, operation-most, named-long)

-- ---- the statements of a line

-- what the statements of a line from a place on ask for: nothing where no byte is left
record Fits (line : List ℕ) (place most : ℕ) : Type 0 where
  bounded : most + 15 * place ≤ 15 * (length line + 1)
  none : length line ≤ place → most ≡ 0

part-few : (line : List ℕ) (s : Span) → s.from ≤ s.to → length (part line s) + s.from ≤ s.to
part-few line s h = omega (arith, h, length-take (s.to - s.from) (drop s.from line))

next-fits : (line : List ℕ) (place : ℕ) (cut : Cut) (op operands : List ℕ) (entry : Entry) (rest : List StatementTree) → InOrder place (length line) cut → HasRoom (length line) cut →
    length op + cut.op.from ≤ cut.op.to → length operands + cut.operands.from ≤ cut.operands.to → EntryMost op operands entry → Fits line cut.next (weights rest) →
    (entries : List Entry) → statements_in entries ≡ rest → Fits line place (weights (statements_in (entry ∷ entries)))
next-fits line place cut op operands entry rest h1 h2 h3 h4 h5 h6 entries h7 = grind (arith, common_steps, nat_tests)

cuts-fit : (n : ℕ) (line : List ℕ) (place : ℕ) (cuts : List (Result Cut LineFault)) → AreBytes line → place ≤ length line → Statements line place cuts →
    Fits line place (weights (statements_in (entries_of (map (item_of n line) cuts))))
cuts-fit n line place _ h l (one_more _ cut cuts s after) =
    let order : InOrder place (length line) cut = subst (CutInOrder place (length line)) (statement_of-only line place (Ok (Some cut)) s) (statement-order line place l) in
    let entries : List Entry = entries_of (map (item_of n line) cuts) in
    next-fits line place cut (part line cut.op) (part line cut.operands) (entry_of (item_of n line (Ok cut))) (statements_in entries) order (room-of line place (Ok (Some cut)) l s)
    (part-few line cut.op (omega (arith, order.op))) (part-few line cut.operands order.operands)
    (entry-most n (option_map (part line) cut.label) (part line cut.op) (part line cut.operands) (part-bytes line cut.operands h))
    (cuts-fit n line cut.next cuts h order.within after) entries refl
cuts-fit n line place _ h l _ = record { bounded = omega (arith, l); none = λ k. refl }

line-weight : (n : ℕ) (line : List ℕ) → AreBytes line → weights (statements_in (line_entries n line)) ≤ 15 * (length line + 1)
line-weight n line h =
    let fit : Fits line 0 (weights (statements_in (line_entries n line))) = cuts-fit n line 0 (cuts_from line 0) h (omega arith) (list-by-rules line 0 (omega arith)) in
    omega (arith, fit.bounded)

-- ---- the lines of a source

before-weight : (a b : List Item) → weights (statements_in (entries_of (before a b))) ≤ weights (statements_in (entries_of a)) + weights (statements_in (entries_of b))
before-weight (statement line label op operands ∷ items) b = by (entry_of (statement line label op operands)) (before-weight items b)
  where
    by : (e : Entry) → weights (statements_in (entries_of (before items b))) ≤ weights (statements_in (entries_of items)) + weights (statements_in (entries_of b)) →
        weights (statements_in (e ∷ entries_of (before items b))) ≤ weights (statements_in (e ∷ entries_of items)) + weights (statements_in (entries_of b))
    by (Err refused) h = omega arith
    by (Ok s) h = omega (arith, h, sum_by-cons weight s (statements_in (entries_of (before items b))), sum_by-cons weight s (statements_in (entries_of items)))
before-weight a b = omega arith

-- the bytes of lines, with a newline after each
abbrev with_newline : List ℕ → ℕ
with_newline line = length line + 1

abbrev room : List (List ℕ) → ℕ
room lines = sum_by with_newline lines

items-weight : (all : List Line) (n : ℕ) (lines : List Line) → AllByRecursion AreBytes lines → weights (statements_in (entries_of (items_from all n lines))) ≤ 15 * room lines
unfolding items_from
items-weight all n [] h = omega arith
items-weight all n (line ∷ lines) h = cond_both (is_too_far all n) _ _ (λ x. weights (statements_in (entries_of x)) ≤ 15 * room (line ∷ lines))
    (λ _. omega arith)
    (λ _. omega (arith, (items-weight all (n + 1) lines h.1), before-weight (items_of n line) (items_from all (n + 1) lines), line-weight n line h.0, sum_by-cons with_newline line lines))

-- ---- the bytes of a source and those of its lines

parts-room : (f : ℕ → Bool) (source : List ℕ) → room (slice_split f source) ≡ length source + 1
parts-room f [] = omega arith
parts-room f (b ∷ source) = grind (arith, nat_tests, sum_by-cons with_newline [] (slice_split f source), parts-room f source)

-- without an empty last piece there is a newline less at most
record Nearly (a b : ℕ) : Type 0 where
  most : a ≤ b
  least : b ≤ a + 1

last-room : (lines : List (List ℕ)) → Nearly (room (without_empty_last lines)) (room lines)
last-room [] = record { most = omega arith; least = omega arith }
last-room ([] ∷ []) = record { most = omega arith; least = omega arith }
last-room ((b ∷ bs) ∷ []) = record { most = omega arith; least = omega arith }
last-room (line ∷ next ∷ lines) = search (rules, sum_by-cons, last-room (next ∷ lines))

lines-room : (source : List ℕ) → Nearly (room (lines_of source)) (length source + 1)
unfolding lines_of split
lines-room source = subst (Nearly (room (lines_of source))) (parts-room (λ b. b == 10) source) (last-room (split 10 source))

-- ---- sources

-- the statements of a source of bytes ask for at most 15 times its bytes, and 15
pub source-weights : (source : List ℕ) → AreBytes source → weights (statements_in (source_entries source)) ≤ 15 * (length source + 1)
source-weights source h = search (rules, items-weight, source-bytes, lines-room)

-- Where nothing is refused, no line is too far.
later-none : (a b : List Item) → refusal_in (entries_of (before a b)) ≡ None → refusal_in (entries_of b) ≡ None
later-none [] b h = h
later-none (statement line label op operands ∷ items) b h = search (rules, later-none items b)
later-none a b h = absurd (cc)

near-by : (n : ℕ) (b : Bool) (items : List Item) → refusal_in (entries_of (cond b (too_far n ∷ []) items)) ≡ None → (b ≡ false) × (refusal_in (entries_of items) ≡ None)
near-by n b items h = grind (arith, nat_tests)

items-near : (all : List Line) (n k : ℕ) (line : Line) (lines : List Line) → n + length lines ≡ k → refusal_in (entries_of (items_from all n (line ∷ lines))) ≡ None → is_too_far all k ≡ false
unfolding items_from
items-near all n k line [] e h = grind (arith, nat_tests)
items-near all n k line (next ∷ lines) e h = grind (arith, later-none, near-by, items-near all (n + 1) k next lines (omega (arith, e)))

room-is : (lines : List (List ℕ)) → room lines ≡ sum_by length lines + length lines
room-is [] = omega arith
room-is (line ∷ lines) = omega (arith, room-is lines, sum_by-cons with_newline line lines, sum_by-cons length line lines)

lines-near : (lines : List Line) → refusal_in (lines_entries lines) ≡ None → room lines ≤ 2 ^ 22 + 1
lines-near [] h = omega arith
lines-near (line ∷ lines) h =
    let all : List Line = line ∷ lines in
    let near : size_up_to (length all) all ≤ 2 ^ 22 = ltb-false (2 ^ 22) _ (items-near all 1 (length all) line lines (omega arith) h) in
    let whole : sum_by length (take (length all) all) ≡ sum_by length all = ap (sum_by length) (take-length all) in
    omega (arith, near, whole, room-is all)

-- a source that is not refused has at most 2^22 bytes, and a last newline
pub source-short : (source : List ℕ) → refusal source ≡ None → length source ≤ 2 ^ 22 + 1
source-short source h =
    let parts = both-none (entries_refusal (source_entries source)) (end_refusal (last_line (lines_of source)) (statements_in (source_entries source))) h in
    let none : refusal_in (source_entries source) ≡ None = (both-none (first_fault [] (sights_of (statements_in (source_entries source)))) (refusal_in (source_entries source)) parts.0).1 in
    omega (arith, lines-near (lines_of source) none, (lines-room source).least)
