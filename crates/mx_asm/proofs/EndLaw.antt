-- The end of a source in one pass is that of the two passes.
use Rattle.std.proofs.Common.{◌≡◌, ℕ, Bool, true, false, not, cond, List, [], ◌∷◌, ◌++◌, fold, Option, None, Some, is_some, refl, ap, sym, ◌∙◌, subst, append_assoc, append-nil, ◌||◌, rules, ◌+◌, ◌/◌, nat_lt, nat_le, length, Err, arith}
use Rattle.mx_asm.proofs.Words.{filter, AllByRecursion, list_any-append, Value, Awaited, Wait, NameTable, first_value, value_of_name, Label, Placed, Answer, Known, no_targets, StatementTree, encoding, Refused, refused, Sight, outline, waits_in, is_local, next_local, referent, sights_from, known_after, fault_with, statement_fault, first_of, first_fault, undefined, unreferenced, first_undefined, IsUnknown, AreUnknown, encoding-awaits, list_any, nat_tests, Item, lowest_of, AsmFault, SymbolsTooMany, LocalAboveGlobals, Head, nothing_known, sights_of, final_known, opening, first_head, items_from, padded_trie, local_in, locals, trie_limit, last_fault, end_fault, last_line, at_line, end_refusal, assembly_fault, Assembly, beginning, last_number, main_fault, ended_main, ended_waits, end_following, Line, accepted, assembled_with, assembled_lines, one_pass}
use Rattle.mx_word.specs.declared.waits.Awaited.TheVariants as awaited
use Rattle.mx_names.specs.Waiting.{first_of as earliest}
use Rattle.mx_asm.specs.TwoPass.{value_in}
use Rattle.mx_asm.proofs.StatementForms.{HasLabel, encoding-label}
use Rattle.mx_asm.proofs.OpenWaits.{any_settles, is_settled, unsettled, open_waits, local-is, or-false}
use Rattle.mx_asm.proofs.OneStatement.{AreLabels, labels-kept, status_at, sight_local, locals_from, outcome}
use Rattle.mx_line.specs.Source.{items_from as line_items}
use Rattle.mx_asm.proofs.OnePassLaw.{counting, counted_progress, lines_after, size_after, no-labels, some-lines}

-- ---- the first reference that still waits after all statements is the first one that is never defined

-- what a reference that still waits is refused with
abbrev pub wait_refusal : Option Wait → Option Refused
wait_refusal None = None
wait_refusal (Some wait) = Some (refused wait.line (undefined wait.who))

first-append : (xs ys : List Wait) → wait_refusal (earliest (xs ++ ys)) ≡ first_of (wait_refusal (earliest xs)) (wait_refusal (earliest ys))
first-append xs ys = search rules

pub both-none : (a b : Option Refused) → first_of a b ≡ None → (a ≡ None) × (b ≡ None)
both-none a b h = search rules

-- ---- the references of one statement

-- A reference means something exactly where its statement's own label or a later one settles it.
abbrev IsSettledWell : NameTable → Sight → List Sight → Wait → Type 0
IsSettledWell final s later w = is_some (referent final later w.who) ≡ is_settled s later w.who

module _ (final : NameTable) (s : Sight) (later : List Sight) where
  abbrev still_open : List Wait → List Wait
  still_open ws = filter (λ (w : Wait). not (is_settled s later w.who)) ws

  open-by : (b : Bool) (w : Wait) (ws : List Wait) → unreferenced final later ws ≡ wait_refusal (earliest (still_open ws)) →
      cond b (unreferenced final later ws) (Some (refused w.line (undefined w.who))) ≡ wait_refusal (earliest (cond (not b) (w ∷ still_open ws) (still_open ws)))
  open-by b w ws h = search rules

  unreferenced-is : (ws : List Wait) → AllByRecursion (IsSettledWell final s later) ws → unreferenced final later ws ≡ wait_refusal (earliest (still_open ws))
  unfolding unreferenced
  unreferenced-is [] h = refl
  unreferenced-is (w ∷ ws) h = grind (arith, open-by, unreferenced-is ws h.1)

-- ---- a name

neither : (a b : Option Value) → first_value a b ≡ None → (a ≡ None) × (b ≡ None)
neither a b h = search rules

one-of : (a b : Option Value) → b ≡ None → is_some (first_value a b) ≡ is_some a
one-of a b h = search rules

name-settled : (final : NameTable) (before : List Sight) (s : Sight) (later : List Sight) (full : List ℕ) →
    AreLabels s.known.names before → AreLabels final (before ++ s ∷ later) → value_of_name s.known.names full ≡ None →
    is_some (value_of_name final full) ≡ is_settled s later (awaited.Name full)
name-settled final before s later full labels ends unknown = search (rules, neither, one-of, list_any-append)

-- ---- a local label

-- The label of a statement that is placed has a value.
abbrev HasValue : Sight → Type 0
HasValue t = (d : ℕ) → is_local d t.statement.label ≡ true → is_some (value_in (outline t)) ≡ true

next-by : (d : ℕ) (t : Sight) (later : List Sight) (b : Bool) → (b ≡ true → is_some (value_in (outline t)) ≡ true) → is_some (next_local d later) ≡ any_settles later (awaited.Local d) →
    is_some (cond b (value_in (outline t)) (next_local d later)) ≡ (b || any_settles later (awaited.Local d))
next-by d t later b has h = search rules

next-settled : (d : ℕ) (later : List Sight) → AllByRecursion HasValue later → is_some (next_local d later) ≡ any_settles later (awaited.Local d)
unfolding next_local
next-settled d [] h = refl
next-settled d (t ∷ later) h = search (rules, next-by, local-is, next-settled d later h.1)

label-value : (d : ℕ) (label : Option Label) (value : Option Value) → HasLabel label value → is_local d label ≡ true → is_some value ≡ true
label-value d label value has is = search rules

has-value : (before : List Sight) (t : Sight) (r : Answer Placed) → encoding no_targets t.known t.statement ≡ r → fault_with before t r ≡ None →
    (d : ℕ) → is_local d t.statement.label ≡ true → is_some (value_in r) ≡ true
has-value before t r h1 h2 d h3 = search (rules, label-value, encoding-label)

-- ---- all statements

module _ (k : Known) (before : List Sight) (st : StatementTree) (statements : List StatementTree) where
  abbrev here : Sight
  here = record { known = k; statement = st }

  abbrev rest : List Sight
  rest = sights_from (known_after k st) statements

  split : first_fault before (sights_from k (st ∷ statements)) ≡ None → (statement_fault before here ≡ None) × (first_fault (before ++ here ∷ []) rest ≡ None)
  unfolding sights_from first_fault
  split none = both-none (statement_fault before here) (first_fault (before ++ here ∷ []) rest) none

all-valued : (statements : List StatementTree) (k : Known) (before : List Sight) → first_fault before (sights_from k statements) ≡ None → AllByRecursion HasValue (sights_from k statements)
unfolding sights_from
all-valued [] k before none = tt
all-valued (st ∷ statements) k before none =
    let parts = split k before st statements none in
    (has-value before (here k before st statements) (outline (here k before st statements)) refl parts.0, all-valued statements (known_after k st) (before ++ here k before st statements ∷ []) parts.1)

pub labels-at-end : (statements : List StatementTree) (k : Known) (before : List Sight) → AreLabels k.names before → first_fault before (sights_from k statements) ≡ None →
    AreLabels (fold known_after k statements).names (before ++ sights_from k statements)
unfolding sights_from
labels-at-end [] k before labels none = subst (AreLabels k.names) (sym (append-nil before)) labels
labels-at-end (st ∷ statements) k before labels none =
    let parts = split k before st statements none in
    subst (AreLabels (fold known_after (known_after k st) statements).names) (append_assoc before (here k before st statements ∷ []) (rest k before st statements))
    (labels-at-end statements (known_after k st) (before ++ here k before st statements ∷ []) (labels-kept k before st parts.0 labels) parts.1)

settled-by : (final : NameTable) (before : List Sight) (s : Sight) (later : List Sight) (who : Awaited) →
    AreLabels s.known.names before → AreLabels final (before ++ s ∷ later) → AllByRecursion HasValue later → IsUnknown s.known.names who →
    is_some (referent final later who) ≡ is_settled s later who
settled-by final before s later (awaited.Name full) labels ends valued unknown = name-settled final before s later full labels ends (unknown full refl)
settled-by final before s later (awaited.Local d) labels ends valued unknown = next-settled d later valued

all-settled : (final : NameTable) (before : List Sight) (s : Sight) (later : List Sight) (ws : List Wait) →
    AreLabels s.known.names before → AreLabels final (before ++ s ∷ later) → AllByRecursion HasValue later → AreUnknown s.known.names ws →
    AllByRecursion (IsSettledWell final s later) ws
all-settled final before s later [] labels ends valued unknown = tt
all-settled final before s later (w ∷ ws) labels ends valued unknown = search (rules, settled-by, all-settled final before s later ws labels ends valued unknown.1)

waits-unknown : (s : Sight) (r : Answer Placed) → encoding no_targets s.known s.statement ≡ r → AreUnknown s.known.names (waits_in r)
waits-unknown s r h = search (rules, encoding-awaits)

pub first-open : (statements : List StatementTree) (k : Known) (before : List Sight) (final : NameTable) → AreLabels k.names before → first_fault before (sights_from k statements) ≡ None →
    AreLabels final (before ++ sights_from k statements) → first_undefined final (sights_from k statements) ≡ wait_refusal (earliest (open_waits (sights_from k statements)))
unfolding sights_from first_undefined open_waits
first-open [] k before final labels none ends = refl
first-open (st ∷ statements) k before final labels none ends =
    let parts = split k before st statements none in
    let s = here k before st statements in
    let more = rest k before st statements in
    (λ i. first_of
    (unreferenced-is final s more (waits_in (outline s)) (all-settled final before s more (waits_in (outline s)) labels ends (all-valued statements (known_after k st) (before ++ s ∷ []) parts.1) (waits-unknown s (outline s) refl)) i)
    (first-open statements (known_after k st) (before ++ s ∷ []) final (labels-kept k before st parts.0 labels) parts.1 (subst (AreLabels final) (sym (append_assoc before (s ∷ []) more)) ends) i))
    ∙ sym (first-append (unsettled s more) (open_waits more))

-- ---- the end of a source in one pass is that of the two passes

-- ---- the registers of LOCAL

none-below : (n : ℕ) → nat_lt n 0 ≡ false
none-below n = grind (arith, nat_tests)

answer-local : (n l : ℕ) (r : Answer Placed) → nat_lt n (sight_local l r) ≡ (nat_lt n l || list_any (λ reg. nat_le n reg) (local_in r))
answer-local n l r = grind (arith, nat_tests)

locals-from : (n : ℕ) (sights : List Sight) (l : ℕ) → nat_lt n (locals_from l sights) ≡ (nat_lt n l || list_any (λ reg. nat_le n reg) (locals sights))
unfolding locals_from locals
locals-from n [] l = sym (or-false _)
locals-from n (s ∷ later) l = search (rules, answer-local, list_any-append, locals-from n later (sight_local l (outline s)))

all-locals : (n : ℕ) (sights : List Sight) → nat_lt n (locals_from 0 sights) ≡ list_any (λ reg. nat_le n reg) (locals sights)
all-locals n sights = locals-from n sights 0 ∙ ap (λ b. b || list_any (λ reg. nat_le n reg) (locals sights)) (none-below n)

-- ---- the number of the last line

after-more : (lines : List Line) (n : ℕ) → lines_after n lines ≡ n + length lines
unfolding lines_after
after-more [] n = omega arith
after-more (line ∷ lines) n = after-more lines (n + 1) ∙ omega arith

last-is : (line : Line) (lines : List Line) → last_number (lines_after 0 (line ∷ lines)) ≡ last_line (line ∷ lines)
last-is line lines = search (rules, after-more)

-- ---- the end

module _ (out : List Item) (statements : List StatementTree) (last n m : ℕ) (h : Head) (items : List Item) (whole : out ≡ opening ++ items) (number : last_number n ≡ last) where
  abbrev sights : List Sight
  sights = sights_of statements

  abbrev k : Known
  k = final_known statements

  abbrev a : Assembly
  a = counting n m (status_at k h sights (locals_from 0 sights))

  refused-alike : (fault : AsmFault) → (out, Err (refused (last_number n) fault)) ≡ assembled_with statements items (Some (refused last fault))
  refused-alike fault = λ i. (whole i, Err (refused (number i) fault))

  locals-alike : (far : Bool) →
      ended_main out a (cond far (Some LocalAboveGlobals) None)
      ≡ assembled_with statements items (at_line last (cond far (Some LocalAboveGlobals) (cond (nat_lt trie_limit (length (padded_trie k.names) / 4)) (Some SymbolsTooMany) None)))
  locals-alike far = search rules

  main-alike : (main : Option Value) → ended_main out a (main_fault (lowest_of k.gregs) (locals_from 0 sights) main) ≡ assembled_with statements items (at_line last (last_fault k (locals sights) main))
  main-alike main = grind (arith, refused-alike, all-locals, locals-alike)

  waits-alike : (w : Option Wait) → ended_waits out a w ≡ assembled_with statements items (first_of (wait_refusal w) (at_line last (end_fault k (locals sights))))
  waits-alike w = grind (arith, main-alike)

  ended-alike : first_fault [] sights ≡ None → ended_waits out a (earliest (open_waits sights)) ≡ assembled_with statements items (end_refusal last statements)
  ended-alike none =
      waits-alike (earliest (open_waits sights))
      ∙ ap (λ r. assembled_with statements items (first_of r (at_line last (end_fault k (locals sights)))))
      (sym (first-open statements nothing_known [] k.names no-labels none (labels-at-end statements nothing_known [] no-labels none)))

-- ---- the law

outcome-ends : (line : Line) (lines : List Line) (statements : List StatementTree) (h : Head) (items : List Item) (r : Option Refused) → (r ≡ None → first_fault [] (sights_of statements) ≡ None) →
    let p = counted_progress (lines_after 0 (line ∷ lines)) (size_after 0 (line ∷ lines)) (outcome (opening ++ items) r (status_at (final_known statements) h (sights_of statements) (locals_from 0 (sights_of statements)))) in
    end_following p.0 p.1 ≡ assembled_with statements items (first_of r (end_refusal (last_line (line ∷ lines)) statements))
outcome-ends line lines statements h items r none = grind (arith, ended-alike, last-is)

-- whether the opening is there makes no difference at the end
main-opened : (out : List Item) (a : Assembly) (fault : Option AsmFault) → ended_main out a fault ≡ ended_main out (record a { opened = true }) fault
main-opened out a fault = grind (arith, nat_tests)

nothing-ends : one_pass [] ≡ assembled_lines []
unfolding line_items items_from accepted sights_from first_fault open_waits locals_from
nothing-ends =
    main-opened opening beginning (assembly_fault beginning)
    ∙ ended-alike opening [] 1 0 0 first_head [] refl refl refl

pub whole-is : (lines : List Line) → one_pass lines ≡ assembled_lines lines
whole-is lines = grind (arith, nat_tests, nothing-ends, some-lines, outcome-ends, both-none)
