-- The lines of a source in one pass come to what the two passes say.
use Rattle.std.proofs.Common.{◌≡◌, ℕ, ◌+◌, ◌^◌, Bool, true, false, cond, nat_lt, List, [], ◌∷◌, ◌++◌, fold, length, Option, None, Some, Result, Ok, Err, refl, rules, ◌-◌, take, ap, sym, ◌∙◌, subst, arith, append_assoc, length-append, sum_by, ◌≢◌, OnOk, OnErr, IfErr}
use Rattle.mx_asm.proofs.Words.{Item, Placed, Label, Answer, SourceTooLong, Refused, refused, Entry, line_entries, Assembly, Taken, Progress, Labelled, taken_items, taken_label, taken_with, entry_taken, after_entry, and_entries, entries_taken, line_unless, Line, line_after, result_err, sum_by-append, take-append_seam, is_too_far, size_up_to, statement, too_far, items_of, StatementTree, entries_of, statements_in, refusal_in, nothing_known, sights_from, opening, first_head, first_fault, entries_refusal, beginning, lines_entries, lines_items, lines_taken, nat_tests, Cut, cuts_from, list_with, holds_statement, Status, is_open, line_following, opened}
use Rattle.mx_line.specs.Source.{Item as Listed, before as listed_before, items_from as line_items}
use Rattle.mx_asm.specs.Faults.{no_memory}
use Rattle.mx_asm.specs.OnePass.{Tried, status_after, status_unless}
use Rattle.mx_asm.proofs.OpenWaits.{open_waits}
use Rattle.mx_asm.proofs.OneStatement.{status_at, AreLabels, outcome, entries_outcome, entries-are}

-- ---- lines that are taken one after another: their entries are

-- an assembly after this many lines and bytes
abbrev pub counting : ℕ → ℕ → Assembly → Assembly
counting n m a = record a { lines = n; size = m; opened = true }

abbrev pub counted_taken : ℕ → ℕ → Taken → Taken
counted_taken n m (Err refused) = Err refused
counted_taken n m (Ok (items, a)) = Ok (items, counting n m a)

abbrev pub counted_progress : ℕ → ℕ → Progress → Progress
counted_progress n m (out, Err refused) = (out, Err refused)
counted_progress n m (out, Ok a) = (out, Ok (counting n m a))

-- ---- the counts make no difference to a statement

items-counted : (n m : ℕ) (a : Assembly) (r : Result (List Item) Refused) → taken_items (counting n m a) r ≡ counted_taken n m (taken_items a r)
items-counted n m a r = search rules

label-counted : (n m : ℕ) (a : Assembly) (line : ℕ) (p : Placed) (r : Labelled) → taken_label (counting n m a) line p r ≡ counted_taken n m (taken_label a line p r)
label-counted n m a line p r = search (rules, items-counted)

with-counted : (n m : ℕ) (a : Assembly) (line : ℕ) (label : Option Label) (r : Answer Placed) → taken_with (counting n m a) line label r ≡ counted_taken n m (taken_with a line label r)
with-counted n m a line label r = search (rules, label-counted)

entry-counted : (n m : ℕ) (a : Assembly) (e : Entry) → entry_taken (counting n m a) e ≡ counted_taken n m (entry_taken a e)
entry-counted n m a e = search (rules, with-counted)

after-counted : (n m : ℕ) (out : List Item) (t : Taken) → after_entry out (counted_taken n m t) ≡ counted_progress n m (after_entry out t)
after-counted n m out t = search rules

and-counted : (n m : ℕ) (more : List Item → Assembly → Progress) → ((out : List Item) (a : Assembly) → more out (counting n m a) ≡ counted_progress n m (more out a)) →
    (p : Progress) → and_entries more (counted_progress n m p) ≡ counted_progress n m (and_entries more p)
and-counted n m more h p = search rules

pub entries-counted : (n m : ℕ) (entries : List Entry) (out : List Item) (a : Assembly) → entries_taken entries out (counting n m a) ≡ counted_progress n m (entries_taken entries out a)
unfolding entries_taken
entries-counted n m [] out a = refl
entries-counted n m (e ∷ entries) out a = search (rules, entry-counted, after-counted, and-counted, entries-counted n m entries)

-- entries after entries
and-assoc : (first second : List Item → Assembly → Progress) (p : Progress) → and_entries (λ out a. and_entries second (first out a)) p ≡ and_entries second (and_entries first p)
and-assoc first second p = search rules

and-same : (f g : List Item → Assembly → Progress) → ((out : List Item) (a : Assembly) → f out a ≡ g out a) → (p : Progress) → and_entries f p ≡ and_entries g p
and-same f g h p = search rules

pub entries-append : (xs ys : List Entry) (out : List Item) (a : Assembly) → entries_taken (xs ++ ys) out a ≡ and_entries (entries_taken ys) (entries_taken xs out a)
unfolding entries_taken
entries-append [] ys out a = refl
entries-append (e ∷ xs) ys out a = search (rules, and-same, and-assoc, entries-append xs ys)

-- ---- lines

-- the entries of lines after this many lines and bytes
abbrev pub unless_far : Bool → ℕ → List Entry → List Entry
unless_far true number entries = Err (refused number SourceTooLong) ∷ []
unless_far false number entries = entries

unfoldable pub entries_after : ℕ → ℕ → List Line → List Entry
entries_after n m [] = []
entries_after n m (line ∷ lines) = unless_far (nat_lt (2 ^ 22) (m + length line)) (n + 1) (line_entries (n + 1) line ++ entries_after (n + 1) (m + length line + 1) lines)

unfoldable pub lines_after : ℕ → List Line → ℕ
lines_after n [] = n
lines_after n (line ∷ lines) = lines_after (n + 1) lines

unfoldable pub size_after : ℕ → List Line → ℕ
size_after m [] = m
size_after m (line ∷ lines) = size_after (m + length line + 1) lines

-- after a refusal nothing changes
refused-stays : (lines : List Line) (out : List Item) (r : Refused) → fold line_after (out, Err r) lines ≡ (out, Err r)
refused-stays [] out r = refl
refused-stays (line ∷ lines) out r = refused-stays lines out r

-- one line, and those after it
line-then : (n m : ℕ) (lines : List Line) (fs : List Entry) (more : (out : List Item) (a : Assembly) → fold line_after (out, Ok (counting n m a)) lines ≡ counted_progress (lines_after n lines) (size_after m lines) (entries_taken fs out a)) (p : Progress) →
    fold line_after (counted_progress n m p) lines ≡ counted_progress (lines_after n lines) (size_after m lines) (and_entries (entries_taken fs) p)
line-then n m lines fs more p = search (rules, refused-stays)

line-by : (far : Bool) (n m : ℕ) (line : Line) (lines : List Line) (out : List Item) (a : Assembly) →
    ((out : List Item) (a : Assembly) → fold line_after (out, Ok (counting (n + 1) (m + length line + 1) a)) lines ≡ counted_progress (lines_after (n + 1) lines) (size_after (m + length line + 1) lines) (entries_taken (entries_after (n + 1) (m + length line + 1) lines) out a)) →
    fold line_after (line_unless (cond far (Some (refused (n + 1) SourceTooLong)) None) out (counting n m a) line) lines
    ≡ counted_progress (lines_after (n + 1) lines) (size_after (m + length line + 1) lines) (entries_taken (unless_far far (n + 1) (line_entries (n + 1) line ++ entries_after (n + 1) (m + length line + 1) lines)) out a)
unfolding entries_taken
line-by far n m line lines out a h = search (rules, refused-stays, entries-counted, line-then, entries-append)

pub lines-are : (lines : List Line) (n m : ℕ) (out : List Item) (a : Assembly) →
    fold line_after (out, Ok (counting n m a)) lines ≡ counted_progress (lines_after n lines) (size_after m lines) (entries_taken (entries_after n m lines) out a)
unfolding entries_after lines_after size_after entries_taken
lines-are [] n m out a = refl
lines-are (line ∷ lines) n m out a = line-by (nat_lt (2 ^ 22) (m + length line)) n m line lines out a (lines-are lines (n + 1) (m + length line + 1))

-- ---- the lines of a source in one pass come to what the two passes say

-- ---- the entries of lines

-- entries with the same statements and the same refusal
abbrev pub Same : List Entry → List Entry → Type 0
Same a b = (statements_in a ≡ statements_in b) × (refusal_in a ≡ refusal_in b)

-- a fault ends the list either way
same-before : (xs ys : List Listed) (fs : List Entry) → Same (entries_of ys) fs → Same (entries_of (listed_before xs ys)) (entries_of xs ++ fs)
same-before [] ys fs h = h
same-before (statement line label op operands ∷ xs) ys fs h = grind (arith, nat_tests, same-before xs ys fs h)
same-before xs ys fs h = (refl, refl)

-- the bytes of lines, with a newline after each
abbrev size_of : List Line → ℕ
size_of lines = sum_by length lines + length lines

far-size : (prev : List Line) (line : Line) (lines : List Line) → size_up_to (length prev + 1) (prev ++ line ∷ lines) ≡ size_of prev + length line
far-size prev line lines =
    let whole : prev ++ line ∷ lines ≡ (prev ++ line ∷ []) ++ lines = sym (append_assoc prev (line ∷ []) lines) in
    let front : take (length prev + 1) (prev ++ line ∷ lines) ≡ prev ++ line ∷ [] =
    ap (take (length prev + 1)) whole ∙ ap (λ n. take n ((prev ++ line ∷ []) ++ lines)) (sym (length-append prev (line ∷ []))) ∙ take-append_seam (prev ++ line ∷ []) lines in
    ap (λ ls. sum_by length ls + (length prev + 1 - 1)) front ∙ simp sum_by-append (omega arith)

one-listed : (far : Bool) (n : ℕ) (xs ys : List Listed) (fs : List Entry) → Same (entries_of ys) fs →
    Same (entries_of (cond far (too_far n ∷ []) (listed_before xs ys))) (unless_far far n (entries_of xs ++ fs))
one-listed true n xs ys fs h = (refl, refl)
one-listed false n xs ys fs h = same-before xs ys fs h

are-listed : (lines prev all : List Line) → all ≡ prev ++ lines → Same (entries_of (line_items all (length prev + 1) lines)) (entries_after (length prev) (size_of prev) lines)
unfolding line_items entries_after
are-listed [] prev all e = (refl, refl)
are-listed (line ∷ lines) prev all e =
    let far : is_too_far all (length prev + 1) ≡ nat_lt (2 ^ 22) (size_of prev + length line) =
    ap (λ ls. is_too_far ls (length prev + 1)) e ∙ ap (nat_lt (2 ^ 22)) (far-size prev line lines) in
    let later : Same (entries_of (line_items all (length prev + 1 + 1) lines)) (entries_after (length prev + 1) (size_of prev + length line + 1) lines) =
    subst (λ n. Same (entries_of (line_items all (n + 1) lines)) (entries_after n (size_of prev + length line + 1) lines)) (length-append prev (line ∷ []))
    (subst (λ m. Same (entries_of (line_items all (length (prev ++ line ∷ []) + 1) lines)) (entries_after (length (prev ++ line ∷ [])) m lines)) (simp (sum_by-append, length-append) (omega arith))
    (are-listed lines (prev ++ line ∷ []) all (e ∙ sym (append_assoc prev (line ∷ []) lines)))) in
    subst (λ b. Same (entries_of (cond b (too_far (length prev + 1) ∷ []) (listed_before (items_of (length prev + 1) line) (line_items all (length prev + 1 + 1) lines))))
    (unless_far (nat_lt (2 ^ 22) (size_of prev + length line)) (length prev + 1) (line_entries (length prev + 1) line ++ entries_after (length prev + 1) (size_of prev + length line + 1) lines))) (sym far)
    (one-listed (nat_lt (2 ^ 22) (size_of prev + length line)) (length prev + 1) (items_of (length prev + 1) line) (line_items all (length prev + 1 + 1) lines) _ later)

-- ---- the law

pub no-labels : AreLabels nothing_known.names []
no-labels full = refl

-- what lines come to
abbrev pub lines_outcome : List StatementTree → Option Refused → Progress
lines_outcome statements refusal = entries_outcome nothing_known first_head [] 0 opening statements refusal

begun : (line : Line) (lines : List Line) → fold line_after ([], Ok beginning) (line ∷ lines) ≡ fold line_after (opening, Ok (counting 0 0 (status_at nothing_known first_head [] 0))) (line ∷ lines)
unfolding open_waits
begun line lines = refl

pub some-lines : (line : Line) (lines : List Line) →
    lines_taken (line ∷ lines) ≡ counted_progress (lines_after 0 (line ∷ lines)) (size_after 0 (line ∷ lines)) (lines_outcome (statements_in (lines_entries (line ∷ lines))) (refusal_in (lines_entries (line ∷ lines))))
some-lines line lines =
    let listed : Same (lines_entries (line ∷ lines)) (entries_after 0 0 (line ∷ lines)) = are-listed (line ∷ lines) [] (line ∷ lines) refl in
    begun line lines
    ∙ lines-are (line ∷ lines) 0 0 opening (status_at nothing_known first_head [] 0)
    ∙ ap (counted_progress (lines_after 0 (line ∷ lines)) (size_after 0 (line ∷ lines)))
    (entries-are (entries_after 0 0 (line ∷ lines)) nothing_known first_head [] 0 opening no-labels
    ∙ (λ i. lines_outcome (sym listed.0 i) (sym listed.1 i)))

progress-items : (n m : ℕ) (out : List Item) (r : Option Refused) (a : Assembly) → (counted_progress n m (outcome out r a)).0 ≡ out
progress-items n m out r a = grind (arith, nat_tests)

progress-refusal : (n m : ℕ) (out : List Item) (r : Option Refused) (a : Assembly) → result_err (counted_progress n m (outcome out r a)).1 ≡ r
progress-refusal n m out r a = grind (arith, nat_tests)

pub items-are : (lines : List Line) → (lines_taken lines).0 ≡ lines_items lines
items-are lines = search (rules, some-lines, progress-items)

pub refusal-is : (lines : List Line) → result_err (lines_taken lines).1 ≡ entries_refusal (lines_entries lines)
unfolding line_items sights_from first_fault
refusal-is [] = refl
refusal-is (line ∷ lines) = ap (λ p. result_err p.1) (some-lines line lines) ∙ progress-refusal _ _ _ _ _

-- ---- a line without a statement takes no memory

pub no-statement : (text : List ℕ) (at : ℕ) (found : Option Cut) (cut : Cut) → at ≡ 0 → found ≡ Some cut → cuts_from text at ≡ list_with (cuts_from text) (Ok found) → holds_statement text ≡ false → ⊥
no-statement text at found cut first is list none = cc

-- ---- after a line the opening is there

IfOpen : Status → Type 0
IfOpen (Err refused) = Unit {0}
IfOpen (Ok a) = a.opened ≡ true

counted-open : (n m : ℕ) (p : Progress) → IfOpen (counted_progress n m p).1
unfolding IfOpen
counted-open n m p = search rules

unless-open : (f : Option Refused) (out : List Item) (a : Assembly) (text : List ℕ) → IfOpen (line_unless f out (opened a) text).1
unfolding IfOpen
unless-open f out a text = search (rules, IfOpen, entries-counted, counted-open)

after-open : (out : List Item) (s : Status) (text : List ℕ) → IfOpen (line_following out s text).1
unfolding IfOpen
after-open out s text = search (rules, unless-open)

is-open : (b : Status) (a : Assembly) → b ≡ Ok a → IfOpen b → is_open b ≡ true
unfolding IfOpen
is-open b a is h = search rules

pub line-open : (out next : List Item) (s b : Status) (a : Assembly) (text : List ℕ) → (next, b) ≡ line_following out s text → b ≡ Ok a → is_open b ≡ true
line-open out next s b a text is ok = is-open b a ok (subst (λ p. IfOpen p.1) (sym is) (after-open out s text))

pub answer-open : (r : Result (Unit {0}) Refused) (out next : List Item) (s : Status) (a : Assembly) (o : Option Refused) (text : List ℕ) → o ≡ None →
    (r ≢ Err no_memory → (next, status_after r a) ≡ line_following out s text) → OnOk r (is_open (status_unless a o) ≡ true)
answer-open (Ok u) out next s a o text none h = rw none (line-open out next s (Ok a) a text (h (λ e. cc)) refl)
answer-open (Err r) out next s a o text none h = tt

-- one that answers within an `Ok` was not refused before
pub open-before : (X : Type 0) (s : Status) (tried : Tried) (answer : Result (Unit {0}) Refused) → tried ≡ Ok answer → IfErr s (λ (r : Refused). tried ≡ Err r) → OnErr s X
open-before X (Ok a) tried answer is h = tt
open-before X (Err r) tried answer is h = absurd (cc)
