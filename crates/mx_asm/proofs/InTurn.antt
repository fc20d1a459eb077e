-- Lines that an assembler has taken, one line more, and the items of all of them.
use Rattle.std.proofs.Common.{◌≡◌, ℕ, Bool, cond, List, [], ◌∷◌, ◌++◌, fold, Option, None, Some, Ok, Err, refl, ap, sym, ◌∙◌, append_assoc, append-nil, rules, map, arith}
use Rattle.mx_asm.proofs.Words.{result_err, fold-append, Item, Refused, Wait, AsmFault, Entry, statements_in, source_entries, Sight, final_known, opening, emission, padded_trie, first_fault, refusal, Assembly, Status, Taken, Progress, Ended, beginning, after_entry, and_entries, entries_taken, line_unless, with_opening, line_following, ended_main, ended_waits, ended, end_following, GrowsAlike, Line, accepted, accepted_with, entries_items, assembled_with, assembled_lines, assembled_source, line_after, lines_items, lines_taken, HasTaken, Known, StatementTree, refusal_in, nothing_known, known_after, sights_from, sights_of, first_head, items_from, front, lines_entries, lines_refusal}
use Rattle.mx_asm.proofs.OnePassLaw.{items-are, refusal-is}
use Rattle.mx_asm.proofs.EndLaw.{both-none, whole-is}
use Rattle.mx_asm.specs.Whole.{accepted_in}

-- ---- lines that an assembler has taken, and one line more

-- ---- what was added before makes no difference

abbrev pub after_items : {X : Type 0} → List Item → List Item × X → List Item × X
after_items out p = (out ++ p.0, p.1)

entry-after : (out front : List Item) (t : Taken) → after_entry (out ++ front) t ≡ after_items out (after_entry front t)
entry-after out front t = grind (arith, append_assoc)

and-after : (more : List Item → Assembly → Progress) (out : List Item) → ((front : List Item) (a : Assembly) → more (out ++ front) a ≡ after_items out (more front a)) →
    (p : Progress) → and_entries more (after_items out p) ≡ after_items out (and_entries more p)
and-after more out h p = search rules

entries-after : (entries : List Entry) (out front : List Item) (a : Assembly) → entries_taken entries (out ++ front) a ≡ after_items out (entries_taken entries front a)
unfolding entries_taken
entries-after [] out front a = refl
entries-after (e ∷ entries) out front a = search (rules, entry-after, and-after, entries-after entries out)

unless-after : (f : Option Refused) (out front : List Item) (a : Assembly) (text : List ℕ) → line_unless f (out ++ front) a text ≡ after_items out (line_unless f front a text)
unless-after f out front a text = search (rules, entries-after)

opening-after : (b : Bool) (out : List Item) → with_opening b out ≡ out ++ with_opening b []
opening-after b out = search (rules, append-nil)

pub line-following : (out : List Item) (a : Status) (text : List ℕ) → line_following out a text ≡ after_items out (line_following [] a text)
line-following out a text = search (rules, append-nil, opening-after, unless-after)

trie-after : (long : Bool) (out front more : List Item) (r : Refused) (trie : List ℕ) →
    cond {A = Ended} long (out ++ front, Err r) (out ++ front ++ more, Ok trie) ≡ after_items out (cond {A = Ended} long (front, Err r) (front ++ more, Ok trie))
trie-after long out front more r trie = grind (arith, append_assoc)

main-after : (f : Option AsmFault) (out front : List Item) (a : Assembly) → ended_main (out ++ front) a f ≡ after_items out (ended_main front a f)
main-after f out front a = search (rules, trie-after)

waits-after : (w : Option Wait) (out front : List Item) (a : Assembly) → ended_waits (out ++ front) a w ≡ after_items out (ended_waits front a w)
waits-after w out front a = search (rules, main-after)

end-following : (out : List Item) (a : Status) → end_following out a ≡ after_items out (end_following [] a)
end-following out a = search (rules, append-nil, opening-after, waits-after)

-- ---- lines that were taken

pub taken-at : (lines : List Line) (a : Status) → a ≡ (lines_taken lines).1 → HasTaken lines a
taken-at lines a is = record { taken = is; refusal = ap result_err is ∙ refusal-is lines }

taken-so : (lines : List Line) (a : Status) → HasTaken lines a → (lines_items lines, a) ≡ lines_taken lines
taken-so lines a h = λ i. (sym (items-are lines) i, h.taken i)

pub none-taken : HasTaken [] (Ok beginning)
none-taken = taken-at [] (Ok beginning) refl

-- one line more
more-taken : (lines : List Line) (text : Line) (a : Status) → HasTaken lines a → lines_taken (lines ++ text ∷ []) ≡ after_items (lines_items lines) (line_following [] a text)
more-taken lines text a h = search (rules, fold-append, taken-so, line-following)

pub line-taken : (lines : List Line) (text : Line) (out next : List Item) (a b : Status) → (next, b) ≡ line_following out a text → HasTaken lines a → HasTaken (lines ++ text ∷ []) b
line-taken lines text out next a b is h =
    taken-at (lines ++ text ∷ []) b (ap (λ (p : Progress). p.1) (is ∙ line-following out a text) ∙ sym (ap (λ (p : Progress). p.1) (more-taken lines text a h)))

pub line-grows : (lines : List Line) (text : Line) (out next : List Item) (a b : Status) → (next, b) ≡ line_following out a text → HasTaken lines a →
    GrowsAlike (lines_items lines) (lines_items (lines ++ text ∷ [])) out next
line-grows lines text out next a b is h = search (rules, items-are, more-taken, line-following)

-- after a refusal nothing is taken
pub refusal-stays : (lines : List Line) (out : List Item) (refused : Refused) → fold line_after (out, Err refused) lines ≡ (out, Err refused)
refusal-stays [] out refused = refl
refusal-stays (line ∷ lines) out refused = refusal-stays lines out refused

pub refusal-lasts : (lines later : List Line) (refused : Refused) → HasTaken lines (Err refused) → lines_taken (lines ++ later) ≡ (lines_items lines, Err refused)
refusal-lasts lines later refused h = search (rules, fold-append, taken-so, refusal-stays)

-- the end
whole-taken : (lines : List Line) (a : Status) → HasTaken lines a → assembled_lines lines ≡ after_items (lines_items lines) (end_following [] a)
whole-taken lines a h = sym (whole-is lines) ∙ ap (λ (p : Progress). end_following p.0 p.1) (sym (taken-so lines a h)) ∙ end-following (lines_items lines) a

pub end-taken : (lines : List Line) (out : List Item) (a : Status) (ended : Ended) → ended ≡ end_following out a → HasTaken lines a → ended.1 ≡ (assembled_lines lines).1
end-taken lines out a ended is h = ap (λ (p : Ended). p.1) (is ∙ end-following out a) ∙ sym (ap (λ (p : Ended). p.1) (whole-taken lines a h))

pub end-grows : (lines : List Line) (out : List Item) (a : Status) (ended : Ended) → ended ≡ end_following out a → HasTaken lines a →
    GrowsAlike (lines_items lines) (assembled_lines lines).0 out ended.0
end-grows lines out a ended h1 h2 = search (rules, whole-taken, end-following)

-- the same of what is defined
pub one-more-taken : (lines : List Line) (text : Line) (out : List Item) (a : Status) → HasTaken lines a → HasTaken (lines ++ text ∷ []) (line_following out a text).1
one-more-taken lines text out a h = line-taken lines text out (line_following out a text).0 a (line_following out a text).1 refl h

pub one-more-grows : (lines : List Line) (text : Line) (out : List Item) (a : Status) → HasTaken lines a →
    GrowsAlike (lines_items lines) (lines_items (lines ++ text ∷ [])) out (line_following out a text).0
one-more-grows lines text out a h = line-grows lines text out (line_following out a text).0 a (line_following out a text).1 refl h

pub taken-ends : (lines : List Line) (out : List Item) (a : Status) → HasTaken lines a → (end_following out a).1 ≡ (assembled_lines lines).1
taken-ends lines out a h = end-taken lines out a (end_following out a) refl h

pub taken-grows : (lines : List Line) (out : List Item) (a : Status) → HasTaken lines a → GrowsAlike (lines_items lines) (assembled_lines lines).0 out (end_following out a).0
taken-grows lines out a h = end-grows lines out a (end_following out a) refl h

-- ---- a source

pub all-accepted : (later before : List Sight) → first_fault before later ≡ None → accepted before later ≡ later
unfolding accepted first_fault
all-accepted [] before none = refl
all-accepted (s ∷ later) before none = grind (arith, both-none, all-accepted later (before ++ s ∷ []))

pub source-accepted : (source : List ℕ) → refusal source ≡ None →
    assembled_source source ≡ (emission (statements_in (source_entries source)), Ok (padded_trie (final_known (statements_in (source_entries source))).names))
source-accepted source none = search (rules, both-none, all-accepted)

pub source-refused : (source : List ℕ) (r : Refused) → refusal source ≡ Some r → assembled_source source ≡ (opening ++ entries_items (source_entries source), Err r)
source-refused source r is = ap (assembled_with (statements_in (source_entries source)) (entries_items (source_entries source))) is

pub ruleset turns = (none-taken, one-more-taken)

-- ---- the items of lines are the front of an object of the statements before the first refusal

abbrev statement_of : Sight → StatementTree
statement_of s = s.statement

with-sights : (fault : Option Refused) (k : Known) (st : StatementTree) (next : List Sight) → sights_from (known_after k st) (map statement_of next) ≡ next →
    sights_from k (map statement_of (accepted_with fault (record { known = k; statement = st }) next)) ≡ accepted_with fault (record { known = k; statement = st }) next
unfolding sights_from
with-sights fault k st next h = search rules

accepted-sights : (statements : List StatementTree) (k : Known) (before : List Sight) → sights_from k (map statement_of (accepted before (sights_from k statements))) ≡ accepted before (sights_from k statements)
unfolding sights_from accepted
accepted-sights [] k before = refl
accepted-sights (st ∷ statements) k before = simp (with-sights, accepted-sights statements (known_after k st))

statements-of : (statements : List StatementTree) (k : Known) → map statement_of (sights_from k statements) ≡ statements
unfolding sights_from
statements-of [] k = refl
statements-of (st ∷ statements) k = ap (λ ss. st ∷ ss) (statements-of statements (known_after k st))

pub items-are-front : (line : Line) (lines : List Line) → lines_items (line ∷ lines) ≡ front (accepted_in (lines_entries (line ∷ lines)))
items-are-front line lines = ap (λ ss. opening ++ items_from first_head [] ss) (sym (accepted-sights (statements_in (lines_entries (line ∷ lines))) nothing_known []))

pub all-statements : (lines : List Line) → lines_refusal lines ≡ None → accepted_in (lines_entries lines) ≡ statements_in (lines_entries lines)
all-statements lines none =
    let statements = statements_in (lines_entries lines) in
    ap (map statement_of) (all-accepted (sights_of statements) [] (both-none (first_fault [] (sights_of statements)) (refusal_in (lines_entries lines)) none).0)
    ∙ statements-of statements nothing_known

pub source-front : (source : List ℕ) (r : Refused) → refusal source ≡ Some r → assembled_source source ≡ (front (accepted_in (source_entries source)), Err r)
source-front source r is = search (rules, source-refused, accepted-sights)

pub ruleset front_laws = (items-are, refusal-is, items-are-front, all-statements)
