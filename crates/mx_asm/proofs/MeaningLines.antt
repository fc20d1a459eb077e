-- Where pages are full, line by line.
use Rattle.std.proofs.Common.{◌≡◌, ℕ, ◌+◌, ◌-◌, ◌^◌, ◌≤◌, List, [], ◌∷◌, ◌++◌, length, map, Bool, true, false, cond, nat_lt, arith, refl, sym, ◌∙◌, ap, subst, Option, Some, None, Result, Ok, Err, append_assoc, append-nil, sum_by, rules}
use Rattle.mx_asm.proofs.Words.{cond_both, AllByRecursion, take-append-le, LineFault, Cut, is_too_far, cuts_from, statement, faulty, too_far, item_of, before, items_of, Meaningless, PagesFull, Known, StatementTree, Refused, Entry, entry_of, entries_of, statements_in, Sight, known_after, sights_from, statement_fault, Line, accepted, accepted_with, lines_entries, outlined, has_room, page_fault, page_refusal_from, page_refusal, accepted_in, nat_tests}
use Rattle.mx_line.specs.Source.{Item, items_from}
use Rattle.mx_asm.proofs.MeaningLaws.{no-room}
use Rattle.mx_stab.proofs.Orders.{all-both as all-append}

-- ---- the items of lines

before-both : (a b c : List Item) → before (before a b) c ≡ before a (before b c)
before-both (statement line label op operands ∷ items) b c = ap (λ is. statement line label op operands ∷ is) (before-both items b c)
before-both a b c = refl

items-split : (all : List Line) (n : ℕ) (us vs : List Line) → items_from all n (us ++ vs) ≡ before (items_from all n us) (items_from all (n + length us) vs)
unfolding items_from
items-split all n [] vs = ap (λ k. items_from all k vs) (omega arith)
items-split all n (u ∷ us) vs = search (rules, before-both, items-split all (n + 1) us vs)

-- later lines do not make a line too far
far-same : (xs ys : List Line) (i : ℕ) → i ≤ length xs → is_too_far (xs ++ ys) i ≡ is_too_far xs i
far-same xs ys i l = ap (λ t. nat_lt (2 ^ 22) (sum_by length t + (i - 1))) (take-append-le i xs ys l)

items-same : (xs ys : List Line) (n : ℕ) (us : List Line) → n + length us ≤ length xs + 1 → items_from (xs ++ ys) n us ≡ items_from xs n us
unfolding items_from
items-same xs ys n [] l = refl
items-same xs ys n (u ∷ us) l = grind (arith, far-same, items-same xs ys (n + 1) us (omega (arith, l)))

-- ---- the statements of lines

-- what statements come after an entry, and after those of items
abbrev following : Entry → List StatementTree → List StatementTree
following (Err refused) rest = []
following (Ok s) rest = rest

abbrev continued : List Item → List StatementTree → List StatementTree
continued [] more = more
continued (statement line label op operands ∷ items) more = following (entry_of (statement line label op operands)) (continued items more)
continued (faulty line why ∷ items) more = []
continued (too_far line ∷ items) more = []

statements-split : (a b : List Item) → statements_in (entries_of (before a b)) ≡ statements_in (entries_of a) ++ continued a (statements_in (entries_of b))
statements-split (statement line label op operands ∷ items) b = search (rules, statements-split items b)
statements-split a b = refl

module _ (P : StatementTree → Type 0) where
  continued-all : (a : List Item) (more : List StatementTree) → AllByRecursion P more → AllByRecursion P (continued a more)
  continued-all [] more h = h
  continued-all (statement line label op operands ∷ items) more h = grind (arith, continued-all items more h)
  continued-all a more h = tt

  -- the statements of these that are accepted
  accepted-holds : (statements : List StatementTree) (k : Known) (earlier : List Sight) → AllByRecursion P statements → AllByRecursion (λ (s : Sight). P s.statement) (accepted earlier (sights_from k statements))
  unfolding sights_from accepted
  accepted-holds [] k earlier h = tt
  accepted-holds (st ∷ statements) k earlier h = grind (arith, accepted-holds statements (known_after k st) (earlier ++ record { known = k; statement = st } ∷ []) h.1)

  -- the accepted ones of more statements are those of the first, and others after them
  record IsLonger (front whole : List Sight) : Type 0 where
    tail : List Sight
    more : whole ≡ front ++ tail
    hold : AllByRecursion (λ (s : Sight). P s.statement) tail

  accepted-longer : (xs ys : List StatementTree) (k : Known) (earlier : List Sight) → AllByRecursion P ys → IsLonger (accepted earlier (sights_from k xs)) (accepted earlier (sights_from k (xs ++ ys)))
  unfolding sights_from accepted
  accepted-longer [] ys k earlier h = record { tail = accepted earlier (sights_from k ys); more = refl; hold = accepted-holds ys k earlier h }
  accepted-longer (st ∷ xs) ys k earlier h = by (statement_fault earlier t) (accepted-longer xs ys (known_after k st) (earlier ++ t ∷ []) h)
    where
      t : Sight
      t = record { known = k; statement = st }

      by : (r : Option Refused) → IsLonger (accepted (earlier ++ t ∷ []) (sights_from (known_after k st) xs)) (accepted (earlier ++ t ∷ []) (sights_from (known_after k st) (xs ++ ys))) →
          IsLonger (accepted_with r t (accepted (earlier ++ t ∷ []) (sights_from (known_after k st) xs))) (accepted_with r t (accepted (earlier ++ t ∷ []) (sights_from (known_after k st) (xs ++ ys))))
      by (Some refused) rest = record { tail = []; more = refl; hold = tt }
      by None rest = record { tail = rest.tail; more = ap (λ ss. t ∷ ss) rest.more; hold = rest.hold }

  lines-longer : (us vs : List Line) → AllByRecursion P (statements_in (entries_of (items_from (us ++ vs) (1 + length us) vs))) → IsLonger (accepted_in (lines_entries us)) (accepted_in (lines_entries (us ++ vs)))
  lines-longer us vs h = grind (arith, items-split, items-same, statements-split, accepted-longer, continued-all)

-- ---- the lines of statements

abbrev IsAt : ℕ → StatementTree → Type 0
IsAt line s = s.line ≡ line

cuts-at : (n : ℕ) (line : List ℕ) (rs : List (Result Cut LineFault)) → AllByRecursion (IsAt n) (statements_in (entries_of (map (item_of n line) rs)))
cuts-at n line [] = tt
cuts-at n line (r ∷ rs) = grind (arith, nat_tests, cuts-at n line rs)

one-line : (all : List Line) (n : ℕ) (line : Line) → AllByRecursion (IsAt n) (statements_in (entries_of (items_from all n (line ∷ []))))
unfolding items_from
one-line all n line = cond_both (is_too_far all n) _ _ (λ x. AllByRecursion (IsAt n) (statements_in (entries_of x)))
    (λ _. tt)
    (λ _.
    subst (AllByRecursion (IsAt n)) (sym (statements-split (items_of n line) []))
    (all-append (IsAt n) (statements_in (entries_of (items_of n line))) (continued (items_of n line) []) (cuts-at n line (cuts_from line 0)) (continued-all (IsAt n) (items_of n line) [] tt)))

-- ---- pages

room-before : (xs ys : List Sight) → has_room (outlined (xs ++ ys)) ≡ true → has_room (outlined xs) ≡ true
room-before xs ys h = search (rules, no-room)

refusal-after : (front earlier later : List Sight) → has_room (outlined (earlier ++ front)) ≡ true → page_refusal_from earlier (front ++ later) ≡ page_refusal_from (earlier ++ front) later
unfolding page_refusal_from
refusal-after [] earlier later room = ap (λ ss. page_refusal_from ss later) (sym (append-nil earlier))
refusal-after (s ∷ front) earlier later room = grind (arith, append_assoc, room-before, refusal-after front (earlier ++ s ∷ []) later)

refusal-at : (n : ℕ) (front earlier later : List Sight) → AllByRecursion (λ (s : Sight). s.statement.line ≡ n) front → has_room (outlined earlier) ≡ true → has_room (outlined (earlier ++ front)) ≡ false →
    page_refusal_from earlier (front ++ later) ≡ Some n
unfolding page_refusal_from
refusal-at n [] earlier later at room none = let wrong : true ≡ false = sym room ∙ ap (λ ss. has_room (outlined ss)) (sym (append-nil earlier)) ∙ none in absurd (cc)
refusal-at n (s ∷ front) earlier later at room none = grind (arith, append_assoc, refusal-at n front (earlier ++ s ∷ []) later at.1)

room-by : (b : Bool) → ◌≡◌ {A = Option Meaningless} (cond b None (Some PagesFull)) None → b ≡ true
room-by b h = grind (arith, nat_tests)

full-by : (b : Bool) → ◌≡◌ {A = Option Meaningless} (cond b None (Some PagesFull)) (Some PagesFull) → b ≡ false
full-by b h = grind (arith, nat_tests)

Any : StatementTree → Type 0
Any s = Unit {0}

any-all : (ss : List StatementTree) → AllByRecursion Any ss
unfolding Any
any-all [] = tt
any-all (s ∷ ss) = (tt, any-all ss)

-- where the pages of these lines are few, and those of a line more are not, this is the line
pub line-is-refused : (lines later : List Line) (line : Line) → page_fault (accepted_in (lines_entries lines)) ≡ None → page_fault (accepted_in (lines_entries (lines ++ line ∷ []))) ≡ Some PagesFull →
    page_refusal (accepted_in (lines_entries (lines ++ line ∷ later))) ≡ Some (length lines + 1)
line-is-refused lines later line some full =
    let n : ℕ = 1 + length lines in
    let front : List Sight = accepted_in (lines_entries lines) in
    let one = lines-longer (IsAt n) lines (line ∷ []) (one-line (lines ++ line ∷ []) n line) in
    let more = lines-longer Any (lines ++ line ∷ []) later (any-all _) in
    let room = room-by (has_room (outlined front)) some in
    let none = sym (ap (λ ss. has_room (outlined ss)) one.more) ∙ full-by (has_room (outlined (accepted_in (lines_entries (lines ++ line ∷ []))))) full in
    let whole : accepted_in (lines_entries (lines ++ line ∷ later)) ≡ front ++ (one.tail ++ more.tail) =
    ap (λ ls. accepted_in (lines_entries ls)) (sym (append_assoc lines (line ∷ []) later)) ∙ more.more ∙ ap (λ ss. ss ++ more.tail) one.more ∙ append_assoc front one.tail more.tail in
    ap page_refusal whole
    ∙ refusal-after front [] (one.tail ++ more.tail) room
    ∙ refusal-at n one.tail front more.tail one.hold room none
    ∙ ap Some (let turned : n ≡ length lines + 1 = omega arith in turned)
