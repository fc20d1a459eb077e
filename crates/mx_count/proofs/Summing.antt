-- Tallies of entries that are summed up, by addresses and by the tetras of a line.
use Rattle.std.proofs.Common.{◌≡◌, ℕ, Bool, true, false, cond, not, ◌||◌, eqb, ◌<◌, ◌≤◌, ◌+◌, List, [], ◌∷◌, length, drop, get_or, refl, sym, ap, ◌∙◌, arith}
use Rattle.std.proofs.lemmas.Bool.Decides.{nat_tests}
use Rattle.std.proofs.lemmas.List.{at_drop_more, at_drop_all}
use Rattle.std.specs.BTreeMap.{is_at}
use Rattle.std.specs.BTreeSet.{BTreeSet, contains}
use Rattle.std.specs.List.{list_any}
use Rattle.std.specs.Ordering.{nat_cmp}
use Rattle.mx_view.specs.declared.cells.Cell.{Cell}
use Rattle.mx_count.specs.Counting.{kept_tally}
use Rattle.mx_count.specs.InTurn.{AddressTally, no_sums, sum_at, summed, tally_by, unseen_tally, with_entries, with_more, with_seen}
use Rattle.mx_count.specs.Sheets.{is_among, line_tally}
use Rattle.mx_count.specs.Tallies.{nothing, added}
use Rattle.mx_count.specs.declared.counts.Entry.{Entry}
use Rattle.mx_count.specs.declared.tally.Tally.{Tally}
use Rattle.mx_word.proofs.Comparisons.{same-number}
use Rattle.mx_count.proofs.TallyLaws.{nothing-more, nothing-first, added-assoc, moved-second}

-- ---- by addresses

pub more-at : (old : AddressTally) (new : AddressTally) (address : ℕ) (y z : Tally) → z ≡ added (old address) y →
    ((a : ℕ) → new a ≡ cond (eqb address a) z (old a)) → new ≡ with_more old address y
unfolding with_more
more-at old new address y z is set = λ i a. by a (eqb address a) refl i
  where
    by : (a : ℕ) (b : Bool) → b ≡ eqb address a → new a ≡ added (old a) (cond (eqb address a) y nothing)
    by a true e =
        let here : address ≡ a = same-number address a (sym e) in
        set a ∙ ap (λ b. cond b z (old a)) (sym e) ∙ is ∙ ap (λ k. added (old k) y) here ∙ ap (λ b. added (old a) (cond b y nothing)) e
    by a false e = set a ∙ ap (λ b. cond b z (old a)) (sym e) ∙ sym (nothing-more (old a)) ∙ ap (λ b. added (old a) (cond b y nothing)) e

pub seen-before : (seen : Bool) (y here : Tally) → false ≡ not seen → y ≡ added y (cond seen nothing here)
seen-before true y here e = sym (nothing-more y)
seen-before false y here e = absurd (cc)

pub ruleset more = (more-at, seen-before)

none-is : sum_at [] ≡ no_sums
unfolding sum_at no_sums
none-is = refl

pub first-sums : (sums : List (ℕ × Tally)) (es : List Entry) → sums ≡ [] → with_entries no_sums es ≡ with_entries (sum_at sums) es
first-sums sums es e = sym (ap (λ l. with_entries l es) (ap sum_at e ∙ none-is))

pub entries-next : (es : List Entry) (i : ℕ) (d : Entry) (old new whole : AddressTally) → i < length es → new ≡ with_more old (get_or es i d).address (get_or es i d).tally →
    whole ≡ with_entries old (drop i es) → whole ≡ with_entries new (drop (i + 1) es)
unfolding with_entries
entries-next es i d old new whole inside is so = so ∙ at_drop_more (λ l. with_entries old l) es i d inside ∙ ap (λ s. with_entries s (drop (i + 1) es)) (sym is)

pub entries-all : (es : List Entry) (i : ℕ) (sums whole : AddressTally) → length es ≤ i → whole ≡ with_entries sums (drop i es) → sums ≡ whole
unfolding with_entries
entries-all es i sums whole end so = sym (so ∙ at_drop_all (λ l. with_entries sums l) es i end)

pub summed-next : (es : List Entry) (i : ℕ) (d : Entry) (y z whole : Tally) → i < length es → z ≡ added y (get_or es i d).tally →
    whole ≡ summed y (drop i es) → whole ≡ summed z (drop (i + 1) es)
unfolding summed
summed-next es i d y z whole inside is so = so ∙ at_drop_more (λ l. summed y l) es i d inside ∙ ap (λ s. summed s (drop (i + 1) es)) (sym is)

pub summed-all : (es : List Entry) (i : ℕ) (y whole : Tally) → length es ≤ i → whole ≡ summed y (drop i es) → y ≡ whole
unfolding summed
summed-all es i y whole end so = sym (so ∙ at_drop_all (λ l. summed y l) es i end)

summed-is : (y : Tally) (es : List Entry) → summed y es ≡ added y (kept_tally (λ a. true) es)
unfolding summed kept_tally
summed-is y [] = sym (nothing-more y)
summed-is y (e ∷ es) = summed-is (added y e.tally) es ∙ added-assoc y e.tally (kept_tally (λ a. true) es)

pub all-summed : (es : List Entry) → summed nothing es ≡ kept_tally (λ a. true) es
all-summed es = summed-is nothing es ∙ nothing-first (kept_tally (λ a. true) es)

entries-are : (sums : AddressTally) (es : List Entry) (a : ℕ) → with_entries sums es a ≡ added (sums a) (kept_tally (λ b. eqb b a) es)
unfolding with_entries with_more kept_tally
entries-are sums [] a = sym (nothing-more (sums a))
entries-are sums (e ∷ es) a =
    entries-are (with_more sums e.address e.tally) es a ∙ added-assoc (sums a) (cond (eqb e.address a) e.tally nothing) (kept_tally (λ b. eqb b a) es)

sums-are : (es : List Entry) (a : ℕ) → with_entries no_sums es a ≡ kept_tally (λ b. eqb b a) es
unfolding no_sums
sums-are es a = entries-are no_sums es a ∙ nothing-first (kept_tally (λ b. eqb b a) es)

-- ---- by the tetras of a line

same-tests : (old new : ℕ → Bool) (es : List Entry) → ((a : ℕ) → new a ≡ old a) → kept_tally new es ≡ kept_tally old es
same-tests old new es same = λ i. kept_tally (λ a. same a i) es

more-here : (is was : Bool) (t rest here : Tally) → (is ≡ true → was ≡ false) →
    added (cond (is || was) t nothing) (added rest here) ≡ added (added (cond was t nothing) rest) (added (cond is t nothing) here)
more-here true true t rest here f = let e = f refl in absurd (cc)
more-here true false t rest here f = moved-second t rest here
more-here false was t rest here f =
    sym (added-assoc (cond was t nothing) rest here) ∙ ap (added (added (cond was t nothing) rest)) (sym (nothing-first here))

eqb-swap : (a b : ℕ) → eqb a b ≡ eqb b a
eqb-swap a b = grind (arith, nat_tests)

not-there : (old : ℕ → Bool) (c a : ℕ) → old c ≡ false → eqb c a ≡ true → old a ≡ false
not-there old c a e same = ap old (sym (same-number c a same)) ∙ e

-- one more address
more-tally : (old new : ℕ → Bool) (c : ℕ) (es : List Entry) → ((a : ℕ) → new a ≡ (eqb c a || old a)) → old c ≡ false →
    kept_tally new es ≡ added (kept_tally old es) (kept_tally (λ b. eqb b c) es)
unfolding kept_tally
more-tally old new c [] is was = sym (nothing-more nothing)
more-tally old new c (e ∷ es) is was =
    (λ i. added (cond (is e.address i) e.tally nothing) (more-tally old new c es is was i))
    ∙ more-here (eqb c e.address) (old e.address) e.tally (kept_tally old es) (kept_tally (λ b. eqb b c) es) (not-there old c e.address was)
    ∙ ap (λ b. added (added (cond (old e.address) e.tally nothing) (kept_tally old es)) (added (cond b e.tally nothing) (kept_tally (λ b. eqb b c) es))) (eqb-swap c e.address)

either-old : (old : ℕ → Bool) (c a : ℕ) (here : Bool) → here ≡ eqb c a → old c ≡ true → (here || old a) ≡ old a
either-old old c a true e there = sym (ap old (sym (same-number c a (sym e))) ∙ there)
either-old old c a false e there = refl

line-next : (old : ℕ → Bool) (c : ℕ) (es : List Entry) (y here : Tally) → y ≡ kept_tally old es → here ≡ kept_tally (λ b. eqb b c) es →
    added y (cond (old c) nothing here) ≡ kept_tally (with_seen old c) es
unfolding with_seen
line-next old c es y here was this = by (old c) refl
  where
    by : (b : Bool) → b ≡ old c → added y (cond (old c) nothing here) ≡ kept_tally (with_seen old c) es
    by true e =
        ap (λ b. added y (cond b nothing here)) (sym e) ∙ nothing-more y ∙ was
        ∙ sym (same-tests old (with_seen old c) es (λ a. either-old old c a (eqb c a) refl (sym e)))
    by false e =
        ap (λ b. added y (cond b nothing here)) (sym e) ∙ (λ i. added (was i) (this i))
        ∙ sym (more-tally old (with_seen old c) c es (λ a. refl) (sym e))

none-tally : (es : List Entry) → kept_tally (λ a. false) es ≡ nothing
unfolding kept_tally
none-tally [] = refl
none-tally (e ∷ es) = nothing-first (kept_tally (λ a. false) es) ∙ none-tally es

or-none : (b : Bool) → b ≡ (b || false)
or-none true = refl
or-none false = refl

or-moved : (a b c : Bool) → ((a || b) || c) ≡ (b || (a || c))
or-moved true true c = refl
or-moved true false c = refl
or-moved false true c = refl
or-moved false false c = refl

unseen-is : (sums : AddressTally) (es : List Entry) (seen : ℕ → Bool) (y : Tally) (cells : List Cell) → ((a : ℕ) → sums a ≡ kept_tally (λ b. eqb b a) es) → y ≡ kept_tally seen es →
    unseen_tally sums seen y cells ≡ kept_tally (λ a. seen a || is_among cells a) es
unfolding unseen_tally with_seen is_among
unseen-is sums es seen y [] is was = was ∙ sym (same-tests seen (λ a. seen a || false) es (λ a. sym (or-none (seen a))))
unseen-is sums es seen y (c ∷ cells) is was =
    unseen-is sums es (with_seen seen c.address) (added y (cond (seen c.address) nothing (sums c.address))) cells is
    (line-next seen c.address es y (sums c.address) was (is c.address))
    ∙ same-tests (λ a. seen a || (eqb c.address a || is_among cells a)) (λ a. with_seen seen c.address a || is_among cells a) es
    (λ a. or-moved (eqb c.address a) (seen a) (is_among cells a))

pub line-is : (es : List Entry) → tally_by (with_entries no_sums es) ≡ line_tally (λ test. kept_tally test es)
line-is es = λ i cells. unseen-is (with_entries no_sums es) es (λ a. false) nothing cells (sums-are es) (sym (none-tally es)) i

pub none-seen : (seen : BTreeSet ℕ) (sums : AddressTally) (y : Tally) (cells : List Cell) → seen.keys ≡ [] → y ≡ nothing →
    tally_by sums cells ≡ unseen_tally sums (contains nat_cmp seen) y cells
none-seen seen sums y cells e is =
    sym (λ i. unseen_tally sums (ap (λ keys (a : ℕ). list_any (is_at (nat_cmp a)) keys) e i) (is i) cells)

pub unseen-next : (cells : List Cell) (i : ℕ) (d : Cell) (sums : AddressTally) (old new : ℕ → Bool) (y z whole : Tally) → i < length cells →
    z ≡ added y (cond (old (get_or cells i d).address) nothing (sums (get_or cells i d).address)) → new ≡ with_seen old (get_or cells i d).address →
    whole ≡ unseen_tally sums old y (drop i cells) → whole ≡ unseen_tally sums new z (drop (i + 1) cells)
unfolding unseen_tally
unseen-next cells i d sums old new y z whole inside is seen so =
    so ∙ at_drop_more (λ l. unseen_tally sums old y l) cells i d inside ∙ (λ j. unseen_tally sums (sym seen j) (sym is j) (drop (i + 1) cells))

pub unseen-all : (cells : List Cell) (i : ℕ) (sums : AddressTally) (seen : ℕ → Bool) (y whole : Tally) → length cells ≤ i →
    whole ≡ unseen_tally sums seen y (drop i cells) → y ≡ whole
unfolding unseen_tally
unseen-all cells i sums seen y whole end so = sym (so ∙ at_drop_all (λ l. unseen_tally sums seen y l) cells i end)
