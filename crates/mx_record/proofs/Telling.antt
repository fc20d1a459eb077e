-- Changes that are noted place by place.
use Rattle.std.proofs.lemmas.Bool.{cases_lt}
use Rattle.std.proofs.Common.{◌≡◌, ◌≤◌, ◌<◌, ◌⊎◌, inl, inr, ℕ, ◌+◌, ◌==◌, ◌&&◌, ◌||◌, nat_lt, not, Bool, true, false, cond, List, [], ◌∷◌, ◌++◌, arith, refl, sym, ◌∙◌, ap, bit_xor}
use Rattle.std.proofs.lemmas.Bool.Decides.{nat_tests}
use Rattle.std.specs.Int.Bits.{xor_assoc, xor_self, xor_zero_l, xor_zero_r}
use Rattle.mx_record.specs.Following.{Tells, TellsAll, TellsWithin, is_between}
use Rattle.mx_record.specs.Records.{difference, noted}
use Rattle.mx_record.specs.declared.changes.Change.{Change}

-- ONE MORE CHANGE

abbrev at-place : ℕ → ℕ → ℕ → ℕ
at-place q at by = cond (q == at) by 0

pushed-by : (b c : Bool) (x y d : ℕ) → cond b (bit_xor x (bit_xor d (cond c y 0))) (bit_xor d (cond c y 0)) ≡ bit_xor (cond b (bit_xor x d) d) (cond c y 0)
pushed-by true c x y d = sym (xor_assoc x d (cond c y 0))
pushed-by false c x y d = refl

last-by : (b : Bool) (x : ℕ) → cond b (bit_xor x 0) 0 ≡ bit_xor 0 (cond b x 0)
last-by true x = xor_zero_r x ∙ sym (xor_zero_l x)
last-by false x = refl

difference-pushed : (changes : List Change) (c : Change) (q : ℕ) → difference (changes ++ c ∷ []) q ≡ bit_xor (difference changes q) (at-place q c.at c.by)
unfolding difference
difference-pushed [] c q = last-by (q == c.at) c.by
difference-pushed (d ∷ changes) c q =
    ap (λ x. cond (q == d.at) (bit_xor d.by x) x) (difference-pushed changes c q) ∙ pushed-by (q == d.at) (q == c.at) d.by c.by (difference changes q)

none-by : (b : Bool) (d : ℕ) → d ≡ bit_xor d (cond b 0 0)
none-by true d = sym (xor_zero_r d)
none-by false d = sym (xor_zero_r d)

same-xor : (x y : ℕ) → (x == y) ≡ true → bit_xor x y ≡ 0
same-xor x y e = let same : x ≡ y = grind (arith, nat_tests) in ap (bit_xor x) (sym same) ∙ xor_self x

noted-if : (b : Bool) (changes : List Change) (at old new q : ℕ) → (old == new) ≡ b → difference (cond b changes (changes ++ record { at = at; by = bit_xor old new } ∷ [])) q ≡ bit_xor (difference changes q) (at-place q at (bit_xor old new))
noted-if true changes at old new q e = none-by (q == at) (difference changes q) ∙ ap (λ x. bit_xor (difference changes q) (at-place q at x)) (sym (same-xor old new e))
noted-if false changes at old new q e = difference-pushed changes (record { at = at; by = bit_xor old new }) q

pub difference-noted : (changes : List Change) (at old new q : ℕ) → difference (noted changes at old new) q ≡ bit_xor (difference changes q) (at-place q at (bit_xor old new))
difference-noted changes at old new q = noted-if (old == new) changes at old new q refl

-- PLACES WITHIN

abbrev WithinAt : List Change → (ℕ → ℕ) → (ℕ → ℕ) → (ℕ → Bool) → Type 0
WithinAt changes old new within = (q : ℕ) → difference changes q ≡ cond (within q) (bit_xor (old q) (new q)) 0

abbrev BetweenAt : List Change → (ℕ → ℕ) → (ℕ → ℕ) → ℕ → ℕ → Type 0
BetweenAt changes old new from to = WithinAt changes old new (is_between from to)

abbrev AllAt : List Change → (ℕ → ℕ) → (ℕ → ℕ) → Type 0
AllAt changes old new = (q : ℕ) → difference changes q ≡ bit_xor (old q) (new q)

-- a place that was not within, or had the same octa before and after
within-by : (b c d : Bool) (x : ℕ) → (b ≡ true → c ≡ false) → (b ≡ true → d ≡ true) → (b ≡ false → d ≡ c) → bit_xor (cond c x 0) (cond b x 0) ≡ cond d x 0
within-by true c d x f g h = rw (f refl, g refl) (xor_zero_l x)
within-by false c d x f g h = rw (h refl) (xor_zero_r (cond c x 0))

at-same : (old new : ℕ → ℕ) (q at : ℕ) → at-place q at (bit_xor (old at) (new at)) ≡ at-place q at (bit_xor (old q) (new q))
at-same old new q at = by (q == at) refl
  where
    by : (b : Bool) → (q == at) ≡ b → cond b (bit_xor (old at) (new at)) 0 ≡ cond b (bit_xor (old q) (new q)) 0
    by true e = let same : q ≡ at = grind (arith, nat_tests) in ap (λ k. bit_xor (old k) (new k)) (sym same)
    by false e = refl

tells-noted-at : (changes later : List Change) (old new : ℕ → ℕ) (from at : ℕ) → BetweenAt changes old new from at → from ≤ at → later ≡ noted changes at (old at) (new at) → BetweenAt later old new from (at + 1)
tells-noted-at changes later old new from at h l e q =
    ap (λ x. difference x q) e
    ∙ difference-noted changes at (old at) (new at) q
    ∙ ap (λ x. bit_xor x (at-place q at (bit_xor (old at) (new at)))) (h q)
    ∙ ap (bit_xor (cond (is_between from at q) (bit_xor (old q) (new q)) 0)) (at-same old new q at)
    ∙ within-by (q == at) (is_between from at q) (is_between from (at + 1) q) (bit_xor (old q) (new q)) (λ b. grind (arith, nat_tests)) (λ b. grind (arith, nat_tests)) (λ b. grind (arith, nat_tests))

tells-none-at : (changes : List Change) (old new : ℕ → ℕ) (from : ℕ) → changes ≡ [] → BetweenAt changes old new from from
unfolding difference
tells-none-at changes old new from e q = ap (λ x. difference x q) e ∙ by (is_between from from q) (grind (arith, nat_tests))
  where
    by : (b : Bool) → b ≡ false → 0 ≡ cond b (bit_xor (old q) (new q)) 0
    by true e = absurd (cc)
    by false e = refl

same-none : (x y : ℕ) → x ≡ y → 0 ≡ bit_xor x y
same-none x y e = sym (ap (bit_xor x) (sym e) ∙ xor_self x)

tells-all-at : (changes : List Change) (old new : ℕ → ℕ) (from to : ℕ) → BetweenAt changes old new from to → ((q : ℕ) → q < from → old q ≡ new q) → ((q : ℕ) → to ≤ q → old q ≡ new q) → AllAt changes old new
tells-all-at changes old new from to h below above q = h q ∙ by (is_between from to q) refl
  where
    by : (b : Bool) → is_between from to q ≡ b → cond b (bit_xor (old q) (new q)) 0 ≡ bit_xor (old q) (new q)
    by true e = refl
    by false e = same-none (old q) (new q) (grind (arith, nat_tests, below, above))

-- one place, and none other
tells-one-at : (changes : List Change) (old new : ℕ → ℕ) (k : ℕ) → changes ≡ noted [] k (old k) (new k) → ((q : ℕ) → (q == k) ≡ false → new q ≡ old q) → AllAt changes old new
unfolding difference
tells-one-at changes old new k e same q =
    ap (λ x. difference x q) e ∙ difference-noted [] k (old k) (new k) q ∙ xor_zero_l _ ∙ at-same old new q k ∙ by (q == k) refl
  where
    by : (b : Bool) → (q == k) ≡ b → cond b (bit_xor (old q) (new q)) 0 ≡ bit_xor (old q) (new q)
    by true f = refl
    by false f = same-none (old q) (new q) (sym (same q f))

tells-nothing-at : (changes : List Change) (old new : ℕ → ℕ) → changes ≡ [] → ((q : ℕ) → new q ≡ old q) → AllAt changes old new
unfolding difference
tells-nothing-at changes old new e same q = ap (λ x. difference x q) e ∙ same-none (old q) (new q) (sym (same q))

-- OCTAS THAT ARE SEARCHED FOR

-- those below n that were not 0, and those that were not 0 or are below n
abbrev pub old-below : (ℕ → ℕ) → ℕ → ℕ → Bool
old-below old n q = not (old q == 0) && nat_lt q n

abbrev pub old-or-below : (ℕ → ℕ) → ℕ → ℕ → Bool
old-or-below old n q = not (old q == 0) || nat_lt q n

-- all are 0 from one up to another
abbrev pub Zeros : (ℕ → ℕ) → ℕ → ℕ → Type 0
Zeros octas from to = (q : ℕ) → from ≤ q → q < to → octas q ≡ 0

noted-at : (changes later : List Change) (old new : ℕ → ℕ) (within : ℕ → Bool) (k q : ℕ) → WithinAt changes old new within → later ≡ noted changes k (old k) (new k) →
    difference later q ≡ bit_xor (cond (within q) (bit_xor (old q) (new q)) 0) (at-place q k (bit_xor (old q) (new q)))
noted-at changes later old new within k q h e =
    ap (λ x. difference x q) e
    ∙ difference-noted changes k (old k) (new k) q
    ∙ ap (λ x. bit_xor x (at-place q k (bit_xor (old k) (new k)))) (h q)
    ∙ ap (bit_xor (cond (within q) (bit_xor (old q) (new q)) 0)) (at-same old new q k)

both-zero : (x y : ℕ) → x ≡ 0 → y ≡ 0 → bit_xor x y ≡ 0
both-zero x y e f = ap (λ z. bit_xor z y) e ∙ xor_zero_l y ∙ f

old-noted-at : (changes later : List Change) (old new : ℕ → ℕ) (n k : ℕ) → WithinAt changes old new (old-below old n) → n ≤ k → Zeros old n k → (old k ≡ 0 → new k ≡ 0) → later ≡ noted changes k (old k) (new k) → WithinAt later old new (old-below old (k + 1))
old-noted-at changes later old new n k h l zeros none e q = noted-at changes later old new (old-below old n) k q h e ∙ by (old q == 0) refl
  where
    x : ℕ
    x = bit_xor (old q) (new q)

    zero-at : (b : Bool) → (q == k) ≡ b → old q ≡ 0 → bit_xor 0 (cond b x 0) ≡ 0
    zero-at true f g =
        let same : q ≡ k = grind (arith, nat_tests) in
        xor_zero_l x ∙ both-zero (old q) (new q) g (ap new same ∙ none (ap old (sym same) ∙ g))
    zero-at false f g = refl

    by : (z : Bool) → (old q == 0) ≡ z → bit_xor (cond (not z && nat_lt q n) x 0) (cond (q == k) x 0) ≡ cond (not z && nat_lt q (k + 1)) x 0
    by true f = zero-at (q == k) refl (grind (arith, nat_tests))
    by false f =
        within-by (q == k) (nat_lt q n) (nat_lt q (k + 1)) x (λ b. grind (arith, nat_tests)) (λ b. grind (arith, nat_tests)) (λ b. between (cases_lt q n) b)
      where
        between : (q < n) ⊎ (n ≤ q) → (q == k) ≡ false → nat_lt q (k + 1) ≡ nat_lt q n
        between (inl m) b = grind (arith, nat_tests)
        between (inr m) b = above (cases_lt q k) m b
          where
            above : (q < k) ⊎ (k ≤ q) → n ≤ q → (q == k) ≡ false → nat_lt q (k + 1) ≡ nat_lt q n
            above (inl o) m b = absurd (let g = zeros q m o in grind (arith, nat_tests))
            above (inr o) m b = grind (arith, nat_tests)

-- no more of them
old-done-at : (changes : List Change) (old new : ℕ → ℕ) (n : ℕ) → WithinAt changes old new (old-below old n) → ((q : ℕ) → n ≤ q → old q ≡ 0) → WithinAt changes old new (λ q. not (old q == 0))
old-done-at changes old new n h zeros q = h q ∙ by (old q == 0) refl
  where
    by : (z : Bool) → (old q == 0) ≡ z → cond (not z && nat_lt q n) (bit_xor (old q) (new q)) 0 ≡ cond (not z) (bit_xor (old q) (new q)) 0
    by true f = refl
    by false f = ap (λ b. cond b (bit_xor (old q) (new q)) 0) (under (cases_lt q n))
      where
        under : (q < n) ⊎ (n ≤ q) → nat_lt q n ≡ true
        under (inl m) = grind (arith, nat_tests)
        under (inr m) = absurd (let g = zeros q m in grind (arith, nat_tests))

none-old-at : (changes : List Change) (old new : ℕ → ℕ) → changes ≡ [] → WithinAt changes old new (old-below old 0)
unfolding difference
none-old-at changes old new e q = ap (λ x. difference x q) e ∙ by (old q == 0)
  where
    by : (z : Bool) → 0 ≡ cond (not z && nat_lt q 0) (bit_xor (old q) (new q)) 0
    by true = refl
    by false = ap (λ b. cond b (bit_xor (old q) (new q)) 0) (let under : false ≡ nat_lt q 0 = grind (arith, nat_tests) in under)

-- those that were 0

zero-if : (b : Bool) (x : ℕ) → x ≡ 0 → cond b x 0 ≡ 0
zero-if true x e = e
zero-if false x e = refl

-- from none below the first one
new-first-at : (changes : List Change) (old new : ℕ → ℕ) → WithinAt changes old new (λ q. not (old q == 0)) → WithinAt changes old new (old-or-below old 0)
new-first-at changes old new h q = h q ∙ by (old q == 0)
  where
    by : (z : Bool) → cond (not z) (bit_xor (old q) (new q)) 0 ≡ cond (not z || nat_lt q 0) (bit_xor (old q) (new q)) 0
    by true = ap (λ b. cond b (bit_xor (old q) (new q)) 0) (let under : false ≡ nat_lt q 0 = grind (arith, nat_tests) in under)
    by false = refl

-- a place that was 0 and is not the next one
under-next : (old new : ℕ → ℕ) (n k q : ℕ) → n ≤ k → Zeros new n k → (old q == 0) ≡ true → (q == k) ≡ false → (q < n) ⊎ (n ≤ q) → (q < k) ⊎ (k ≤ q) →
    cond (nat_lt q n) (bit_xor (old q) (new q)) 0 ≡ cond (nat_lt q (k + 1)) (bit_xor (old q) (new q)) 0
under-next old new n k q l zeros f e (inl m) o = ap (λ b. cond b (bit_xor (old q) (new q)) 0) (let same : nat_lt q n ≡ nat_lt q (k + 1) = grind (arith, nat_tests) in same)
under-next old new n k q l zeros f e (inr m) (inl o) =
    let none : bit_xor (old q) (new q) ≡ 0 = both-zero (old q) (new q) (grind (arith, nat_tests)) (zeros q m o) in
    zero-if (nat_lt q n) _ none ∙ sym (zero-if (nat_lt q (k + 1)) _ none)
under-next old new n k q l zeros f e (inr m) (inr o) = ap (λ b. cond b (bit_xor (old q) (new q)) 0) (let same : nat_lt q n ≡ nat_lt q (k + 1) = grind (arith, nat_tests) in same)

apart : (old : ℕ → ℕ) (k q : ℕ) (b c : Bool) → (old k == 0) ≡ b → (old q == 0) ≡ not b → (q == k) ≡ false
apart old k q b c e f = by (q == k) refl
  where
    clash : (b : Bool) → b ≡ not b → ⊥
    clash true e = absurd (cc)
    clash false e = absurd (cc)

    by : (d : Bool) → (q == k) ≡ d → (q == k) ≡ false
    by true g = let same : q ≡ k = grind (arith, nat_tests) in absurd (clash b (sym e ∙ sym (ap (λ j. old j == 0) same) ∙ f))
    by false g = g

-- one more that is among them
new-on-at : (changes : List Change) (old new : ℕ → ℕ) (n k : ℕ) → WithinAt changes old new (old-or-below old n) → n ≤ k → Zeros new n k → (old k == 0) ≡ false → WithinAt changes old new (old-or-below old (k + 1))
new-on-at changes old new n k h l zeros was q = h q ∙ by (old q == 0) refl
  where
    by : (z : Bool) → (old q == 0) ≡ z → cond (not z || nat_lt q n) (bit_xor (old q) (new q)) 0 ≡ cond (not z || nat_lt q (k + 1)) (bit_xor (old q) (new q)) 0
    by true f = under-next old new n k q l zeros f (apart old k q false false was f) (cases_lt q n) (cases_lt q k)
    by false f = refl

-- one more that was 0
new-noted-at : (changes later : List Change) (old new : ℕ → ℕ) (n k : ℕ) → WithinAt changes old new (old-or-below old n) → n ≤ k → Zeros new n k → (old k == 0) ≡ true → later ≡ noted changes k (old k) (new k) → WithinAt later old new (old-or-below old (k + 1))
new-noted-at changes later old new n k h l zeros was e q = noted-at changes later old new (old-or-below old n) k q h e ∙ by (old q == 0) refl
  where
    x : ℕ
    x = bit_xor (old q) (new q)

    at-k : (old q == 0) ≡ true → (b : Bool) → (q == k) ≡ b → bit_xor (cond (nat_lt q n) x 0) (cond b x 0) ≡ cond (nat_lt q (k + 1)) x 0
    at-k g true f = within-by true (nat_lt q n) (nat_lt q (k + 1)) x (λ b. grind (arith, nat_tests)) (λ b. grind (arith, nat_tests)) (λ b. absurd (cc))
    at-k g false f = xor_zero_r (cond (nat_lt q n) x 0) ∙ under-next old new n k q l zeros g f (cases_lt q n) (cases_lt q k)

    by : (z : Bool) → (old q == 0) ≡ z → bit_xor (cond (not z || nat_lt q n) x 0) (cond (q == k) x 0) ≡ cond (not z || nat_lt q (k + 1)) x 0
    by true f = at-k f (q == k) refl
    by false f = ap (λ b. bit_xor x (cond b x 0)) (apart old k q true false was f) ∙ xor_zero_r x

-- no more of them
new-done-at : (changes : List Change) (old new : ℕ → ℕ) (n : ℕ) → WithinAt changes old new (old-or-below old n) → ((q : ℕ) → n ≤ q → new q ≡ 0) → AllAt changes old new
new-done-at changes old new n h zeros q = h q ∙ by (old q == 0) refl
  where
    x : ℕ
    x = bit_xor (old q) (new q)

    none : (b : Bool) → nat_lt q n ≡ b → (old q == 0) ≡ true → cond b x 0 ≡ x
    none true e f = refl
    none false e f = sym (both-zero (old q) (new q) (grind (arith, nat_tests)) (zeros q (grind (arith, nat_tests))))

    by : (z : Bool) → (old q == 0) ≡ z → cond (not z || nat_lt q n) x 0 ≡ x
    by true f = none (nat_lt q n) refl f
    by false f = refl

-- AS CLAUSES SAY IT

pub tells-noted : (changes later : List Change) (old new : ℕ → ℕ) (from at : ℕ) → Tells changes old new from at → from ≤ at → later ≡ noted changes at (old at) (new at) → Tells later old new from (at + 1)
tells-noted changes later old new from at h l e = record { at = tells-noted-at changes later old new from at h.at l e }

pub tells-none : (changes : List Change) (old new : ℕ → ℕ) (from : ℕ) → changes ≡ [] → Tells changes old new from from
tells-none changes old new from e = record { at = tells-none-at changes old new from e }

pub tells-all : (changes : List Change) (old new : ℕ → ℕ) (from to : ℕ) → Tells changes old new from to → ((q : ℕ) → q < from → old q ≡ new q) → ((q : ℕ) → to ≤ q → old q ≡ new q) → TellsAll changes old new
tells-all changes old new from to h below above = record { at = tells-all-at changes old new from to h.at below above }

pub tells-one : (changes : List Change) (old new : ℕ → ℕ) (k : ℕ) → changes ≡ noted [] k (old k) (new k) → ((q : ℕ) → (q == k) ≡ false → new q ≡ old q) → TellsAll changes old new
tells-one changes old new k e same = record { at = tells-one-at changes old new k e same }

pub tells-nothing : (changes : List Change) (old new : ℕ → ℕ) → changes ≡ [] → ((q : ℕ) → new q ≡ old q) → TellsAll changes old new
tells-nothing changes old new e same = record { at = tells-nothing-at changes old new e same }

pub old-noted : (changes later : List Change) (old new : ℕ → ℕ) (n k : ℕ) → TellsWithin changes old new (old-below old n) → n ≤ k → Zeros old n k → (old k ≡ 0 → new k ≡ 0) → later ≡ noted changes k (old k) (new k) → TellsWithin later old new (old-below old (k + 1))
old-noted changes later old new n k h l zeros none e = record { at = old-noted-at changes later old new n k h.at l zeros none e }

pub old-done : (changes : List Change) (old new : ℕ → ℕ) (n : ℕ) → TellsWithin changes old new (old-below old n) → ((q : ℕ) → n ≤ q → old q ≡ 0) → TellsWithin changes old new (λ q. not (old q == 0))
old-done changes old new n h zeros = record { at = old-done-at changes old new n h.at zeros }

pub none-old : (changes : List Change) (old new : ℕ → ℕ) → changes ≡ [] → TellsWithin changes old new (old-below old 0)
none-old changes old new e = record { at = none-old-at changes old new e }

pub new-first : (changes : List Change) (old new : ℕ → ℕ) → TellsWithin changes old new (λ q. not (old q == 0)) → TellsWithin changes old new (old-or-below old 0)
new-first changes old new h = record { at = new-first-at changes old new h.at }

pub new-on : (changes : List Change) (old new : ℕ → ℕ) (n k : ℕ) → TellsWithin changes old new (old-or-below old n) → n ≤ k → Zeros new n k → (old k == 0) ≡ false → TellsWithin changes old new (old-or-below old (k + 1))
new-on changes old new n k h l zeros was = record { at = new-on-at changes old new n k h.at l zeros was }

pub new-noted : (changes later : List Change) (old new : ℕ → ℕ) (n k : ℕ) → TellsWithin changes old new (old-or-below old n) → n ≤ k → Zeros new n k → (old k == 0) ≡ true → later ≡ noted changes k (old k) (new k) → TellsWithin later old new (old-or-below old (k + 1))
new-noted changes later old new n k h l zeros was e = record { at = new-noted-at changes later old new n k h.at l zeros was e }

pub new-done : (changes : List Change) (old new : ℕ → ℕ) (n : ℕ) → TellsWithin changes old new (old-or-below old n) → ((q : ℕ) → n ≤ q → new q ≡ 0) → TellsAll changes old new
new-done changes old new n h zeros = record { at = new-done-at changes old new n h.at zeros }

pub ruleset telling = (tells-noted, tells-none)

pub ruleset reaching = (tells-one, tells-nothing)
