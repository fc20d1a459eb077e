-- What is taken of all references when a group is, and what is left.
use Rattle.std.proofs.Common.{◌≡◌, ◌<◌, ◌≤◌, ℕ, Bool, true, false, not, nat_lt, cond, List, [], ◌∷◌, Option, None, Some, filter, refl, sym, ap, ◌∙◌, arith, nat_cmp, bytes_eq, rules}
use Rattle.std.specs.Bool.{MatchBool}
use Rattle.mx_names.proofs.Words.{AllByRecursion, lookup, remove_entry, slice_cmp, cond_both, lt-ltb, ltb-true, ltb-false, is_eq, is_eq-slice_cmp, Wait, Numbered, with_one, with_group, all_in_order, waits_of, waits_for, waits_for_others, key_of, AreRising, AreGroups}
use Rattle.mx_word.specs.declared.waits.Awaited.{Awaited}
use Rattle.mx_word.specs.Waits.{same_awaited}
use Rattle.mx_names.proofs.Groups.{one-all, all-weaker}

-- numbers that do not fall
abbrev AreSorted : List Numbered → Type 0
AreSorted [] = Unit {0}
AreSorted (x ∷ xs) = AllByRecursion (λ (y : Numbered). x.0 ≤ y.0) xs × AreSorted xs

one-sorted : (x : Numbered) (l : List Numbered) → AreSorted l → AreSorted (with_one x l)
one-sorted x [] sorted = (tt, tt)
one-sorted x (y ∷ ys) sorted = search (rules, ltb-true, all-weaker, one-all, ltb-false, one-sorted x ys sorted.1)

group-sorted : (xs l : List Numbered) → AreSorted l → AreSorted (with_group xs l)
group-sorted [] l sorted = sorted
group-sorted (x ∷ xs) l sorted = one-sorted x (with_group xs l) (group-sorted xs l sorted)

all-sorted : {K : Type 0} (es : List (K × List Numbered)) → AreSorted (all_in_order es)
all-sorted [] = tt
all-sorted (e ∷ es) = group-sorted e.1 (all_in_order es) (all-sorted es)

one-first : (x : Numbered) (l : List Numbered) → AllByRecursion (λ (y : Numbered). x.0 < y.0) l → with_one x l ≡ x ∷ l
one-first x [] below = refl
one-first x (y ∷ ys) below = rw (lt-ltb x.0 y.0 below.0) refl

group-alone : (xs : List Numbered) → AreRising xs → with_group xs [] ≡ xs
group-alone [] rising = refl
group-alone (x ∷ xs) rising = ap (with_one x) (group-alone xs rising.1) ∙ one-first x xs rising.0

none-rest : {A : Type 0} (b : Bool) (x : A) (rest : Option A) → cond b (Some x) rest ≡ None → rest ≡ None
none-rest b x rest h = grind arith

-- a test of each reference
module _ (f : Numbered → Bool) where
  abbrev Yes : List Numbered → Type 0
  Yes xs = AllByRecursion (λ (x : Numbered). f x ≡ true) xs

  abbrev No : List Numbered → Type 0
  No xs = AllByRecursion (λ (x : Numbered). f x ≡ false) xs

  filter-all : (P : Numbered → Type 0) (xs : List Numbered) → AllByRecursion P xs → AllByRecursion P (filter f xs)
  filter-all P [] each = tt
  filter-all P (x ∷ xs) each = cond_both (f x) _ _ (AllByRecursion P) (λ _. (each.0, (filter-all P xs each.1))) (λ _. filter-all P xs each.1)

  one-no : (x : Numbered) (l : List Numbered) → f x ≡ false → filter f (with_one x l) ≡ filter f l
  one-no x [] fails = rw fails refl
  one-no x (y ∷ ys) fails = cond_both (nat_lt x.0 y.0) _ _ (λ x. filter f x ≡ filter f (y ∷ ys)) (λ _. rw fails refl) (λ _. ap (λ l. cond (f y) (y ∷ l) l) (one-no x ys fails))

  one-yes : (x : Numbered) (l : List Numbered) → f x ≡ true → AreSorted l → filter f (with_one x l) ≡ with_one x (filter f l)
  one-yes x [] passes sorted = rw passes refl
  one-yes x (y ∷ ys) passes sorted = grind (arith, one-first, filter-all, ltb-true, all-weaker, one-yes x ys passes sorted.1)

  group-no : (xs l : List Numbered) → No xs → filter f (with_group xs l) ≡ filter f l
  group-no [] l fails = refl
  group-no (x ∷ xs) l fails = one-no x (with_group xs l) fails.0 ∙ group-no xs l fails.1

  group-yes : (xs l : List Numbered) → Yes xs → AreSorted l → filter f (with_group xs l) ≡ with_group xs (filter f l)
  group-yes [] l passes sorted = refl
  group-yes (x ∷ xs) l passes sorted = one-yes x (with_group xs l) passes.0 (group-sorted xs l sorted) ∙ ap (with_one x) (group-yes xs l passes.1 sorted)

  -- the test passes in the groups of one key, and only there
  module _ {K : Type 0} (test : K → Bool) where
    abbrev Parted : List (K × List Numbered) → Type 0
    Parted es = AllByRecursion (λ (e : K × List Numbered). MatchBool (test e.0) (Yes e.1) (No e.1)) es

    none-passes : (es : List (K × List Numbered)) → Parted es → lookup test es ≡ None → filter f (all_in_order es) ≡ []
    none-passes [] parted absent = refl
    none-passes (e ∷ es) parted absent = by (test e.0) parted.0 absent (none-passes es parted.1)
      where
        by : (b : Bool) → MatchBool b (Yes e.1) (No e.1) → cond b (Some e.1) (lookup test es) ≡ None → (lookup test es ≡ None → filter f (all_in_order es) ≡ []) → filter f (with_group e.1 (all_in_order es)) ≡ []
        by true here absent rest = cc
        by false here absent rest = group-no e.1 (all_in_order es) here ∙ rest absent

    pub group-passes : (es : List (K × List Numbered)) (group : List Numbered) → Parted es → AllByRecursion (λ (e : K × List Numbered). AreRising e.1) es → lookup test es ≡ Some group → lookup test (remove_entry test es) ≡ None → filter f (all_in_order es) ≡ group
    group-passes [] group parted rising found gone = cc
    group-passes (e ∷ es) group parted rising found gone = by (test e.0) parted.0 found gone (group-passes es group parted.1 rising.1)
      where
        by : (b : Bool) → MatchBool b (Yes e.1) (No e.1) → cond b (Some e.1) (lookup test es) ≡ Some group → lookup test (cond b es (e ∷ remove_entry test es)) ≡ None → (lookup test es ≡ Some group → lookup test (remove_entry test es) ≡ None → filter f (all_in_order es) ≡ group) → filter f (with_group e.1 (all_in_order es)) ≡ group
        by true here found gone rest =
            group-yes e.1 (all_in_order es) here (all-sorted es) ∙ ap (with_group e.1) (none-passes es parted.1 gone) ∙ group-alone e.1 rising.0 ∙ (cc)
        by false here found gone rest = group-no e.1 (all_in_order es) here ∙ rest found (none-rest (test e.0) e.1 _ gone)

    -- the test fails in the groups of one key, and only there
    abbrev Other : List (K × List Numbered) → Type 0
    Other es = AllByRecursion (λ (e : K × List Numbered). MatchBool (test e.0) (No e.1) (Yes e.1)) es

    pub others-pass : (es : List (K × List Numbered)) → Other es → lookup test es ≡ None → filter f (all_in_order es) ≡ all_in_order es
    others-pass [] other absent = refl
    others-pass (e ∷ es) other absent = by (test e.0) other.0 absent (others-pass es other.1)
      where
        by : (b : Bool) → MatchBool b (No e.1) (Yes e.1) → cond b (Some e.1) (lookup test es) ≡ None → (lookup test es ≡ None → filter f (all_in_order es) ≡ all_in_order es) → filter f (with_group e.1 (all_in_order es)) ≡ with_group e.1 (all_in_order es)
        by true here absent rest = cc
        by false here absent rest = group-yes e.1 (all_in_order es) here (all-sorted es) ∙ ap (with_group e.1) (rest absent)

    pub group-left : (es : List (K × List Numbered)) → Other es → lookup test (remove_entry test es) ≡ None → filter f (all_in_order es) ≡ all_in_order (remove_entry test es)
    group-left [] other gone = refl
    group-left (e ∷ es) other gone = by (test e.0) other.0 gone (group-left es other.1)
      where
        by : (b : Bool) → MatchBool b (No e.1) (Yes e.1) → lookup test (cond b es (e ∷ remove_entry test es)) ≡ None → (lookup test (remove_entry test es) ≡ None → filter f (all_in_order es) ≡ all_in_order (remove_entry test es)) → filter f (with_group e.1 (all_in_order es)) ≡ all_in_order (cond b es (e ∷ remove_entry test es))
        by true here gone rest = group-no e.1 (all_in_order es) here ∙ others-pass es other.1 gone
        by false here gone rest = group-yes e.1 (all_in_order es) here (all-sorted es) ∙ ap (with_group e.1) (rest (none-rest (test e.0) e.1 _ gone))

same-key : (a b : Awaited) → same_awaited a b ≡ bytes_eq (key_of a) (key_of b)
same-key a b = grind arith

abbrev test_for : {K : Type 0} → (K → List ℕ) → List ℕ → K → Bool
test_for bytes key k = is_eq (slice_cmp nat_cmp key (bytes k))

module _ {K : Type 0} (bytes : K → List ℕ) (made : ℕ) (who : Awaited) (key : List ℕ) (keyed : key ≡ key_of who) where
  abbrev test : K → Bool
  test = test_for bytes key

  tells : (k : K) (x : Numbered) → key_of x.1.who ≡ bytes k → same_awaited x.1.who who ≡ test k
  tells k x is = search (rules, same-key, is_eq-slice_cmp)

  parted-group : (b : Bool) (k : K) (xs : List Numbered) → test k ≡ b → AllByRecursion (λ (x : Numbered). key_of x.1.who ≡ bytes k) xs → MatchBool b (Yes (λ x. same_awaited x.1.who who) xs) (No (λ x. same_awaited x.1.who who) xs)
  parted-group true k xs is each = all-weaker _ _ xs (λ x h. tells k x h ∙ is) each
  parted-group false k xs is each = all-weaker _ _ xs (λ x h. tells k x h ∙ is) each

  other-group : (b : Bool) (k : K) (xs : List Numbered) → test k ≡ b → AllByRecursion (λ (x : Numbered). key_of x.1.who ≡ bytes k) xs → MatchBool b (No (λ x. not (same_awaited x.1.who who)) xs) (Yes (λ x. not (same_awaited x.1.who who)) xs)
  other-group true k xs is each = all-weaker _ _ xs (λ x h. ap not (tells k x h ∙ is)) each
  other-group false k xs is each = all-weaker _ _ xs (λ x h. ap not (tells k x h ∙ is)) each

  parted : (es : List (K × List Numbered)) → AreGroups bytes made es → Parted (λ x. same_awaited x.1.who who) test es
  parted [] groups = tt
  parted (e ∷ es) groups = (parted-group (test e.0) e.0 e.1 refl groups.0.keyed, parted es groups.1)

  other : (es : List (K × List Numbered)) → AreGroups bytes made es → Other (λ x. not (same_awaited x.1.who who)) test es
  other [] groups = tt
  other (e ∷ es) groups = (other-group (test e.0) e.0 e.1 refl groups.0.keyed, other es groups.1)

  rising : (es : List (K × List Numbered)) → AreGroups bytes made es → AllByRecursion (λ (e : K × List Numbered). AreRising e.1) es
  rising [] groups = tt
  rising (e ∷ es) groups = (groups.0.rising, rising es groups.1)

  filter-waits : (p : Wait → Bool) (l : List Numbered) → filter p (waits_of l) ≡ waits_of (filter (λ (x : Numbered). p x.1) l)
  filter-waits p [] = refl
  filter-waits p (x ∷ xs) = grind (arith, filter-waits p xs)

  -- the groups after one is taken
  pub groups-less : (es : List (K × List Numbered)) → AreGroups bytes made es → AreGroups bytes made (remove_entry test es)
  groups-less [] groups = tt
  groups-less (e ∷ es) groups = cond_both (test e.0) _ _ (AreGroups bytes made) (λ _. groups.1) (λ _. (groups.0, (groups-less es groups.1)))

  module _ (es : List (K × List Numbered)) (groups : AreGroups bytes made es) where
    pub taken-group : (group : List Numbered) → Some group ≡ lookup test es → lookup test (remove_entry test es) ≡ None → waits_of group ≡ waits_for who (waits_of (all_in_order es))
    taken-group group found gone = sym (filter-waits _ (all_in_order es) ∙ ap waits_of (group-passes (λ x. same_awaited x.1.who who) test es group (parted es groups) (rising es groups) (sym found) gone))

    pub taken-none : None ≡ lookup test es → [] ≡ waits_for who (waits_of (all_in_order es))
    taken-none absent = sym (filter-waits _ (all_in_order es) ∙ ap waits_of (none-passes (λ x. same_awaited x.1.who who) test es (parted es groups) (sym absent)))

    pub left-group : lookup test (remove_entry test es) ≡ None → waits_of (all_in_order (remove_entry test es)) ≡ waits_for_others who (waits_of (all_in_order es))
    left-group gone = sym (filter-waits _ (all_in_order es) ∙ ap waits_of (group-left (λ x. not (same_awaited x.1.who who)) test es (other es groups) gone))

    pub left-all : None ≡ lookup test es → waits_of (all_in_order es) ≡ waits_for_others who (waits_of (all_in_order es))
    left-all absent = sym (filter-waits _ (all_in_order es) ∙ ap waits_of (others-pass (λ x. not (same_awaited x.1.who who)) test es (other es groups) (sym absent)))
