-- Which addresses a cover has.
use Rattle.std.proofs.Common.{◌≡◌, refl, ◌<◌, ◌↔◌, ℕ, Bool, true, false, ◌||◌, eqb, List, [], ◌∷◌, Contains, ap, ◌∙◌, sym}
use Rattle.std.specs.BTreeSet.{insert_key}
use Rattle.std.specs.Cmp.{nat_cmp_is, ranks}
use Rattle.std.specs.List.{AllByRecursion, list_any}
use Rattle.std.specs.List.Sorted.{IsStrictlySortedBy}
use Rattle.std.specs.Ordering.{nat_cmp, match_ordering, MatchOrdering}
use Rattle.std.specs.declared.cmp.Ordering.{Ordering}
use Rattle.std.specs.declared.cmp.Ordering.TheVariants.{Less, Equal, Greater}
use Rattle.std.proofs.lemmas.Cmp.{nat_cmp_total, nat_eq_equiv}
use Rattle.std.proofs.lemmas.List.Elements.{All-from_recursion, recursion_from_All}
use Rattle.std.proofs.lemmas.Map.Views.{All-insert_key, Contains-from_any, list_any-from_Contains, exact_unsigned_eq}
use Rattle.mx_code.specs.declared.trace.Trace.{Trace}
use Rattle.mx_watch.specs.Covers.{addresses_after, addresses_of}

or-twice : (a b : Bool) → (a || b) ≡ (a || (a || b))
or-twice true b = refl
or-twice false b = refl

or-swap : (a b c : Bool) → (a || (b || c)) ≡ (b || (a || c))
or-swap true true c = refl
or-swap true false c = refl
or-swap false true c = refl
or-swap false false c = refl

or-group : (a b c : Bool) → (a || (b || c)) ≡ ((a || b) || c)
or-group true b c = refl
or-group false b c = refl

inserted-case : (k a x : ℕ) (xs ys : List ℕ) (r : Ordering) → MatchOrdering r (k < x) (k ≡ x) (x < k) → list_any (eqb a) ys ≡ (eqb a k || list_any (eqb a) xs)
    → list_any (eqb a) (match_ordering r (k ∷ x ∷ xs) (x ∷ xs) (x ∷ ys)) ≡ (eqb a k || (eqb a x || list_any (eqb a) xs))
inserted-case k a x xs ys Less o h = refl
inserted-case k a x xs ys Equal o h = rw o (or-twice (eqb a x) (list_any (eqb a) xs))
inserted-case k a x xs ys Greater o h = ap (λ b. eqb a x || b) h ∙ or-swap (eqb a x) (eqb a k) (list_any (eqb a) xs)

any-inserted : (k a : ℕ) (xs : List ℕ) → list_any (eqb a) (insert_key nat_cmp xs k) ≡ (eqb a k || list_any (eqb a) xs)
any-inserted k a [] = refl
any-inserted k a (x ∷ xs) = inserted-case k a x xs (insert_key nat_cmp xs k) (nat_cmp k x) (ranks k x) (any-inserted k a xs)

any-after : (h : List Trace) (a : ℕ) (keys : List ℕ) → list_any (eqb a) (addresses_after keys h) ≡ (list_any (eqb a) (addresses_of h) || list_any (eqb a) keys)
unfolding addresses_after
any-after [] a keys = refl
any-after (t ∷ ts) a keys =
    let here = eqb a t.pc in
    let rest = list_any (eqb a) (addresses_of ts) in
    any-after ts a (insert_key nat_cmp keys t.pc) ∙ ap (λ b. rest || b) (any-inserted t.pc a keys) ∙ or-swap rest here (list_any (eqb a) keys) ∙ or-group here rest (list_any (eqb a) keys)

all-above : (k x : ℕ) (xs : List ℕ) → nat_cmp k x ≡ Less → AllByRecursion (λ y. nat_cmp x y ≡ Less) xs → AllByRecursion (λ y. nat_cmp k y ≡ Less) xs
all-above k x [] e h = tt
all-above k x (y ∷ ys) e h = (nat_cmp_total.trans k x y e h.0, all-above k x ys e h.1)

sorted-case : (k x : ℕ) (xs : List ℕ) (r : Ordering) → r ≡ nat_cmp k x → MatchOrdering r (k < x) (k ≡ x) (x < k) → IsStrictlySortedBy nat_cmp (x ∷ xs)
    → IsStrictlySortedBy nat_cmp (insert_key nat_cmp xs k) → IsStrictlySortedBy nat_cmp (match_ordering r (k ∷ x ∷ xs) (x ∷ xs) (x ∷ insert_key nat_cmp xs k))
unfolding IsStrictlySortedBy
sorted-case k x xs Less e o h s = ((sym e, all-above k x xs (sym e) h.0), h)
sorted-case k x xs Equal e o h s = h
sorted-case k x xs Greater e o h s =
    let above = λ (y : ℕ). nat_cmp x y ≡ Less in
    (recursion_from_All above (insert_key nat_cmp xs k) (All-insert_key nat_cmp k above xs (All-from_recursion above xs h.0) (sym (nat_cmp_is x k Less o))), s)

sorted-inserted : (k : ℕ) (xs : List ℕ) → IsStrictlySortedBy nat_cmp xs → IsStrictlySortedBy nat_cmp (insert_key nat_cmp xs k)
unfolding IsStrictlySortedBy
sorted-inserted k [] h = (tt, tt)
sorted-inserted k (x ∷ xs) h = sorted-case k x xs (nat_cmp k x) refl (ranks k x) h (sorted-inserted k xs h.1)

sorted-after : (h : List Trace) (keys : List ℕ) → IsStrictlySortedBy nat_cmp keys → IsStrictlySortedBy nat_cmp (addresses_after keys h)
unfolding addresses_after
sorted-after [] keys s = s
sorted-after (t ∷ ts) keys s = sorted-after ts (insert_key nat_cmp keys t.pc) (sorted-inserted t.pc keys s)

pub ascending : (h : List Trace) → IsStrictlySortedBy nat_cmp (addresses_after [] h)
unfolding IsStrictlySortedBy
ascending h = sorted-after h [] tt

or-false : (b : Bool) → (b || false) ≡ b
or-false true = refl
or-false false = refl

pub those : (h : List Trace) (a : ℕ) → Contains (addresses_after [] h) a ↔ Contains (addresses_of h) a
those h a =
    let same = any-after h a [] ∙ or-false (list_any (eqb a) (addresses_of h)) in (
      λ c. Contains-from_any exact_unsigned_eq a (addresses_of h) (sym same ∙ list_any-from_Contains nat_eq_equiv a (addresses_after [] h) c),
      λ c. Contains-from_any exact_unsigned_eq a (addresses_after [] h) (same ∙ list_any-from_Contains nat_eq_equiv a (addresses_of h) c),
    )

pub ruleset address_laws = (ascending)
