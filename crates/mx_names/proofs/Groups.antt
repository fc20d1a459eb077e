-- Groups of references, and all of them in the order of their numbers.
use Rattle.std.proofs.Common.{◌≡◌, ◌<◌, ℕ, ◌+◌, Bool, true, false, nat_lt, cond, List, [], ◌∷◌, ◌++◌, length, None, Some, refl, sym, ap, ◌∙◌, arith, rules}
use Rattle.mx_names.proofs.Words.{zip, AllByRecursion, lookup, set_value, is_at, insert_entry, nat_cmp, is_eq, match_ordering, slice_cmp, is_eq-slice_cmp, bytes_eq-Decides, Less, Equal, Greater, cond_both, lt-ltb, Wait, Numbered, with_one, with_group, all_in_order, waits_of, key_of, AreRising, IsGroup, AreGroups, nat_tests}
use Rattle.std.specs.declared.cmp.Ordering.{Ordering}

pub zip-push : (ns : List ℕ) (ws : List Wait) (n : ℕ) (w : Wait) → length ns ≡ length ws → zip (ns ++ n ∷ []) (ws ++ w ∷ []) ≡ zip ns ws ++ (n, w) ∷ []
zip-push [] [] n w same = refl
zip-push (m ∷ ns) (v ∷ ws) n w same = ap (λ l. (m, v) ∷ l) (zip-push ns ws n w (omega (arith, same)))
zip-push ns ws n w same = absurd (omega (arith, same))

pub waits-zip : (ns : List ℕ) (ws : List Wait) → length ns ≡ length ws → waits_of (zip ns ws) ≡ ws
waits-zip [] [] same = refl
waits-zip (m ∷ ns) (v ∷ ws) same = ap (λ l. v ∷ l) (waits-zip ns ws (omega (arith, same)))
waits-zip ns ws same = absurd (omega (arith, same))

pub ruleset pairs = (zip-push, waits-zip)

-- every reference: what holds of each one holds of all in order
pub one-all : (P : Numbered → Type 0) (x : Numbered) (l : List Numbered) → P x → AllByRecursion P l → AllByRecursion P (with_one x l)
one-all P x [] here rest = (here, tt)
one-all P x (y ∷ ys) here rest = cond_both (nat_lt x.0 y.0) _ _ (AllByRecursion P) (λ _. (here, rest)) (λ _. (rest.0, (one-all P x ys here rest.1)))

pub group-all : (P : Numbered → Type 0) (xs l : List Numbered) → AllByRecursion P xs → AllByRecursion P l → AllByRecursion P (with_group xs l)
group-all P [] l here rest = rest
group-all P (x ∷ xs) l here rest = one-all P x _ here.0 (group-all P xs l here.1 rest)

one-last : (x : Numbered) (l : List Numbered) → AllByRecursion (λ (y : Numbered). y.0 < x.0) l → with_one x l ≡ l ++ x ∷ []
one-last x [] below = refl
one-last x (y ∷ ys) below = grind (arith, nat_tests, one-last x ys below.1)

one-before-last : (x z : Numbered) (l : List Numbered) → x.0 < z.0 → with_one x (l ++ z ∷ []) ≡ with_one x l ++ z ∷ []
one-before-last x z [] less = rw (lt-ltb x.0 z.0 less) refl
one-before-last x z (y ∷ ys) less = search (rules, one-before-last x z ys less)

group-before-last : (xs l : List Numbered) (z : Numbered) → AllByRecursion (λ (x : Numbered). x.0 < z.0) xs → with_group xs (l ++ z ∷ []) ≡ with_group xs l ++ z ∷ []
group-before-last [] l z below = refl
group-before-last (x ∷ xs) l z below = ap (with_one x) (group-before-last xs l z below.1) ∙ one-before-last x z (with_group xs l) below.0

group-append : (xs ys l : List Numbered) → with_group (xs ++ ys) l ≡ with_group xs (with_group ys l)
group-append [] ys l = refl
group-append (x ∷ xs) ys l = ap (with_one x) (group-append xs ys l)

-- a group with one reference more, which has the next number
pub group-grown : (xs l : List Numbered) (z : Numbered) → AllByRecursion (λ (x : Numbered). x.0 < z.0) xs → AllByRecursion (λ (x : Numbered). x.0 < z.0) l → with_group (xs ++ z ∷ []) l ≡ with_group xs l ++ z ∷ []
group-grown xs l z below later = group-append xs (z ∷ []) l ∙ ap (with_group xs) (one-last z l later) ∙ group-before-last xs l z below

-- all references, group by group
abbrev EachBelow : {K : Type 0} → ℕ → List (K × List Numbered) → Type 0
EachBelow {K} n es = AllByRecursion (λ (e : K × List Numbered). AllByRecursion (λ (x : Numbered). x.0 < n) e.1) es

pub all-all : {K : Type 0} (P : Numbered → Type 0) (es : List (K × List Numbered)) → AllByRecursion (λ (e : K × List Numbered). AllByRecursion P e.1) es → AllByRecursion P (all_in_order es)
all-all P [] each = tt
all-all P (e ∷ es) each = group-all P e.1 (all_in_order es) each.0 (all-all P es each.1)

pub groups-below : {K : Type 0} (bytes : K → List ℕ) (made : ℕ) (es : List (K × List Numbered)) → AreGroups bytes made es → EachBelow made es
groups-below bytes made [] groups = tt
groups-below bytes made (e ∷ es) groups = (groups.0.below, groups-below bytes made es groups.1)

-- one reference more, in a group that is there and in a new one
pub grown-group : {K : Type 0} (test : K → Bool) (es : List (K × List Numbered)) (group : List Numbered) (z : Numbered) → EachBelow z.0 es → lookup test es ≡ Some group → all_in_order (set_value test es (group ++ z ∷ [])) ≡ all_in_order es ++ z ∷ []
grown-group test [] group z below found = cc
grown-group test (e ∷ es) group z below found = by (test e.0) found (grown-group test es group z below.1)
  where
    by : (b : Bool) → cond b (Some e.1) (lookup test es) ≡ Some group → (lookup test es ≡ Some group → all_in_order (set_value test es (group ++ z ∷ [])) ≡ all_in_order es ++ z ∷ []) → all_in_order (cond b ((e.0, group ++ z ∷ []) ∷ es) (e ∷ set_value test es (group ++ z ∷ []))) ≡ with_group e.1 (all_in_order es) ++ z ∷ []
    by true found rest =
        let same : group ≡ e.1 = cc in
        ap (λ g. with_group (g ++ z ∷ []) (all_in_order es)) same ∙ group-grown e.1 (all_in_order es) z below.0 (all-all _ es below.1)
    by false found rest = ap (with_group e.1) (rest found) ∙ group-before-last e.1 (all_in_order es) z below.0

pub new-group : {K : Type 0} (cmp : K → K → Ordering) (es : List (K × List Numbered)) (k : K) (z : Numbered) → EachBelow z.0 es → lookup (is_at (cmp k)) es ≡ None → all_in_order (insert_entry cmp es k (z ∷ [])) ≡ all_in_order es ++ z ∷ []
new-group cmp [] k z below absent = refl
new-group cmp (e ∷ es) k z below absent = by (cmp k e.0) absent (new-group cmp es k z below.1)
  where
    by : (o : Ordering) → cond (is_eq o) (Some e.1) (lookup (is_at (cmp k)) es) ≡ None → (lookup (is_at (cmp k)) es ≡ None → all_in_order (insert_entry cmp es k (z ∷ [])) ≡ all_in_order es ++ z ∷ []) → all_in_order (match_ordering o ((k, z ∷ []) ∷ e ∷ es) ((e.0, z ∷ []) ∷ es) (e ∷ insert_entry cmp es k (z ∷ []))) ≡ with_group e.1 (all_in_order es) ++ z ∷ []
    by Less absent rest = one-last z (with_group e.1 (all_in_order es)) (group-all _ e.1 (all_in_order es) below.0 (all-all _ es below.1))
    by Equal absent rest = cc
    by Greater absent rest = ap (with_group e.1) (rest absent) ∙ group-before-last e.1 (all_in_order es) z below.0

-- the groups are still groups
all-push : (P : Numbered → Type 0) (xs : List Numbered) (z : Numbered) → AllByRecursion P xs → P z → AllByRecursion P (xs ++ z ∷ [])
all-push P [] z each last = (last, tt)
all-push P (x ∷ xs) z each last = (each.0, all-push P xs z each.1 last)

pub all-weaker : (P Q : Numbered → Type 0) (xs : List Numbered) → ((x : Numbered) → P x → Q x) → AllByRecursion P xs → AllByRecursion Q xs
all-weaker P Q [] weaker each = tt
all-weaker P Q (x ∷ xs) weaker each = (weaker x each.0, all-weaker P Q xs weaker each.1)

rising-push : (xs : List Numbered) (z : Numbered) → AreRising xs → AllByRecursion (λ (x : Numbered). x.0 < z.0) xs → AreRising (xs ++ z ∷ [])
rising-push [] z rising below = (tt, tt)
rising-push (x ∷ xs) z rising below = (all-push _ xs z rising.0 below.0, rising-push xs z rising.1 below.1)

group-later : (key : List ℕ) (made : ℕ) (group : List Numbered) → IsGroup key made group → IsGroup key (made + 1) group
group-later key made group is = record { rising = is.rising; below = all-weaker _ _ group (λ x less. omega arith) is.below; keyed = is.keyed }

group-push : (key : List ℕ) (made : ℕ) (group : List Numbered) (w : Wait) → IsGroup key made group → key_of w.who ≡ key → IsGroup key (made + 1) (group ++ (made, w) ∷ [])
group-push key made group w is keyed = search (rules, rising-push, all-push, all-weaker)

pub groups-later : {K : Type 0} (bytes : K → List ℕ) (made : ℕ) (es : List (K × List Numbered)) → AreGroups bytes made es → AreGroups bytes (made + 1) es
groups-later bytes made [] groups = tt
groups-later bytes made (e ∷ es) groups = (group-later (bytes e.0) made e.1 groups.0, groups-later bytes made es groups.1)

pub groups-grown : {K : Type 0} (bytes : K → List ℕ) (made : ℕ) (test : K → Bool) (es : List (K × List Numbered)) (group : List Numbered) (w : Wait) → ((k : K) → test k ≡ true → key_of w.who ≡ bytes k) → lookup test es ≡ Some group → AreGroups bytes made es → AreGroups bytes (made + 1) (set_value test es (group ++ (made, w) ∷ []))
groups-grown bytes made test [] group w keyed found groups = tt
groups-grown {K} bytes made test (e ∷ es) group w keyed found groups = grind (arith, group-push, groups-later, group-later, groups-grown bytes made test es group w keyed)

pub groups-new : {K : Type 0} (bytes : K → List ℕ) (made : ℕ) (cmp : K → K → Ordering) (es : List (K × List Numbered)) (k : K) (w : Wait) → key_of w.who ≡ bytes k → lookup (is_at (cmp k)) es ≡ None → AreGroups bytes made es → AreGroups bytes (made + 1) (insert_entry cmp es k ((made, w) ∷ []))
groups-new bytes made cmp [] k w keyed absent groups = grind arith
groups-new bytes made cmp (e ∷ es) k w keyed absent groups = search (rules, group-later, groups-later, groups-new bytes made cmp es k w keyed)

-- keys that compare as equal are equal
pub key-tells : (q key : List ℕ) → is_eq (slice_cmp nat_cmp q key) ≡ true → q ≡ key
key-tells q key same = (bytes_eq-Decides q key).0 (sym (is_eq-slice_cmp q key) ∙ same)

-- what a write through the map's group, and an insertion, come to
module _ {K : Type 0} (bytes : K → List ℕ) (es more : List (K × List Numbered)) (made : ℕ) (w : Wait) (groups : AreGroups bytes made es) where
  pub grown-order : (test : K → Bool) (group new : List Numbered) → more ≡ set_value test es new → Some group ≡ lookup test es → new ≡ group ++ (made, w) ∷ [] → all_in_order more ≡ all_in_order es ++ (made, w) ∷ []
  grown-order test group new is found same = grind (arith, grown-group, groups-below)

  pub grown-groups : (test : K → Bool) (group new : List Numbered) → more ≡ set_value test es new → Some group ≡ lookup test es → ((k : K) → test k ≡ true → key_of w.who ≡ bytes k) → new ≡ group ++ (made, w) ∷ [] → AreGroups bytes (made + 1) more
  grown-groups test group new is found keyed same = grind (arith, groups-grown)

  pub new-order : (cmp : K → K → Ordering) (k : K) (new : List Numbered) → more ≡ insert_entry cmp es k new → lookup (is_at (cmp k)) es ≡ None → new ≡ (made, w) ∷ [] → all_in_order more ≡ all_in_order es ++ (made, w) ∷ []
  new-order cmp k new is absent same = grind (arith, new-group, groups-below)

  pub new-groups : (cmp : K → K → Ordering) (k : K) (new : List Numbered) → more ≡ insert_entry cmp es k new → lookup (is_at (cmp k)) es ≡ None → key_of w.who ≡ bytes k → new ≡ (made, w) ∷ [] → AreGroups bytes (made + 1) more
  new-groups cmp k new is absent keyed same = grind (arith, groups-new)
