-- Lists of addresses have what was added, ascending.
use Rattle.std.proofs.Common.{◌≡◌, ℕ, ◌<◌, List, [], ◌∷◌, ◌++◌, Bool, true, false, ◌||◌, ◌==◌, refl, sym, ap, ◌∙◌, arith}
use Rattle.std.specs.BTreeSet.{insert_key}
use Rattle.std.specs.List.{AllByRecursion}
use Rattle.std.specs.List.Sorted.{IsStrictlyIncreasing, IsStrictlySortedBy}
use Rattle.std.specs.Ordering.{match_ordering, nat_cmp}
use Rattle.std.specs.Cmp.{nat_cmp_is}
use Rattle.std.specs.declared.cmp.Ordering.{Ordering}
use Rattle.std.specs.declared.cmp.Ordering.TheVariants.{Less, Equal, Greater}
use Rattle.std.proofs.lemmas.Cmp.{ranked}
use Rattle.std.proofs.lemmas.Map.Keys.{IsStrictlyIncreasing-from_sorted}
use Rattle.mx_mmo.specs.declared.items.Item.{Item}
use Rattle.mx_object.specs.Addresses.{addresses_of, has, joined, with_all}

-- ---- what is there

twice : (a b : Bool) → (a || b) ≡ (a || (a || b))
twice true b = refl
twice false b = refl

swapped : (a b c : Bool) → (a || (b || c)) ≡ (b || (a || c))
swapped true true c = refl
swapped true false c = refl
swapped false b c = refl

moved : (a b c : Bool) → ((a || b) || c) ≡ (b || (a || c))
moved true true c = refl
moved true false c = refl
moved false b c = refl

has-insert : (addresses : List ℕ) (a b : ℕ) → has (insert_key nat_cmp addresses a) b ≡ (a == b || has addresses b)
unfolding has
has-insert [] a b = refl
has-insert (x ∷ xs) a b = by (nat_cmp a x) refl (has-insert xs a b)
  where
    by : (o : Ordering) → o ≡ nat_cmp a x → has (insert_key nat_cmp xs a) b ≡ (a == b || has xs b) →
        has (match_ordering o (a ∷ x ∷ xs) (x ∷ xs) (x ∷ insert_key nat_cmp xs a)) b ≡ (a == b || (x == b || has xs b))
    by Less e rest = refl
    by Equal e rest = twice (x == b) (has xs b) ∙ ap (λ n. n == b || (x == b || has xs b)) (sym (ranked a x Equal e))
    by Greater e rest = ap (λ t. x == b || t) rest ∙ swapped (x == b) (a == b) (has xs b)

pub has-all : (addresses xs : List ℕ) (b : ℕ) → has (with_all addresses xs) b ≡ (has addresses b || has xs b)
unfolding has with_all
has-all addresses [] b = or-none (has addresses b)
  where
    or-none : (t : Bool) → t ≡ (t || false)
    or-none true = refl
    or-none false = refl
has-all addresses (x ∷ xs) b =
    has-all (insert_key nat_cmp addresses x) xs b ∙ ap (λ t. t || has xs b) (has-insert addresses x b) ∙ moved (x == b) (has addresses b) (has xs b)

pub all-listed : (items : List Item) (a : ℕ) → has (addresses_of items) a ≡ has (joined 0 items) a
unfolding has
all-listed items a = has-all [] (joined 0 items) a

pub has-append : (xs ys : List ℕ) (a : ℕ) → has (xs ++ ys) a ≡ (has xs a || has ys a)
unfolding has
has-append [] ys a = refl
has-append (x ∷ xs) ys a = ap (λ b. x == a || b) (has-append xs ys a) ∙ grouped (x == a) (has xs a) (has ys a)
  where
    grouped : (a b c : Bool) → (a || (b || c)) ≡ ((a || b) || c)
    grouped true b c = refl
    grouped false b c = refl

pub neither : (b c : Bool) → (b || c) ≡ false → (b ≡ false) × (c ≡ false)
neither true c h = absurd (cc)
neither false c h = (refl, h)

-- ---- in order

less-of : (x y : ℕ) → nat_cmp x y ≡ Less → x < y
less-of x y e = ranked x y Less (sym e)

of-less : (x y : ℕ) → x < y → nat_cmp x y ≡ Less
of-less x y l = sym (nat_cmp_is x y Less l)

below-all : (k x : ℕ) (xs : List ℕ) → k < x → AllByRecursion (λ y. nat_cmp x y ≡ Less) xs → AllByRecursion (λ y. nat_cmp k y ≡ Less) xs
below-all k x [] l h = tt
below-all k x (y ∷ ys) l h = (of-less k y (omega (arith, l, less-of x y h.0)), below-all k x ys l h.1)

above-insert : (x k : ℕ) (xs : List ℕ) → x < k → AllByRecursion (λ y. nat_cmp x y ≡ Less) xs → AllByRecursion (λ y. nat_cmp x y ≡ Less) (insert_key nat_cmp xs k)
above-insert x k [] l h = (of-less x k l, tt)
above-insert x k (y ∷ ys) l h = by (nat_cmp k y) (above-insert x k ys l h.1)
  where
    by : (o : Ordering) → AllByRecursion (λ y. nat_cmp x y ≡ Less) (insert_key nat_cmp ys k) →
        AllByRecursion (λ y. nat_cmp x y ≡ Less) (match_ordering o (k ∷ y ∷ ys) (y ∷ ys) (y ∷ insert_key nat_cmp ys k))
    by Less rest = (of-less x k l, h)
    by Equal rest = h
    by Greater rest = (h.0, rest)

sorted-insert : (xs : List ℕ) (k : ℕ) → IsStrictlySortedBy nat_cmp xs → IsStrictlySortedBy nat_cmp (insert_key nat_cmp xs k)
unfolding IsStrictlySortedBy
sorted-insert [] k s = (tt, tt)
sorted-insert (x ∷ xs) k s = by (nat_cmp k x) refl (sorted-insert xs k s.1)
  where
    by : (o : Ordering) → o ≡ nat_cmp k x → IsStrictlySortedBy nat_cmp (insert_key nat_cmp xs k) →
        IsStrictlySortedBy nat_cmp (match_ordering o (k ∷ x ∷ xs) (x ∷ xs) (x ∷ insert_key nat_cmp xs k))
    by Less e rest = ((sym e, below-all k x xs (ranked k x Less e) s.0), s)
    by Equal e rest = s
    by Greater e rest = (above-insert x k xs (ranked k x Greater e) s.0, rest)

sorted-all : (addresses xs : List ℕ) → IsStrictlySortedBy nat_cmp addresses → IsStrictlySortedBy nat_cmp (with_all addresses xs)
unfolding with_all
sorted-all addresses [] s = s
sorted-all addresses (x ∷ xs) s = sorted-all (insert_key nat_cmp addresses x) xs (sorted-insert addresses x s)

none-sorted : IsStrictlySortedBy nat_cmp []
unfolding IsStrictlySortedBy
none-sorted = tt

pub all-ascend : (items : List Item) → IsStrictlyIncreasing (addresses_of items)
all-ascend items = IsStrictlyIncreasing-from_sorted (addresses_of items) (sorted-all [] (joined 0 items) none-sorted)

pub ruleset listed = (all-listed, all-ascend)
