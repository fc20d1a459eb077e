-- Names in byte order.
use Rattle.std.proofs.Common.{◌≡◌, ◌≢◌, ℕ, zero, suc, ◌<◌, ◌⊎◌, true, List, [], ◌∷◌, ◌++◌, take, map, Ordering, arith, inl, inr}
use Rattle.mx_stab.proofs.Words.{AllByRecursion, slice_cmp, nat_cmp, is_lt, Less, Symbol, AreDistinct, is_above, InByteOrder}
use Rattle.std.specs.List.Sorted.{IsStrictlySortedBy}
use Rattle.std.proofs.lemmas.Cmp.{nat_list_cmp_total}

pub all-front : {A : Type 0} (P : A → Type 0) (xs ys : List A) → AllByRecursion P (xs ++ ys) → AllByRecursion P xs
all-front P [] ys h = tt
all-front P (x ∷ xs) ys h = (h.0, all-front P xs ys h.1)

pub all-back : {A : Type 0} (P : A → Type 0) (xs ys : List A) → AllByRecursion P (xs ++ ys) → AllByRecursion P ys
all-back P [] ys h = h
all-back P (x ∷ xs) ys h = all-back P xs ys h.1

pub all-both : {A : Type 0} (P : A → Type 0) (xs ys : List A) → AllByRecursion P xs → AllByRecursion P ys → AllByRecursion P (xs ++ ys)
all-both P [] ys h k = k
all-both P (x ∷ xs) ys h k = (h.0, all-both P xs ys h.1 k)

-- a name is below another
abbrev pub Below : List ℕ → List ℕ → Type 0
Below a b = slice_cmp nat_cmp a b ≡ Less

-- each name is below all that follow it
abbrev pub AreInOrder : List Symbol → Type 0
AreInOrder [] = Unit {0}
AreInOrder (s ∷ more) = AllByRecursion (λ (t : Symbol). Below s.name t.name) more × AreInOrder more

names-after : (name : List ℕ) (more : List Symbol) → AllByRecursion (λ y. slice_cmp nat_cmp name y ≡ Less) (map (λ (s : Symbol). s.name) more) → AllByRecursion (λ (t : Symbol). Below name t.name) more
names-after name [] h = tt
names-after name (t ∷ more) h = (h.0, names-after name more h.1)

after-names : (name : List ℕ) (more : List Symbol) → AllByRecursion (λ (t : Symbol). Below name t.name) more → AllByRecursion (λ y. slice_cmp nat_cmp name y ≡ Less) (map (λ (s : Symbol). s.name) more)
after-names name [] h = tt
after-names name (t ∷ more) h = (h.0, after-names name more h.1)

pub in-order : (symbols : List Symbol) → InByteOrder symbols → AreInOrder symbols
unfolding IsStrictlySortedBy
in-order [] h = tt
in-order (s ∷ more) h = (names-after s.name more h.0, in-order more h.1)

pub in-byte-order : (symbols : List Symbol) → AreInOrder symbols → InByteOrder symbols
unfolding IsStrictlySortedBy
in-byte-order [] h = tt
in-byte-order (s ∷ more) h = (after-names s.name more h.0, in-byte-order more h.1)

pub order-front : (xs ys : List Symbol) → AreInOrder (xs ++ ys) → AreInOrder xs
order-front [] ys h = tt
order-front (x ∷ xs) ys h = (all-front (λ (t : Symbol). Below x.name t.name) xs ys h.0, order-front xs ys h.1)

pub order-back : (xs ys : List Symbol) → AreInOrder (xs ++ ys) → AreInOrder ys
order-back [] ys h = h
order-back (x ∷ xs) ys h = order-back xs ys h.1

-- how the first bytes of two names decide
below-first : (a b : ℕ) (xs ys : List ℕ) → Below (a ∷ xs) (b ∷ ys) → (a < b) ⊎ ((a ≡ b) × Below xs ys)
below-first a b xs ys = grind arith

not-same : (a b : List ℕ) → Below a b → a ≡ b → ⊥
not-same (a ∷ xs) (b ∷ ys) h e =
    let first : a ≡ b = cc in
    let rest : xs ≡ ys = cc in
    elim (below-first a b xs ys h) [
      | inl l ↦ absurd (omega (arith, first, l))
      | inr p ↦ not-same xs ys p.1 rest
    ]
not-same a b h e = absurd (cc)

-- no name is below one that it begins with
pub no-front-after : (n : ℕ) (a b : List ℕ) → Below a b → take n a ≡ b → ⊥
no-front-after n [] [] h e = absurd (cc)
no-front-after zero [] (b ∷ ys) h e = absurd (cc)
no-front-after (suc n) (a ∷ xs) (b ∷ ys) h e =
    let first : a ≡ b = cc in
    let rest : take n xs ≡ ys = cc in
    elim (below-first a b xs ys h) [
      | inl l ↦ absurd (omega (arith, first, l))
      | inr p ↦ no-front-after n xs ys p.1 rest
    ]
no-front-after n a b h e = absurd (cc)

distinct-first : (s : Symbol) (more : List Symbol) → AllByRecursion (λ (t : Symbol). Below s.name t.name) more → AllByRecursion (λ (t : Symbol). s.name ≢ t.name) more
distinct-first s [] h = tt
distinct-first s (t ∷ more) h = (not-same s.name t.name h.0, distinct-first s more h.1)

-- names in order are distinct
pub in-order-distinct : (symbols : List Symbol) → AreInOrder symbols → AreDistinct symbols
in-order-distinct [] h = tt
in-order-distinct (s ∷ more) h = (distinct-first s more h.0, in-order-distinct more h.1)

-- a name above the last one keeps the order
less-is : (o : Ordering) → is_lt o ≡ true → o ≡ Less
less-is o h = grind arith

pub order-push : (symbols : List Symbol) (new : Symbol) → AreInOrder symbols → is_above new.name symbols ≡ true → AreInOrder (symbols ++ new ∷ [])
order-push [] new o h = (tt, tt)
order-push (s ∷ []) new o h = ((less-is _ h, tt), (tt, tt))
order-push (s ∷ t ∷ more) new o h =
    let rest = order-push (t ∷ more) new o.1 h in
    let last = all-back (λ (u : Symbol). Below t.name u.name) more (new ∷ []) rest.0 in
    let first : Below s.name new.name = nat_list_cmp_total.trans s.name t.name new.name o.0.0 last.0 in
    (all-both (λ (u : Symbol). Below s.name u.name) (t ∷ more) (new ∷ []) o.0 (first, tt), rest)
