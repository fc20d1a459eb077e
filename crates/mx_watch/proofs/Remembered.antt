-- Addresses that a cover remembers.
use Rattle.std.proofs.Common.{◌≡◌, ◌<◌, ℕ, List, [], ◌∷◌, length, set, get_or, replicate, Option, None, Some, IfSome, arith, refl, sym, subst, ap, ◌∙◌}
use Rattle.std.specs.BTreeSet.{insert_key}
use Rattle.std.specs.Cmp.{nat_cmp_is, ranks}
use Rattle.std.specs.Ordering.{nat_cmp, match_ordering, MatchOrdering}
use Rattle.std.specs.declared.cmp.Ordering.{Ordering}
use Rattle.std.specs.declared.cmp.Ordering.TheVariants.{Less, Equal, Greater}
use Rattle.std.proofs.lemmas.List.Elements.{All-set, All-get_or, All-from_get_or, All-replicate}
use Rattle.mx_code.specs.declared.trace.Trace.{Trace}
use Rattle.mx_watch.specs.Covers.{addresses_after, covering, IsKnown, Remembers}
use Rattle.mx_watch.specs.Watching.{later}

-- ---- what is known stays known

no-longer : (x : ℕ) (xs : List ℕ) → x ∷ xs ≡ xs → ⊥
no-longer x xs e = let same = ap (λ (l : List ℕ). length l) e in omega (arith, same)

-- a goes after k, which is less
following : (a k x : ℕ) (xs : List ℕ) → k < a → insert_key nat_cmp (x ∷ xs) a ≡ x ∷ xs → insert_key nat_cmp (k ∷ x ∷ xs) a ≡ k ∷ x ∷ xs
following a k x xs l e =
    ap (λ r. match_ordering r (a ∷ k ∷ x ∷ xs) (k ∷ x ∷ xs) (k ∷ insert_key nat_cmp (x ∷ xs) a)) (sym (nat_cmp_is a k Greater l)) ∙ ap (λ ys. k ∷ ys) e

not-first : (a k x : ℕ) (xs : List ℕ) (q : Ordering) → MatchOrdering q (a < x) (a ≡ x) (x < a) → k < x → match_ordering q (a ∷ x ∷ xs) (x ∷ xs) (x ∷ insert_key nat_cmp xs a) ≡ x ∷ xs → k < a
not-first a k x xs Less o l e = absurd (no-longer a (x ∷ xs) e)
not-first a k x xs Equal o l e = omega (arith, o, l)
not-first a k x xs Greater o l e = omega (arith, o, l)

tail-of : (x : ℕ) (xs ys : List ℕ) → x ∷ xs ≡ x ∷ ys → xs ≡ ys
tail-of x xs ys e = cc

further : (a k x : ℕ) (xs ys : List ℕ) (q : Ordering) → (insert_key nat_cmp xs a ≡ xs → insert_key nat_cmp ys a ≡ ys) → match_ordering q (a ∷ x ∷ xs) (x ∷ xs) (x ∷ insert_key nat_cmp xs a) ≡ x ∷ xs →
    match_ordering q (a ∷ x ∷ ys) (x ∷ ys) (x ∷ insert_key nat_cmp ys a) ≡ x ∷ ys
further a k x xs ys Less rest e = absurd (no-longer a (x ∷ xs) e)
further a k x xs ys Equal rest e = refl
further a k x xs ys Greater rest e = ap (λ zs. x ∷ zs) (rest (tail-of x (insert_key nat_cmp xs a) xs e))

still-by : (a k x : ℕ) (xs : List ℕ) (r : Ordering) → MatchOrdering r (k < x) (k ≡ x) (x < k) → (insert_key nat_cmp xs a ≡ xs → insert_key nat_cmp (insert_key nat_cmp xs k) a ≡ insert_key nat_cmp xs k) → insert_key nat_cmp (x ∷ xs) a ≡ x ∷ xs →
    insert_key nat_cmp (match_ordering r (k ∷ x ∷ xs) (x ∷ xs) (x ∷ insert_key nat_cmp xs k)) a ≡ match_ordering r (k ∷ x ∷ xs) (x ∷ xs) (x ∷ insert_key nat_cmp xs k)
still-by a k x xs Less o rest e = following a k x xs (not-first a k x xs (nat_cmp a x) (ranks a x) o e) e
still-by a k x xs Equal o rest e = e
still-by a k x xs Greater o rest e = further a k x xs (insert_key nat_cmp xs k) (nat_cmp a x) rest e

still-known : (a k : ℕ) (xs : List ℕ) → insert_key nat_cmp xs a ≡ xs → insert_key nat_cmp (insert_key nat_cmp xs k) a ≡ insert_key nat_cmp xs k
still-known a k [] e = absurd (cc)
still-known a k (x ∷ xs) e = still-by a k x xs (nat_cmp k x) (ranks k x) (still-known a k xs) e

same-order : (k : ℕ) → Equal ≡ nat_cmp k k
same-order k = nat_cmp_is k k Equal refl

now-by : (k x : ℕ) (xs : List ℕ) (r : Ordering) → r ≡ nat_cmp k x → insert_key nat_cmp (insert_key nat_cmp xs k) k ≡ insert_key nat_cmp xs k →
    insert_key nat_cmp (match_ordering r (k ∷ x ∷ xs) (x ∷ xs) (x ∷ insert_key nat_cmp xs k)) k ≡ match_ordering r (k ∷ x ∷ xs) (x ∷ xs) (x ∷ insert_key nat_cmp xs k)
now-by k x xs Less e rest = ap (λ r. match_ordering r (k ∷ k ∷ x ∷ xs) (k ∷ x ∷ xs) (k ∷ insert_key nat_cmp (x ∷ xs) k)) (sym (same-order k))
now-by k x xs Equal e rest = ap (λ r. match_ordering r (k ∷ x ∷ xs) (x ∷ xs) (x ∷ insert_key nat_cmp xs k)) (sym e)
now-by k x xs Greater e rest =
    ap (λ r. match_ordering r (k ∷ x ∷ insert_key nat_cmp xs k) (x ∷ insert_key nat_cmp xs k) (x ∷ insert_key nat_cmp (insert_key nat_cmp xs k) k)) (sym e) ∙ ap (λ ys. x ∷ ys) rest

now-known : (k : ℕ) (xs : List ℕ) → insert_key nat_cmp (insert_key nat_cmp xs k) k ≡ insert_key nat_cmp xs k
now-known k [] = ap (λ r. match_ordering r (k ∷ k ∷ []) (k ∷ []) (k ∷ k ∷ [])) (sym (same-order k))
now-known k (x ∷ xs) = now-by k x xs (nat_cmp k x) refl (now-known k xs)

-- ---- what is remembered

still-if : (a : ℕ) (keys : List ℕ) (o : Option ℕ) → IfSome o (IsKnown keys) → IfSome o (IsKnown (insert_key nat_cmp keys a))
still-if a keys None h = tt
still-if a keys (Some k) h = still-known k a keys h

pub nothing_remembered : (n : ℕ) → Remembers [] (replicate n None)
nothing_remembered n = All-replicate (λ o. IfSome o (IsKnown [])) n None tt

pub remembered : (keys : List ℕ) (slots : List (Option ℕ)) (i a : ℕ) → i < length slots → Some a ≡ get_or slots i (Some a) → Remembers keys slots → IsKnown keys a
remembered keys slots i a inside e h =
    let known = λ (o : Option ℕ). IfSome o (IsKnown keys) in
    subst known (sym e) (All-get_or known slots i (Some a) inside h)

pub one_more_remembered : (keys : List ℕ) (slots : List (Option ℕ)) (i a : ℕ) → Remembers keys slots → Remembers (insert_key nat_cmp keys a) (set slots i (Some a))
one_more_remembered keys slots i a h =
    let known = λ (o : Option ℕ). IfSome o (IsKnown keys) in
    let then = λ (o : Option ℕ). IfSome o (IsKnown (insert_key nat_cmp keys a)) in
    All-set then slots i (Some a) (now-known a keys) (All-from_get_or then slots None (λ j l. still-if a keys (get_or slots j None) (All-get_or known slots j None l h)))

pub known_told : (keys : List ℕ) (t : Trace) → IsKnown keys t.pc → covering keys ≡ later t (covering keys)
unfolding addresses_after
known_told keys t e = ap covering (sym e)

pub ruleset remembering = (nothing_remembered, remembered, one_more_remembered, known_told)
