-- Lists of addresses in ascending order, and what items add to them.
use Rattle.std.proofs.Common.{◌≡◌, ℕ, ◌+◌, ◌%◌, ◌^◌, ◌<◌, length, append-nil, append_assoc, Result, cond, IfOk, nat_lt, List, [], ◌∷◌, ◌++◌, Some, None, Ok, Err, refl, sym, ap, ◌∙◌, Bool, true, false, ◌||◌, ◌==◌, arith}
use Rattle.std.proofs.lemmas.Bool.Decides.{nat_tests}
use Rattle.std.specs.BTreeMap.{is_at}
use Rattle.std.specs.BTreeSet.{insert_key}
use Rattle.std.specs.List.{list_any}
use Rattle.std.specs.Ordering.{nat_cmp}
use Rattle.mx_mmo.specs.Replies.{ReaderModel, Then, feed_answer, feed_next, fresh, limit, next_answer, refused}
use Rattle.mx_mmo.specs.declared.faults.MmoFault.TheVariants.{TooLong}
unfoldable use Rattle.mx_mmo.specs.Whole.{items_of}
use Rattle.mx_mmo.specs.declared.faults.MmoFault.{MmoFault}
use Rattle.mx_mmo.specs.declared.items.Item.{Item}
use Rattle.mx_mmo.proofs.Nexts.{next-gave, next-none, next-fault}
use Rattle.mx_type.specs.Lambda.{lambda_after}
use Rattle.mx_type.specs.Lines.{tetra_address}
use Rattle.mx_object.specs.Addresses.{has, joined, joined_by, octa_tetras, with_all}
use Rattle.mx_object.specs.Reading.{HasNoted, left}

-- ---- more addresses

pub with-append : (addresses xs ys : List ℕ) → with_all addresses (xs ++ ys) ≡ with_all (with_all addresses xs) ys
unfolding with_all
with-append addresses [] ys = refl
with-append addresses (x ∷ xs) ys = with-append (insert_key nat_cmp addresses x) xs ys

pub with-none : (addresses : List ℕ) → with_all addresses [] ≡ addresses
unfolding with_all
with-none addresses = refl

pub two-more : (addresses one both : List ℕ) (a b : ℕ) → one ≡ with_all addresses (a ∷ []) → both ≡ with_all one (b ∷ []) → both ≡ with_all addresses (a ∷ b ∷ [])
unfolding with_all
two-more addresses one both a b e f = f ∙ ap (λ l. insert_key nat_cmp l b) e

pub octa-more : (addresses one both : List ℕ) (a high : ℕ) → high ≡ tetra_address a → one ≡ with_all addresses (high ∷ []) → both ≡ with_all one ((high + 4) % 2 ^ 64 ∷ []) →
    both ≡ with_all addresses (octa_tetras a)
octa-more addresses one both a high is e f =
    two-more addresses one both high ((high + 4) % 2 ^ 64) e f ∙ ap (λ h. with_all addresses (h ∷ (h + 4) % 2 ^ 64 ∷ [])) is

pub ruleset more = (with-none, octa-more)

-- ---- whether an address is there

has-key : (a b : ℕ) → is_at (nat_cmp a) b ≡ (b == a)
has-key a b = grind (arith, nat_tests)

pub has-is : (addresses : List ℕ) (a : ℕ) → list_any (is_at (nat_cmp a)) addresses ≡ has addresses a
unfolding has
has-is [] a = refl
has-is (b ∷ addresses) a = (λ i. has-key a b i || has-is addresses a i)

pub ruleset looking = (has-is)

-- ---- items in turn

pub left-more : (old new : List ℕ) (from to : ℕ) (m n : ReaderModel) (item : Item) → m.fault ≡ None → (Ok (Some item), n) ≡ next_answer m → HasNoted old new from to item →
    left old from m ≡ left new to n
unfolding joined
left-more old new from to m n item well e h =
    ap (λ w. with_all old (joined from w.0)) (sym (next-gave [] m n item well e).same)
    ∙ with-append old (joined_by from item) (joined (lambda_after from item) (items_of n.phase n.at n.rest).0)
    ∙ (λ i. with_all (sym h.addresses i) (joined (sym h.lambda i) (items_of n.phase n.at n.rest).0))

pub left-none : (old : List ℕ) (from : ℕ) (m n : ReaderModel) → m.fault ≡ None → (Ok None, n) ≡ next_answer m → left old from m ≡ old
unfolding joined with_all
left-none old from m n well e = ap (λ w. with_all old (joined from w.0)) (next-none m n well e).1

pub left-fault : (old : List ℕ) (from : ℕ) (m n : ReaderModel) (fault : MmoFault) → m.fault ≡ None → (Err fault, n) ≡ next_answer m → left old from m ≡ old
unfolding joined with_all
left-fault old from m n fault well e = ap (λ w. with_all old (joined from w.0)) (next-fault m n fault well e)

-- ---- answers

pub has-noted : {E : Type 0} (P : Type 0) (r : Result Bool E) → IfOk r (λ more. (more ≡ true) × P) → r ≡ Ok true → P
has-noted P (Ok b) h e = h.1
has-noted P (Err x) h e = absurd (cc)

pub no-more : {E : Type 0} (P : Type 0) (r : Result Bool E) → IfOk r (λ more. (more ≡ false) × P) → r ≡ Ok true → ⊥
no-more P (Ok true) h e = let no = h.0 in cc
no-more P (Ok false) h e = cc
no-more P (Err x) h e = cc

pub was-stopped : {E : Type 0} (P : Type 0) (r : Result Bool E) → IfOk r (λ more. (more ≡ false) × P) → r ≡ Ok false → P
was-stopped P (Ok b) h e = h.1
was-stopped P (Err x) h e = absurd (cc)
