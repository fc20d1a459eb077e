-- Faults are told in the order of their lines, each line once.
use Rattle.std.proofs.Common.{◌≡◌, ◌<◌, ℕ, zero, suc, List, [], ◌∷◌, ◌++◌, length, Bool, true, false, nat_lt, ◌==◌, ◌||◌, Option, None, Some, arith, refl}
use Rattle.std.specs.List.{All, AllByRecursion, AllPairs}
use Rattle.std.proofs.lemmas.Bool.{cond_both}
use Rattle.std.proofs.lemmas.Bool.Decides.{nat_tests}
use Rattle.std.proofs.lemmas.List.Kept.{AllPairs-cons}
use Rattle.mx_asm.specs.declared.refused.Refused.{Refused}
use Rattle.mx_files.specs.declared.refusal.Refusal.{Refusal}
use Rattle.mx_view.specs.declared.checking.ToldFault.{ToldFault}
use Rattle.mx_view.specs.declared.checking.ToldFaults.{ToldFaults}
use Rattle.mx_view.specs.declared.search.Finding.TheVariants.{New, Again, Beyond, Whole}
use Rattle.mx_view.specs.declared.search.Looked.{Looked}
use Rattle.mx_view.specs.declared.search.Looked.TheVariants.{Next, Ended}
use Rattle.mx_view.specs.Listing.{refusal_in}
use Rattle.mx_view.specs.Search.{added_as, assembly_refusal, ended_as, kind_of, found_in, found_with, inserted, is_at, is_before, is_of_whole, line_at_fault, looked_with}
unfoldable use Rattle.mx_view.specs.Search.{found}
use Rattle.mx_view.specs.Refusals.{IsEarlier, faulty_line, faults_by, faults_in, told_at, told_found, told_if, told_lines, told_whole, with_refusal}

-- ---- refusals in the order of their lines

abbrev Before : Refused → Refused → Type 0
Before r q = line_at_fault r < line_at_fault q

abbrev Ascending : List Refused → Type 0
Ascending [] = Unit {0}
Ascending (r ∷ rs) = AllByRecursion (Before r) rs × Ascending rs

inserted-all : (P : Refused → Type 0) (r : Refused) (rs : List Refused) → P r → AllByRecursion P rs → AllByRecursion P (inserted r rs)
inserted-all P r [] h all = (h, tt)
inserted-all P r (q ∷ qs) h all =
    cond_both (is_before (line_at_fault r) q) (q ∷ inserted r qs) (r ∷ q ∷ qs) (AllByRecursion P) (λ e. (all.0, inserted-all P r qs h all.1)) (λ e. (h, all))

later : (r q : Refused) (qs : List Refused) → Before r q → AllByRecursion (Before q) qs → AllByRecursion (Before r) qs
later r q [] h all = tt
later r q (p ∷ ps) h all = (let first = all.0 in omega (arith, first, h), later r q ps h all.1)

less : (a b : ℕ) → nat_lt a b ≡ true → a < b
less a b e = grind (arith, nat_tests)

greater : (a b : ℕ) → nat_lt a b ≡ false → (a == b) ≡ false → b < a
greater a b e f = grind (arith, nat_tests)

not-first : (a b : Bool) → (a || b) ≡ false → a ≡ false
not-first true b e = absurd (cc)
not-first false b e = refl

not-second : (a b : Bool) → (a || b) ≡ false → b ≡ false
not-second true b e = absurd (cc)
not-second false b e = e

inserted-ascends : (r : Refused) (rs : List Refused) → is_at rs (line_at_fault r) ≡ false → Ascending rs → Ascending (inserted r rs)
inserted-ascends r [] new h = (tt, tt)
inserted-ascends r (q ∷ qs) new h =
    cond_both (is_before (line_at_fault r) q) (q ∷ inserted r qs) (r ∷ q ∷ qs) Ascending
    (λ e. (inserted-all (Before q) r qs (less (line_at_fault q) (line_at_fault r) e) h.0, inserted-ascends r qs (not-second (line_at_fault q == line_at_fault r) _ new) h.1))
    (λ e. let first = greater (line_at_fault q) (line_at_fault r) e (not-first (line_at_fault q == line_at_fault r) _ new) in ((first, later r q qs first h.0), h))

-- a refusal that is new is at none of the lines that were found
added-ascends : (before : List Refused) (r : Refused) → Ascending before → Ascending (added_as (kind_of before r) before r)
added-ascends before r h =
    cond_both (is_of_whole r.fault) Whole _ (λ k. Ascending (added_as k before r)) (λ e. h)
    (λ e. cond_both (is_at before (line_at_fault r)) Again _ (λ k. Ascending (added_as k before r)) (λ f. h)
    (λ f. cond_both (length before == 100) Beyond New (λ k. Ascending (added_as k before r)) (λ g. h) (λ g. inserted-ascends r before f h)))

with-ascends : (before : List Refused) (o : Option Refused) → Ascending before → Ascending (found_with before o)
with-ascends before None h = h
with-ascends before (Some r) h = added-ascends before r h

found-ascends : (n : ℕ) (before : List Refused) (source : List ℕ) → Ascending before → Ascending (found n before source).lines
unfolding found
found-ascends zero before source h = h
found-ascends (suc n) before source h = by (looked_with before source (assembly_refusal source)) (found_with before (assembly_refusal source)) (with-ascends before (assembly_refusal source) h) (found-ascends n)
  where
    by : (next : Looked) (lines : List Refused) → Ascending lines → ((before : List Refused) (source : List ℕ) → Ascending before → Ascending (found n before source).lines) →
        Ascending (ended_as (found n) lines next).lines
    by (Next source) lines g more = more lines source g
    by (Ended whole is_cut) lines g more = g

-- ---- faults that are told

abbrev Orders : ToldFaults → Type 0
Orders told = AllPairs IsEarlier told.faults

-- by places in the list
all-later : (P : ToldFault → Type 0) (faults : List ToldFault) → AllByRecursion P faults → All P faults
all-later P [] h k d within = absurd (omega (arith, within))
all-later P (f ∷ faults) h zero d within = h.0
all-later P (f ∷ faults) h (suc k) d within = all-later P faults h.1 k d (omega (arith, within))

nothing : AllPairs IsEarlier []
nothing i j d lt within = absurd (omega (arith, within))

whole-later : (source : List ℕ) (f : ToldFault) (o : Option Refusal) → AllByRecursion (IsEarlier f) (told_if source o)
whole-later source f None = tt
whole-later source f (Some r) = ((λ first second. absurd (cc)), tt)

lines-later : (source : List ℕ) (r : Refused) (rs : List Refused) (o : Option Refusal) → AllByRecursion (Before r) rs →
    AllByRecursion (IsEarlier (told_at source r (faulty_line source r))) (told_lines source rs ++ told_if source o)
lines-later source r [] o h = whole-later source (told_at source r (faulty_line source r)) o
lines-later source r (q ∷ qs) o h = ((λ first second. h.0), lines-later source r qs o h.1)

whole-alone : (source : List ℕ) (o : Option Refusal) → AllPairs IsEarlier (told_if source o)
whole-alone source None = nothing
whole-alone source (Some r) = AllPairs-cons IsEarlier (told_whole source r) [] (all-later (IsEarlier (told_whole source r)) [] tt) nothing

lines-ordered : (source : List ℕ) (lines : List Refused) (o : Option Refusal) → Ascending lines → AllPairs IsEarlier (told_lines source lines ++ told_if source o)
lines-ordered source [] o h = whole-alone source o
lines-ordered source (r ∷ rs) o h =
    AllPairs-cons IsEarlier (told_at source r (faulty_line source r)) (told_lines source rs ++ told_if source o)
    (all-later (IsEarlier (told_at source r (faulty_line source r))) _ (lines-later source r rs o h.0)) (lines-ordered source rs o h.1)

pub in-order : (source : List ℕ) → AllPairs IsEarlier (faults_in source).faults
in-order source = by (refusal_in source)
  where
    by : (o : Option Refusal) → Orders (faults_by source o)
    by None = nothing
    by (Some r) =
        cond_both (r.fault == 90) (with_refusal (Some r) (told_whole source r ∷ []) false) (told_found source (Some r) (found_in source)) Orders
        (λ e. whole-alone source (Some r)) (λ e. lines-ordered source (found_in source).lines (found_in source).whole (found-ascends 201 [] source tt))

pub ruleset orders = (in-order)
