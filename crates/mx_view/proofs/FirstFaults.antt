-- The refusal of a run is among the faults that are told.
use Rattle.std.proofs.Common.{◌≡◌, ℕ, zero, suc, List, [], ◌∷◌, ◌++◌, map, Bool, true, false, cond, ◌==◌, Option, None, Some, arith, refl, sym, ap, subst}
use Rattle.std.specs.List.{Contains}
use Rattle.std.specs.Result.{result_err}
use Rattle.std.proofs.lemmas.Bool.{cond_both}
use Rattle.std.proofs.lemmas.List.Elements.{Contains-append_left, Contains-append_right}
use Rattle.mx_mmo.specs.Image.{Image}
use Rattle.mx_mmo.specs.declared.items.Item.{Item}
use Rattle.mx_stmt.specs.Encoding.{StatementTree}
use Rattle.mx_asm.specs.Entries.{source_entries, statements_in}
use Rattle.mx_asm.specs.Image.{image}
use Rattle.mx_asm.specs.Pages.{accepted_in, page_refusal, run_refusal_with}
use Rattle.mx_asm.specs.Refusal.{refusal}
use Rattle.mx_asm.specs.Whole.{assembled_with, entries_items}
use Rattle.mx_asm.specs.declared.refused.Refused.{Refused}
use Rattle.mx_files.specs.Loading.{refusal_of}
use Rattle.mx_files.specs.Sources.{meaning_unless}
unfoldable use Rattle.mx_files.specs.Sources.{source_meaning}
use Rattle.mx_files.specs.declared.refusal.Refusal.{Refusal}
use Rattle.mx_view.specs.declared.checking.ToldFaults.{ToldFaults}
use Rattle.mx_view.specs.declared.search.Finding.{Finding}
use Rattle.mx_view.specs.declared.search.Finding.TheVariants.{New, Again, Beyond, Whole}
use Rattle.mx_view.specs.declared.search.Found.{Found}
use Rattle.mx_view.specs.declared.search.Looked.{Looked}
use Rattle.mx_view.specs.declared.search.Looked.TheVariants.{Next, Ended}
use Rattle.mx_view.specs.Listing.{refusal_in}
use Rattle.mx_marks.specs.Mending.{with_label}
use Rattle.mx_view.specs.Search.{added_as, assembly_refusal, ended_as, kind_of, found_in, found_with, inserted, is_before, is_of_whole, line_at_fault, looked_with, next_as}
unfoldable use Rattle.mx_view.specs.Search.{found}
use Rattle.mx_view.specs.Refusals.{faults_by, faults_in, refusals_of, told_found, told_if, told_lines, told_whole, with_refusal}

with-refusals : (statements : List StatementTree) (items : List Item) (o : Option Refused) → result_err (assembled_with statements items o).1 ≡ o
with-refusals statements items None = refl
with-refusals statements items (Some r) = refl

pub assembly-is : (source : List ℕ) → assembly_refusal source ≡ refusal source
assembly-is source = with-refusals (statements_in (source_entries source)) (entries_items (source_entries source)) (refusal source)

-- ---- lists

at-front : {X : Type 0} → (x : X) (xs : List X) → Contains (x ∷ xs) x
at-front x xs = (0, omega arith, refl)

in-rest : {X : Type 0} → (y : X) (xs : List X) (x : X) → Contains xs x → Contains (y ∷ xs) x
in-rest y xs x (k, within, is) = (suc k, omega (arith, within), is)

-- what is in a list is in another one that has its first element, and all that the rest has
in-other : {X : Type 0} → (y : X) (xs zs : List X) (x : X) → Contains (y ∷ xs) x → (Contains xs x → Contains zs x) → Contains (y ∷ zs) x
in-other y xs zs x (zero, within, is) more = (0, omega arith, is)
in-other y xs zs x (suc k, within, is) more = in-rest y zs x (more (k, omega (arith, within), is))

-- ---- what is found stays

abbrev IsAmong : Refusal → List Refused → Type 0
IsAmong r lines = Contains (map refusal_of lines) r

among-inserted : (r : Refusal) (q : Refused) (lines : List Refused) → IsAmong r lines → IsAmong r (inserted q lines)
among-inserted r q [] e = in-rest (refusal_of q) [] r e
among-inserted r q (p ∷ ps) e =
    cond_both (is_before (line_at_fault q) p) (p ∷ inserted q ps) (q ∷ p ∷ ps) (IsAmong r)
    (λ f. in-other (refusal_of p) (map refusal_of ps) (map refusal_of (inserted q ps)) r e (among-inserted r q ps)) (λ f. in-rest (refusal_of q) (map refusal_of (p ∷ ps)) r e)

among-with : (r : Refusal) (lines : List Refused) (o : Option Refused) → IsAmong r lines → IsAmong r (found_with lines o)
among-with r lines None e = e
among-with r lines (Some q) e = by (kind_of lines q)
  where
    by : (k : Finding) → IsAmong r (added_as k lines q)
    by New = among-inserted r q lines e
    by Again = e
    by Beyond = e
    by Whole = e

stays-found : (r : Refusal) (n : ℕ) (before : List Refused) (source : List ℕ) → IsAmong r before → IsAmong r (found n before source).lines
unfolding found
stays-found r zero before source e = e
stays-found r (suc n) before source e = by (looked_with before source (assembly_refusal source)) (found_with before (assembly_refusal source)) (among-with r before (assembly_refusal source) e) (stays-found r n)
  where
    by : (next : Looked) (lines : List Refused) → IsAmong r lines → ((before : List Refused) (source : List ℕ) → IsAmong r before → IsAmong r (found n before source).lines) →
        IsAmong r (ended_as (found n) lines next).lines
    by (Next source) lines g more = more lines source g
    by (Ended whole is_cut) lines g more = g

-- ---- what is told

abbrev Tells : Refusal → ToldFaults → Type 0
Tells r told = Contains (refusals_of told.faults) r

lines-told : (source : List ℕ) (lines : List Refused) → refusals_of (told_lines source lines) ≡ map refusal_of lines
lines-told source [] = refl
lines-told source (r ∷ rs) = ap (λ l. refusal_of r ∷ l) (lines-told source rs)

both-told : (source : List ℕ) (lines : List Refused) (o : Option Refusal) → refusals_of (told_lines source lines ++ told_if source o) ≡ map refusal_of lines ++ refusals_of (told_if source o)
both-told source [] o = refl
both-told source (r ∷ rs) o = ap (λ l. refusal_of r ∷ l) (both-told source rs o)

line-told : (r : Refusal) (source : List ℕ) (refused : Option Refusal) (f : Found) → IsAmong r f.lines → Tells r (told_found source refused f)
line-told r source refused f e = subst (λ l. Contains l r) (sym (both-told source f.lines f.whole)) (Contains-append_left (map refusal_of f.lines) (refusals_of (told_if source f.whole)) r e)

whole-told : (r : Refusal) (source : List ℕ) (refused : Option Refusal) (lines : List Refused) (is_cut : Bool) → Tells r (told_found source refused (record { lines = lines; whole = Some r; is_cut = is_cut }))
whole-told r source refused lines is_cut =
    subst (λ l. Contains l r) (sym (both-told source lines (Some r))) (Contains-append_right (map refusal_of lines) (r ∷ []) r (at-front r []))

-- the first source is that of the run
first-found : (source : List ℕ) (refused : Option Refusal) (q : Refused) → assembly_refusal source ≡ Some q → Tells (refusal_of q) (told_found source refused (found_in source))
unfolding found
first-found source refused q e =
    subst (λ o. Tells (refusal_of q) (told_found source refused (ended_as (found 200) (found_with [] o) (looked_with [] source o)))) (sym e)
    (by (is_of_whole q.fault))
  where
    by : (b : Bool) → Tells (refusal_of q) (told_found source refused (ended_as (found 200) (added_as (cond b Whole New) [] q) (next_as (cond b Whole New) source q)))
    by true = whole-told (refusal_of q) source refused [] false
    by false =
        let next : List ℕ = with_label (line_at_fault q) source in
        line-told (refusal_of q) source refused (found 200 (q ∷ []) next) (stays-found (refusal_of q) 200 (q ∷ []) next (at-front (refusal_of q) []))

is-ninety : (n : ℕ) → n ≡ 90 → (n == 90) ≡ true
is-ninety n e = rw e refl

run-told : (source : List ℕ) (r : Refusal) (pages : Option ℕ) (o : Option Refused) (whole : Image) → assembly_refusal source ≡ o →
    Some r ≡ result_err (meaning_unless (run_refusal_with pages o) whole) → Tells r (faults_by source (Some r))
run-told source r pages o whole e is =
    cond_both (r.fault == 90) (with_refusal (Some r) (told_whole source r ∷ []) false) (told_found source (Some r) (found_in source)) (Tells r)
    (λ f. at-front r []) (λ f. by pages o e is f)
  where
    by : (pages : Option ℕ) (o : Option Refused) → assembly_refusal source ≡ o → Some r ≡ result_err (meaning_unless (run_refusal_with pages o) whole) → (r.fault == 90) ≡ false →
        Tells r (told_found source (Some r) (found_in source))
    by (Some line) o e is f = let same : r.fault ≡ 90 = cc in let yes = is-ninety r.fault same in absurd (cc)
    by None None e is f = absurd (cc)
    by None (Some q) e is f = let same : refusal_of q ≡ r = cc in subst (λ x. Tells x (told_found source (Some x) (found_in source))) same (first-found source (Some (refusal_of q)) q e)

pub run-refusal-told : (source : List ℕ) (r : Refusal) → Some r ≡ refusal_in source → Contains (refusals_of (faults_in source).faults) r
unfolding source_meaning
run-refusal-told source r is =
    subst (λ o. Contains (refusals_of (faults_by source o).faults) r) is
    (run-told source r (page_refusal (accepted_in (source_entries source))) (refusal source) (image (statements_in (source_entries source))) (assembly-is source) is)

pub ruleset tellings = (run-refusal-told)
