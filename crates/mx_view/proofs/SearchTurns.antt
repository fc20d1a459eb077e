-- Faults that are found one after another.
use Rattle.std.proofs.Common.{◌≡◌, ℕ, zero, suc, ◌-◌, ◌<◌, ◌≤◌, List, [], ◌∷◌, length, Bool, true, false, cond, take_while, arith, refl, sym, ap, ◌∙◌, None, Option}
use Rattle.std.specs.List.{insert, prefix_len}
use Rattle.std.proofs.lemmas.List.{length-take}
use Rattle.std.proofs.lemmas.List.Sums.{take_while-cons}
use Rattle.mx_asm.specs.declared.refused.Refused.{Refused}
use Rattle.mx_files.specs.declared.refusal.Refusal.{Refusal}
use Rattle.mx_view.specs.declared.search.Looked.TheVariants.{Next, Ended}
use Rattle.mx_view.specs.Search.{assembly_refusal, ended_as, found, found_with, inserted, is_before, line_at_fault, looked_with}

-- ---- one source after another

pub step : (n : ℕ) (before : List Refused) (source : List ℕ) → 0 < n →
    found n before source ≡ ended_as (found (n - 1)) (found_with before (assembly_refusal source)) (looked_with before source (assembly_refusal source))
unfolding found
step zero before source e = absurd (omega arith)
step (suc n) before source e = let less : suc n - 1 ≡ n = omega arith in rw less refl

pub found-more : (n : ℕ) (before : List Refused) (source next : List ℕ) → 0 < n → Next next ≡ looked_with before source (assembly_refusal source) →
    found n before source ≡ found (n - 1) (found_with before (assembly_refusal source)) next
found-more n before source next e is =
    step n before source e ∙ ap (ended_as (found (n - 1)) (found_with before (assembly_refusal source))) (sym is)

pub found-last : (n : ℕ) (before : List Refused) (source : List ℕ) (lines : List Refused) (whole : Option Refusal) (is_cut : Bool) → 0 < n →
    lines ≡ found_with before (assembly_refusal source) → Ended whole is_cut ≡ looked_with before source (assembly_refusal source) →
    found n before source ≡ record { lines = lines; whole = whole; is_cut = is_cut }
found-last n before source lines whole is_cut e are is =
    step n before source e ∙ ap (ended_as (found (n - 1)) (found_with before (assembly_refusal source))) (sym is)
    ∙ ap (λ (l : List Refused). ended_as (found (n - 1)) l (Ended whole is_cut)) (sym are)

pub found-none : (n : ℕ) (before : List Refused) (source : List ℕ) → n ≤ 0 → found n before source ≡ record { lines = before; whole = None; is_cut = true }
unfolding found
found-none zero before source e = refl
found-none (suc n) before source e = absurd (omega arith)

pub ruleset turns = (found-more, found-last, found-none)

-- ---- in the order of lines

pub inserted-is : (r : Refused) (lines : List Refused) → insert lines (length (take_while (is_before (line_at_fault r)) lines)) r ≡ inserted r lines
inserted-is r [] = refl
inserted-is r (q ∷ qs) =
    ap (λ (l : List Refused). insert (q ∷ qs) (length l) r) (take_while-cons (is_before (line_at_fault r)) q qs) ∙ by (is_before (line_at_fault r) q) (inserted-is r qs)
  where
    by : (b : Bool) → insert qs (length (take_while (is_before (line_at_fault r)) qs)) r ≡ inserted r qs →
        insert (q ∷ qs) (length (cond b (q ∷ take_while (is_before (line_at_fault r)) qs) [])) r ≡ cond b (q ∷ inserted r qs) (r ∷ q ∷ qs)
    by true more = ap (λ l. q ∷ l) more
    by false more = refl

pub few-before : (line : ℕ) (lines : List Refused) → length (take_while (is_before line) lines) ≤ length lines
few-before line lines = omega (arith, length-take (prefix_len (is_before line) lines) lines)

pub ruleset insertions = (inserted-is, few-before)
