-- Tallies in words of the traces.
use Rattle.std.proofs.Common.{◌≡◌, ℕ, ◌+◌, Bool, true, false, cond, ◌&&◌, ◌||◌, eqb, List, [], ◌∷◌, length, arith, refl, sym, ap, ◌∙◌}
use Rattle.std.proofs.lemmas.Bool.Decides.{nat_tests}
use Rattle.std.proofs.lemmas.List.Sums.{sum_by-cons}
use Rattle.std.specs.List.{filter, sum_by}
use Rattle.mx_code.specs.declared.trace.Trace.{Trace}
use Rattle.mx_view.specs.declared.cells.Cell.{Cell}
use Rattle.mx_word.proofs.Comparisons.{same-number}
use Rattle.mx_costs.specs.Costs.{mems, oops}
use Rattle.mx_count.specs.Sheets.{is_among}
use Rattle.mx_count.specs.Tallies.{added, code_in, goes_away, nothing, step_tally, tally_in}
use Rattle.mx_count.specs.declared.tally.Tally.{Tally}
use Rattle.mx_count.proofs.TallyLaws.{nothing-more, moved, moved-second}

-- one trace more
times-more : (b : Bool) (one rest : Tally) (t : Trace) (those : List Trace) → one.times ≡ 1 → rest.times ≡ length those →
    (cond b one nothing).times + rest.times ≡ length (cond b (t ∷ those) those)
unfolding nothing
times-more true one rest t those o r = omega (arith, o, r)
times-more false one rest t those o r = omega (arith, r)

pub times-are : (test : ℕ → Bool) (h : List Trace) → (tally_in test h).times ≡ length (filter (λ t. test t.pc) h)
unfolding tally_in added nothing
times-are test [] = refl
times-are test (t ∷ ts) = times-more (test t.pc) (step_tally t) (tally_in test ts) t (filter (λ t. test t.pc) ts) refl (times-are test ts)

away-more : (b away : Bool) (one rest : Tally) (t : Trace) (those : List Trace) → one.away ≡ cond away 1 0 → rest.away ≡ length those →
    (cond b one nothing).away + rest.away ≡ length (cond (b && away) (t ∷ those) those)
unfolding nothing
away-more true true one rest t those o r = omega (arith, o, r)
away-more true false one rest t those o r = omega (arith, o, r)
away-more false away one rest t those o r = omega (arith, r)

pub away-are : (test : ℕ → Bool) (h : List Trace) → (tally_in test h).away ≡ length (filter (λ t. test t.pc && goes_away t) h)
unfolding tally_in added nothing
away-are test [] = refl
away-are test (t ∷ ts) =
    away-more (test t.pc) (goes_away t) (step_tally t) (tally_in test ts) t (filter (λ t. test t.pc && goes_away t) ts) refl (away-are test ts)

sum-more : (b : Bool) (f : Trace → ℕ) (n : ℕ) (t : Trace) (those : List Trace) → n ≡ sum_by f those → cond b (f t) 0 + n ≡ sum_by f (cond b (t ∷ those) those)
sum-more true f n t those r = ap (λ m. f t + m) r ∙ sym (sum_by-cons f t those)
sum-more false f n t those r = omega (arith, r)

oops-of : (b : Bool) (one : Tally) → (cond b one nothing).oops ≡ cond b one.oops 0
unfolding nothing
oops-of true one = refl
oops-of false one = refl

mems-of : (b : Bool) (one : Tally) → (cond b one nothing).mems ≡ cond b one.mems 0
unfolding nothing
mems-of true one = refl
mems-of false one = refl

abbrev oops_in : Trace → ℕ
oops_in t = oops (code_in t) (goes_away t)

abbrev mems_in : Trace → ℕ
mems_in t = mems (code_in t)

pub oops-are : (test : ℕ → Bool) (h : List Trace) → (tally_in test h).oops ≡ sum_by (λ t. oops (code_in t) (goes_away t)) (filter (λ t. test t.pc) h)
unfolding tally_in added nothing
oops-are test [] = refl
oops-are test (t ∷ ts) =
    ap (λ n. n + (tally_in test ts).oops) (oops-of (test t.pc) (step_tally t))
    ∙ sum-more (test t.pc) oops_in (tally_in test ts).oops t (filter (λ t. test t.pc) ts) (oops-are test ts)

pub mems-are : (test : ℕ → Bool) (h : List Trace) → (tally_in test h).mems ≡ sum_by (λ t. mems (code_in t)) (filter (λ t. test t.pc) h)
unfolding tally_in added nothing
mems-are test [] = refl
mems-are test (t ∷ ts) =
    ap (λ n. n + (tally_in test ts).mems) (mems-of (test t.pc) (step_tally t))
    ∙ sum-more (test t.pc) mems_in (tally_in test ts).mems t (filter (λ t. test t.pc) ts) (mems-are test ts)

pub ruleset numbers = (times-are, away-are, oops-are, mems-are)

-- ---- lines

pub line-none : (h : List Trace) → tally_in (is_among []) h ≡ nothing
unfolding tally_in is_among
line-none [] = refl
line-none (t ∷ ts) = ap (added nothing) (line-none ts) ∙ nothing-more nothing

-- an address is here, or among the others, and not both
step-either : (here there : Bool) (one x y : Tally) → (here ≡ true → there ≡ false) →
    added (cond (here || there) one nothing) (added x y) ≡ added (added (cond here one nothing) x) (added (cond there one nothing) y)
step-either true true one x y apart = let e = apart refl in absurd (cc)
step-either true false one x y apart = moved one x y
step-either false there one x y apart = moved-second (cond there one nothing) x y

apart-at : (cells : List Cell) (c a : ℕ) → is_among cells c ≡ false → eqb c a ≡ true → is_among cells a ≡ false
apart-at cells c a e same = ap (is_among cells) (sym (same-number c a same)) ∙ e

same-way : (a b : ℕ) → eqb a b ≡ eqb b a
same-way a b = grind (arith, nat_tests)

pub line-more : (c : Cell) (cells : List Cell) (h : List Trace) → is_among cells c.address ≡ false →
    tally_in (is_among (c ∷ cells)) h ≡ added (tally_in (λ a. eqb a c.address) h) (tally_in (is_among cells) h)
unfolding tally_in is_among
line-more c cells [] apart = sym (nothing-more nothing)
line-more c cells (t ∷ ts) apart =
    ap (added (cond (eqb c.address t.pc || is_among cells t.pc) (step_tally t) nothing)) (line-more c cells ts apart)
    ∙ step-either (eqb c.address t.pc) (is_among cells t.pc) (step_tally t) (tally_in (λ a. eqb a c.address) ts) (tally_in (is_among cells) ts)
    (apart-at cells c.address t.pc apart)
    ∙ ap (λ b. added (added (cond b (step_tally t) nothing) (tally_in (λ a. eqb a c.address) ts)) (added (cond (is_among cells t.pc) (step_tally t) nothing) (tally_in (is_among cells) ts)))
    (same-way c.address t.pc)

pub ruleset lines = (line-none, line-more)
