-- How many processors a schedule needs.
use Rattle.std.proofs.Common.{◌≡◌, ◌≤◌, ◌<◌, ℕ, ◌+◌, Bool, true, false, cond, nat_le, List, [], ◌∷◌, ◌++◌, ap, get_or, length, max, take, arith, refl, ◌∙◌}
use Rattle.std.proofs.lemmas.Bool.Decides.{nat_tests}
use Rattle.std.proofs.lemmas.List.{take_more}
use Rattle.mx_multi.specs.Schedules.{AreNames}
use Rattle.mx_files.specs.Schedules.{AreEight}
use Rattle.mx_top.specs.Processors.{with_named, counted_from}

named-step : (count who : ℕ) (b : Bool) → nat_le count who ≡ b → (count ≤ cond b (who + 1) count) × (who < cond b (who + 1) count)
named-step count who true e = (grind (arith, nat_tests), omega arith)
named-step count who false e = (omega arith, grind (arith, nat_tests))

eight-step : (count who : ℕ) (b : Bool) → count ≤ 8 → who < 8 → cond b (who + 1) count ≤ 8
eight-step count who true h l = omega (arith, l)
eight-step count who false h l = h

pub counted-least : (count : ℕ) (schedule : List ℕ) → count ≤ counted_from count schedule
counted-least count [] = omega arith
counted-least count (who ∷ rest) =
    let more = counted-least (with_named count who) rest in
    let step = named-step count who (nat_le count who) refl in omega (arith, more, step.0)

pub counted-most : (count : ℕ) (schedule : List ℕ) → count ≤ 8 → AreEight schedule → counted_from count schedule ≤ 8
counted-most count [] h e = h
counted-most count (who ∷ rest) h e = counted-most (with_named count who) rest (eight-step count who (nat_le count who) h e.0) e.1

pub counted-names : (count : ℕ) (schedule : List ℕ) → AreNames (counted_from count schedule) schedule
counted-names count [] = tt
counted-names count (who ∷ rest) =
    let more = counted-least (with_named count who) rest in
    let step = named-step count who (nat_le count who) refl in
    (omega (arith, more, step.1), counted-names (with_named count who) rest)

-- ---- by the greatest name

counted-end : (count : ℕ) (names : List ℕ) (who : ℕ) → counted_from count (names ++ who ∷ []) ≡ with_named (counted_from count names) who
counted-end count [] who = refl
counted-end count (x ∷ xs) who = counted-end (with_named count x) xs who

greatest-step : (most who : ℕ) (b : Bool) → nat_le (most + 1) who ≡ b → cond b (who + 1) (most + 1) ≡ max most who + 1
greatest-step most who true e = let l : most < who = grind (arith, nat_tests) in omega (arith, l)
greatest-step most who false e = let l : who < most + 1 = grind (arith, nat_tests) in omega (arith, l)

pub greatest-more : (schedule : List ℕ) (at d most : ℕ) → at < length schedule → counted_from 1 (take at schedule) ≡ most + 1 →
    counted_from 1 (take (at + 1) schedule) ≡ max most (get_or schedule at d) + 1
greatest-more schedule at d most inside e =
    ap (counted_from 1) (take_more schedule at d inside) ∙ counted-end 1 (take at schedule) (get_or schedule at d) ∙ ap (λ n. with_named n (get_or schedule at d)) e
    ∙ greatest-step most (get_or schedule at d) (nat_le (most + 1) (get_or schedule at d)) refl

pub ruleset counting = (counted-most, greatest-more)
