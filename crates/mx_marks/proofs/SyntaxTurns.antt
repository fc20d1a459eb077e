-- Operands that are read part after part.
use Rattle.std.proofs.Common.{◌≡◌, ◌≢◌, ◌≤◌, ◌<◌, ℕ, zero, suc, ◌-◌, List, ◌∷◌, length, take, drop, Bool, arith, refl}
use Rattle.std.proofs.lemmas.List.{take_all}
use Rattle.mx_word.proofs.Comparisons.{other-test}
use Rattle.mx_marks.specs.Syntax.{ended, is_wanting, scan_from, step_length}

pub rest-whole : (b : ℕ) (bs : List ℕ) → take (length (b ∷ bs) - 1) bs ≡ bs
rest-whole b bs = take_all (length (b ∷ bs) - 1) bs (omega arith)

pub ruleset rests = (rest-whole)

pub scan-none : (n : ℕ) (wants : Bool) (text : List ℕ) → n ≤ 0 → scan_from n wants text ≡ ended wants text
unfolding scan_from
scan-none zero wants text e = refl
scan-none (suc n) wants text e = absurd (omega (arith, e))

pub scan-stops : (n : ℕ) (wants : Bool) (text : List ℕ) → step_length wants text ≡ 0 → scan_from n wants text ≡ ended wants text
unfolding scan_from
scan-stops zero wants text e = refl
scan-stops (suc n) wants text e = rw e refl

pub scan-next : (n : ℕ) (wants : Bool) (text : List ℕ) → 0 < n → step_length wants text ≢ 0 →
    scan_from n wants text ≡ scan_from (n - 1) (is_wanting wants text) (drop (step_length wants text) text)
unfolding scan_from
scan-next zero wants text e other = absurd (omega (arith, e))
scan-next (suc n) wants text e other = let less : suc n - 1 ≡ n = omega arith in rw (other-test (step_length wants text) 0 other, less) refl

pub ruleset scans = (scan-none, scan-stops, scan-next)
