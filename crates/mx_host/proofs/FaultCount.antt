-- How the count of faults goes with the number of calls.
use Rattle.std.proofs.Common.{◌≡◌, ℕ, ◌+◌, ◌<◌, ◌≤◌, List, [], ◌∷◌, Bool, true, false, nat_lt, cond, arith, ◌||◌, ap}
use Rattle.std.specs.Prelude.{◌==◌, ◌&&◌, not}
use Rattle.std.proofs.lemmas.Bool.Decides.{nat_tests}
use Rattle.mx_host.specs.HostModel.{fault_count, is_listed}

mono-step : (k n x y : ℕ) (d : Bool) → x ≤ y → cond (nat_lt k n && d) 1 0 + x ≤ cond (nat_lt k (n + 1) && d) 1 0 + y
mono-step k n x y d h = grind (arith, nat_tests)

-- b tells whether n is further on, and d whether k does not
rises-step : (k n x y : ℕ) (b d : Bool) → x ≤ y → (b ≡ true → x < y) → (k == n || b) ≡ true → (k ≡ n → d ≡ not b) →
    cond (nat_lt k n && d) 1 0 + x < cond (nat_lt k (n + 1) && d) 1 0 + y
rises-step k n x y true d h r e same = grind (arith, nat_tests)
rises-step k n x y false d h r e same = grind (arith, nat_tests)

pub fault_count-mono : (n : ℕ) (failing : List ℕ) → fault_count n failing ≤ fault_count (n + 1) failing
unfolding fault_count
fault_count-mono n [] = omega arith
fault_count-mono n (k ∷ ks) = mono-step k n _ _ (not (is_listed k ks)) (fault_count-mono n ks)

pub fault_count-rises : (n : ℕ) (failing : List ℕ) → is_listed n failing ≡ true → fault_count n failing < fault_count (n + 1) failing
unfolding fault_count
fault_count-rises n [] h = cc
fault_count-rises n (k ∷ ks) h =
    rises-step k n _ _ (is_listed n ks) (not (is_listed k ks)) (fault_count-mono n ks) (fault_count-rises n ks) h (λ e. ap (λ c. not (is_listed c ks)) e)

pub ruleset rising = (fault_count-mono, fault_count-rises)
