-- Messages are numbered one after another.
use Rattle.std.proofs.Common.{◌≡◌, ◌+◌, ◌-◌, ◌++◌, ℕ, List, [], ◌∷◌, true, arith, length-append, subst, rules}
use Rattle.std.specs.Prelude.{nat_eq, length}
use Rattle.std.specs.List.{starts_with}
use Rattle.mx_adapter.specs.Numbers.{AreLast, are_numbered, front}

-- a text starts with its beginning
pub starts : (xs rest : List ℕ) → starts_with nat_eq (xs ++ rest) xs ≡ true
starts [] rest = search rules
starts (x ∷ xs) rest = search (rules, starts xs rest)

-- one more message after some
pub more : (n : ℕ) (bodies : List (List ℕ)) (rest : List ℕ) → are_numbered n bodies ≡ true → are_numbered n (bodies ++ (front (n + length bodies) ++ rest) ∷ []) ≡ true
more n [] rest h = search (rules, starts)
more n (b ∷ bs) rest h = search (rules, more (n + 1) bs rest)

pub one-more : (count : ℕ) (bodies : List (List ℕ)) (rest : List ℕ) → AreLast count bodies → AreLast (count + 1) (bodies ++ (front (count + 1) ++ rest) ∷ [])
one-more count bodies rest h =
    let longer : length (bodies ++ (front (count + 1) ++ rest) ∷ []) ≡ length bodies + 1 = length-append bodies ((front (count + 1) ++ rest) ∷ []) in
    let first : count - length bodies + 1 ≡ count + 1 - length (bodies ++ (front (count + 1) ++ rest) ∷ []) + 1 = omega (arith, longer, h.few) in
    let last : count - length bodies + 1 + length bodies ≡ count + 1 = omega (arith, h.few) in
    record {
      few = omega (arith, longer, h.few);
      numbered = subst (λ n. are_numbered n (bodies ++ (front (count + 1) ++ rest) ∷ []) ≡ true) first
          (subst (λ n. are_numbered (count - length bodies + 1) (bodies ++ (front n ++ rest) ∷ []) ≡ true) last (more (count - length bodies + 1) bodies rest h.numbered));
    }

pub ruleset numbering = (one-more)
