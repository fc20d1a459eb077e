-- The earliest of all references.
use Rattle.std.proofs.Common.{◌≡◌, ℕ, List, [], ◌∷◌, Option, option_map, refl, arith, rules}
use Rattle.mx_names.proofs.Words.{AllByRecursion, Wait, Numbered, with_group, all_in_order, waits_of, first_of, earlier_of_two, AreRising, AreGroups, nat_tests}

first-group : (xs l : List Numbered) → AreRising xs → first_of (with_group xs l) ≡ earlier_of_two (first_of xs) (first_of l)
first-group [] l rising = refl
first-group (x ∷ []) l rising = grind arith
first-group (x ∷ y ∷ xs) l rising = grind (arith, nat_tests, first-group (y ∷ xs) l rising.1)

-- one group more
pub first-more : {K : Type 0} (first found : Option Numbered) (e : K × List Numbered) (es : List (K × List Numbered)) → AreRising e.1 → found ≡ earlier_of_two first (first_of e.1) → earlier_of_two found (first_of (all_in_order es)) ≡ earlier_of_two first (first_of (all_in_order (e ∷ es)))
first-more first found e es rising is = search (rules, first-group)

abbrev pub EachRising : {K : Type 0} → List (K × List Numbered) → Type 0
EachRising {K} es = AllByRecursion (λ (e : K × List Numbered). AreRising e.1) es

pub rising-all : {K : Type 0} (bytes : K → List ℕ) (made : ℕ) (es : List (K × List Numbered)) → AreGroups bytes made es → EachRising es
rising-all bytes made [] groups = tt
rising-all bytes made (e ∷ es) groups = (groups.0.rising, rising-all bytes made es groups.1)

-- the loop's end: nothing is left
pub first-is : {K : Type 0} (found : Option Numbered) (left begin es : List (K × List Numbered)) (waits : List Wait) → left ≡ [] → earlier_of_two found (first_of (all_in_order left)) ≡ first_of (all_in_order begin) → begin ≡ es → waits_of (all_in_order es) ≡ waits → option_map (λ (x : Numbered). x.1) found ≡ first_of waits
first-is {K} found left begin es waits over is whole seen = grind arith
