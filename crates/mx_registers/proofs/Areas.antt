-- The stack area, of which the first octas are kept in a list.
use Rattle.std.proofs.Common.{◌≡◌, ℕ, ◌+◌, ◌-◌, ◌≤◌, ◌<◌, ◌^◌, List, [], ◌∷◌, ◌++◌, length, take, drop, replicate, get_or, set, suc, arith, refl, sym, ◌∙◌, ap, ⊎_elim, subst}
use Rattle.std.proofs.lemmas.Bool.{cases_lt}
use Rattle.std.proofs.lemmas.List.{length-append, length-replicate, length-set, length-drop, get_or-replicate, append_assoc, take-append-le, drop-append-le, set-append_left}
use Rattle.std.proofs.Math.ListN.{get_or-append, get_or-eq_default}
use Rattle.std.proofs.Math.Seq.{get_or-append_right}
use Rattle.mx_word.specs.Lists.{with_part}
use Rattle.mx_registers.proofs.Spilled.{length-with_part}
use Rattle.mx_registers.specs.HiddenPart.{zeros}
use Rattle.mx_registers.specs.StackArea.{filled}

pub zeros-length : (n : ℕ) → length (zeros n) ≡ n
unfolding zeros
zeros-length n = length-replicate n 0

pub filled-length : (n : ℕ) (octas : List ℕ) → length octas ≤ n → length (filled n octas) ≡ n
unfolding filled
filled-length n octas f = omega (arith, length-append octas (zeros (n - length octas)), zeros-length (n - length octas))

pub filled-none : (n : ℕ) → filled n [] ≡ zeros n
unfolding filled
filled-none n = let all : n - 0 ≡ n = omega arith in ap zeros all

-- one more octa is kept, which is 0
pub filled-push : (n : ℕ) (octas : List ℕ) → length octas < n → filled n (octas ++ 0 ∷ []) ≡ filled n octas
unfolding filled zeros
filled-push n octas f =
    let long : length (octas ++ 0 ∷ []) ≡ length octas + 1 = length-append octas (0 ∷ []) in
    let rest : n - length octas ≡ suc (n - (length octas + 1)) = omega arith in
    rw (long, rest) (append_assoc octas (0 ∷ []) (replicate (n - (length octas + 1)) 0))

pub filled-set : (n i x : ℕ) (octas : List ℕ) → i < length octas → filled n (set octas i x) ≡ set (filled n octas) i x
unfolding filled
filled-set n i x octas f =
    let same = length-set octas i x in
    rw same (sym (set-append_left octas (zeros (n - length octas)) i x f))

pub filled-part : (n s : ℕ) (octas xs : List ℕ) → s + length xs ≤ length octas → filled n (with_part octas s xs) ≡ with_part (filled n octas) s xs
unfolding filled
filled-part n s octas xs f =
    let same = length-with_part octas xs s f in
    let zs : List ℕ = zeros (n - length octas) in
    let front : take s (octas ++ zs) ≡ take s octas = take-append-le s octas zs (omega arith) in
    let rest : drop (s + length xs) (octas ++ zs) ≡ drop (s + length xs) octas ++ zs = drop-append-le (s + length xs) octas zs f in
    rw (same, front, rest) (append_assoc (take s octas ++ xs) (drop (s + length xs) octas) zs)

pub filled-take : (n k : ℕ) (octas : List ℕ) → k ≤ length octas → take k (filled n octas) ≡ take k octas
unfolding filled
filled-take n k octas f = take-append-le k octas (zeros (n - length octas)) f

-- what is among the octas that are kept
pub filled-slice : (n from to : ℕ) (octas : List ℕ) → from ≤ to → to ≤ length octas → take (to - from) (drop from (filled n octas)) ≡ take (to - from) (drop from octas)
unfolding filled
filled-slice n from to octas f g =
    let zs : List ℕ = zeros (n - length octas) in
    let rest : drop from (octas ++ zs) ≡ drop from octas ++ zs = drop-append-le from octas zs (omega arith) in
    rw rest (take-append-le (to - from) (drop from octas) zs (omega (arith, length-drop from octas)))

pub filled-kept : (n i : ℕ) (octas : List ℕ) → i < length octas → get_or (filled n octas) i 0 ≡ get_or octas i 0
unfolding filled
filled-kept n i octas f = get_or-append octas (zeros (n - length octas)) 0 i f

zero-read : (i n : ℕ) → get_or (zeros n) i 0 ≡ 0
unfolding zeros
zero-read i n = ⊎_elim (λ f. get_or-replicate n i 0 0 f) (λ f. get_or-eq_default (replicate n 0) 0 (omega (arith, length-replicate {A = ℕ} n 0))) (cases_lt i n)

pub filled-after : (n i : ℕ) (octas : List ℕ) → length octas ≤ i → get_or (filled n octas) i 0 ≡ 0
unfolding filled
filled-after n i octas f = get_or-append_right octas (zeros (n - length octas)) i 0 f ∙ zero-read (i - length octas) (n - length octas)

-- each octa of the area is below what those that are kept are below
pub filled-below : (n most : ℕ) (octas : List ℕ) → 0 < most → ((i : ℕ) → get_or octas i 0 < most) → (i : ℕ) → get_or (filled n octas) i 0 < most
filled-below n most octas f fits i = ⊎_elim (λ e. rw (filled-kept n i octas e) (fits i)) (λ e. rw (filled-after n i octas e) f) (cases_lt i (length octas))

pub ruleset areas = (zeros-length, filled-length, filled-none, filled-set, filled-part, filled-take, filled-kept, filled-after)

pub ruleset growing = (filled-push, length-append)
