-- The hidden octas after they spill, come back or are read from the stack area.
use Rattle.std.proofs.Common.{◌≡◌, ℕ, ◌+◌, ◌-◌, ◌≤◌, ◌<◌, List, ◌++◌, length, take, drop, min, arith, refl, sym, ◌∙◌, ap, ⊎_elim}
use Rattle.std.proofs.lemmas.Bool.{cases_lt}
use Rattle.std.proofs.lemmas.List.{length-take, length-take-le, length-drop, length-append, take_at, drop-take, drop_all}
use Rattle.std.proofs.Math.Seq.{take-add}
use Rattle.mx_word.specs.Lists.{with_part}

-- as many items in place of others
pub length-with_part : (xs ys : List ℕ) (s : ℕ) → s + length ys ≤ length xs → length (with_part xs s ys) ≡ length xs
length-with_part xs ys s f =
    let size : length (with_part xs s ys) ≡ length (take s xs) + length ys + length (drop (s + length ys) xs) = simp length-append refl in
    omega (arith, size, length-take-le s xs (omega arith), length-drop (s + length ys) xs)

pub take-with_part : (xs ys : List ℕ) (s n : ℕ) → s ≤ length xs → n ≡ length ys → take (s + n) (with_part xs s ys) ≡ take s xs ++ ys
take-with_part xs ys s n f e =
    let size : length (take s xs ++ ys) ≡ s + n = omega (arith, length-append (take s xs) ys, length-take-le s xs f) in
    take_at (take s xs ++ ys) (drop (s + length ys) xs) (s + n) size

-- the spilled octas are in both places
pub spilled-same : (octas stack stack' : List ℕ) (s n : ℕ) → s ≤ length stack → n ≤ length octas - s → take s octas ≡ take s stack → stack' ≡ with_part stack s (take n (drop s octas)) → take (s + n) octas ≡ take (s + n) stack'
spilled-same octas stack stack' s n g h e es =
    let size : n ≡ length (take n (drop s octas)) = sym (length-take-le n (drop s octas) (omega (arith, length-drop s octas))) in
    rw es (take-add s n octas ∙ ap (λ ps. ps ++ take n (drop s octas)) e ∙ sym (take-with_part stack (take n (drop s octas)) s n g size))

-- the resident octas once only the first n stay
pub resident-first : (octas : List ℕ) (s n : ℕ) → drop (min s n) (take n octas) ≡ take (n - s) (drop s octas)
resident-first octas s n = ⊎_elim (λ f. none f) (λ f. some f) (cases_lt n s)
  where
    none : n < s → drop (min s n) (take n octas) ≡ take (n - s) (drop s octas)
    none f =
        let low : min s n ≡ n = omega arith in
        let zero_left : n - s ≡ 0 = omega arith in
        rw (low, zero_left) (drop_all n (take n octas) (omega (arith, length-take n octas)))

    some : s ≤ n → drop (min s n) (take n octas) ≡ take (n - s) (drop s octas)
    some f =
        let low : min s n ≡ s = omega arith in
        let parted : s + (n - s) ≡ n = omega arith in
        rw low (ap (λ m. drop s (take m octas)) (sym parted) ∙ drop-take s (n - s) octas)
