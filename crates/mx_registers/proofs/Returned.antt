-- The results of POP among the registers below G.
use Rattle.std.proofs.Common.{◌≡◌, ℕ, ◌+◌, ◌-◌, ◌≤◌, ◌<◌, List, ◌∷◌, ◌++◌, length, take, drop, set, replicate, min, arith, sym, ◌∙◌, ap, ⊎_elim, suc}
use Rattle.std.proofs.lemmas.Bool.{cases_lt}
use Rattle.std.proofs.lemmas.List.{append_assoc, length-take, length-take-le, length-append, take_at, take_all, take-take, take-append-le, drop_at, drop-drop, drop-replicate, replicate-append-replicate, set_split}
use Rattle.std.proofs.Math.Seq.{take-append-add}
use Rattle.mx_word.specs.Lists.{with_part, with_zeros}
use Rattle.mx_registers.specs.Parts.{with_zeros_at}

-- a front of a front
pub front-of-front : (xs : List ℕ) (m n : ℕ) → take m (take n xs) ≡ take (min n m) xs
front-of-front xs m n = ⊎_elim (λ e. short e) (λ e. long e) (cases_lt n m)
  where
    short : n < m → take m (take n xs) ≡ take (min n m) xs
    short e =
        let l : length (take n xs) ≤ m = omega (arith, length-take n xs) in
        let s : n ≡ min n m = omega arith in
        take_all m (take n xs) l ∙ ap (λ k. take k xs) s

    long : m ≤ n → take m (take n xs) ≡ take (min n m) xs
    long e =
        let s : m ≡ min n m = omega arith in
        take-take m n xs e ∙ ap (λ k. take k xs) s

-- the main result, and the others after it as far as there is room
first-results : (xs : List ℕ) (main count room n : ℕ) → 0 < room → n ≡ min count (room - 1) → take room (main ∷ take count xs) ≡ main ∷ take n xs
first-results xs main count room n f e =
    let s : room ≡ suc (room - 1) = omega arith in
    rw (s, e) (ap (λ zs. main ∷ zs) (front-of-front xs (room - 1) count))

-- a place is overwritten between two parts
set-between : (ys ps bs : List ℕ) (k y : ℕ) → k + 1 ≡ length ps → ys ≡ ps ++ bs → set ys k y ≡ take k ps ++ y ∷ bs
set-between ys ps bs k y l e =
    let within : k < length (ps ++ bs) = omega (arith, length-append ps bs) in
    let one : suc k ≡ k + 1 = omega arith in
    let low : take k (ps ++ bs) ≡ take k ps = take-append-le k ps bs (omega arith) in
    let high : drop (suc k) (ps ++ bs) ≡ bs = ap (λ n. drop n (ps ++ bs)) one ∙ drop_at ps bs (k + 1) (sym l) in
    rw e (set_split (ps ++ bs) k y within ∙ ap (λ zs. zs ++ y ∷ drop (suc k) (ps ++ bs)) low ∙ ap (λ zs. take k ps ++ y ∷ zs) high)

pub first-placed : (xs ys : List ℕ) (main count hole n : ℕ) → count ≤ length xs → hole < length xs → n ≡ min count (length xs - hole - 1) → ys ≡ take (hole + 1) xs ++ take (n - 0) (drop 0 xs) ++ drop (hole + 1 + (n - 0)) xs → set ys hole main ≡ with_part xs hole (take (length xs - hole) (main ∷ take count xs))
first-placed xs ys main count hole n lc h en e =
    let z : n - 0 ≡ n = omega arith in
    let rs : take (length xs - hole) (main ∷ take count xs) ≡ main ∷ take n xs = first-results xs main count (length xs - hole) n (omega arith) en in
    let size : length (main ∷ take n xs) ≡ n + 1 = omega (arith, length-take-le n xs (omega arith)) in
    let front : length (take (hole + 1) xs) ≡ hole + 1 = length-take-le (hole + 1) xs (omega arith) in
    let place : hole + length (main ∷ take n xs) ≡ hole + 1 + n = omega arith in
    let parted : ys ≡ take (hole + 1) xs ++ (take n xs ++ drop (hole + 1 + n) xs) = rw z at e ∙ append_assoc (take (hole + 1) xs) (take n xs) (drop (hole + 1 + n) xs) in
    let low : take hole (take (hole + 1) xs) ≡ take hole xs = take-take hole (hole + 1) xs (omega arith) in
    rw (rs, place) (set-between ys (take (hole + 1) xs) (take n xs ++ drop (hole + 1 + n) xs) hole main (sym front) parted ∙ ap (λ zs. zs ++ main ∷ (take n xs ++ drop (hole + 1 + n) xs)) low ∙ simp append_assoc)

-- the main result alone
pub alone-placed : (xs : List ℕ) (main count hole : ℕ) → hole < length xs → count ≡ 0 → set xs hole main ≡ with_part xs hole (take (length xs - hole) (main ∷ take count xs))
alone-placed xs main count hole h e =
    let none : 0 ≡ min count (length xs - hole - 1) = omega arith in
    let one : suc hole ≡ hole + 1 = omega arith in
    rw (first-results xs main count (length xs - hole) 0 (omega arith) none) (set_split xs hole main h ∙ ap (λ n. take hole xs ++ main ∷ drop n xs) one ∙ simp append_assoc)

-- the results after the octas that come back
parts-placed : (xs ys zs octas rs : List ℕ) → ys ≡ with_part xs (length octas) rs → length octas ≤ length xs → zs ≡ with_part ys 0 octas → zs ≡ (octas ++ rs) ++ drop (length (octas ++ rs)) xs
parts-placed xs ys zs octas rs ey f ez =
    let k : ℕ = length octas in
    let following : drop k ys ≡ rs ++ drop (k + length rs) xs =
    ap (drop k) ey ∙ ap (drop k) (append_assoc (take k xs) rs (drop (k + length rs) xs)) ∙ drop_at (take k xs) _ k (length-take-le k xs f) in
    let size : length (octas ++ rs) ≡ k + length rs = length-append octas rs in
    let place : 0 + k ≡ k = omega arith in
    rw size (ez ∙ ap (λ n. octas ++ drop n ys) place ∙ ap (λ ws. octas ++ ws) following ∙ sym (append_assoc octas rs (drop (k + length rs) xs)))

-- what is below G once octas and results came back
returned-front : (octas rs : List ℕ) (room : ℕ) → length octas ≤ room → take room (octas ++ rs) ≡ octas ++ take (room - length octas) rs
returned-front octas rs room f =
    let s : length octas + (room - length octas) ≡ room = omega arith in
    ap (λ n. take n (octas ++ rs)) (sym s) ∙ take-append-add octas rs (room - length octas)

abbrev Zeros : List ℕ → ℕ → Type 0
Zeros xs l = xs ≡ with_zeros (take l xs) (length xs)

drop-zeros : (xs : List ℕ) (l n : ℕ) → l ≤ length xs → l ≤ n → Zeros xs l → drop n xs ≡ replicate (length xs - n) 0
drop-zeros xs l n f g e =
    let size : length (take l xs) ≡ l = length-take-le l xs f in
    let s : l + (n - l) ≡ n = omega arith in
    let rest : drop l xs ≡ replicate (length xs - l) 0 =
    ap (drop l) e ∙ drop_at (take l xs) _ l size ∙ ap (λ m. replicate {A = ℕ} (length xs - m) 0) size in
    ap (λ m. drop m xs) (sym s) ∙ sym (drop-drop (n - l) l xs) ∙ ap (drop (n - l)) rest ∙ drop-replicate (n - l) (length xs - l) 0 ∙ ap (λ m. replicate {A = ℕ} m 0) (omega arith)

-- where no local was above them
pub returned-above : (xs ys zs octas rs : List ℕ) (l t : ℕ) → l ≤ length xs → length octas < length xs → Zeros xs l → ys ≡ with_part xs (length octas) (take (length xs - length octas) rs) → zs ≡ with_part ys 0 octas → t ≡ length octas + length (take (length xs - length octas) rs) → l ≤ t → zs ≡ with_zeros (take (length xs) (octas ++ rs)) (length xs)
returned-above xs ys zs octas rs l t f g z ey ez et h =
    let qs : List ℕ = take (length xs - length octas) rs in
    let whole : zs ≡ (octas ++ qs) ++ drop (length (octas ++ qs)) xs = parts-placed xs ys zs octas qs ey (omega arith) ez in
    let size : length (octas ++ qs) ≡ t = length-append octas qs ∙ sym et in
    let zeros : drop (length (octas ++ qs)) xs ≡ replicate (length xs - length (octas ++ qs)) 0 = drop-zeros xs l (length (octas ++ qs)) f (omega arith) z in
    rw (returned-front octas rs (length xs) (omega arith)) (whole ∙ ap (λ ws. (octas ++ qs) ++ ws) zeros)

-- where locals were above them, and were cleared
pub returned-below : (xs ys zs ws octas rs : List ℕ) (l t : ℕ) → l ≤ length xs → length octas < length xs → Zeros xs l → ys ≡ with_part xs (length octas) (take (length xs - length octas) rs) → zs ≡ with_part ys 0 octas → t ≡ length octas + length (take (length xs - length octas) rs) → t < l → ws ≡ with_zeros_at zs t l → ws ≡ with_zeros (take (length xs) (octas ++ rs)) (length xs)
returned-below xs ys zs ws octas rs l t f g z ey ez et h ew =
    let qs : List ℕ = take (length xs - length octas) rs in
    let whole : zs ≡ (octas ++ qs) ++ drop (length (octas ++ qs)) xs = parts-placed xs ys zs octas qs ey (omega arith) ez in
    let size : length (octas ++ qs) ≡ t = length-append octas qs ∙ sym et in
    let low : take t zs ≡ octas ++ qs = ap (take t) whole ∙ take_at (octas ++ qs) _ t size in
    let middle : drop t zs ≡ drop t xs = ap (drop t) whole ∙ drop_at (octas ++ qs) _ t size ∙ ap (λ n. drop n xs) size in
    let split : t + (l - t) ≡ l = omega arith in
    let high : drop l zs ≡ replicate (length xs - l) 0 =
    ap (λ m. drop m zs) (sym split) ∙ sym (drop-drop (l - t) t zs) ∙ ap (drop (l - t)) middle ∙ drop-drop (l - t) t xs ∙ ap (λ m. drop m xs) split ∙ drop-zeros xs l l f (omega arith) z in
    let joined : replicate {A = ℕ} (l - t) 0 ++ replicate (length xs - l) 0 ≡ replicate (length xs - t) 0 =
    replicate-append-replicate (l - t) (length xs - l) 0 ∙ ap (λ m. replicate {A = ℕ} m 0) (omega arith) in
    rw (returned-front octas rs (length xs) (omega arith), size) (ew ∙ ap (λ (vs : List ℕ). vs ++ replicate (l - t) 0 ++ drop l zs) low ∙ ap (λ (vs : List ℕ). (octas ++ qs) ++ replicate (l - t) 0 ++ vs) high ∙ append_assoc (octas ++ qs) (replicate (l - t) 0) (replicate (length xs - l) 0) ∙ ap (λ (vs : List ℕ). (octas ++ qs) ++ vs) joined)
