-- Bytes between a space and a buffer.
use Rattle.std.proofs.Common.{◌≡◌, ℕ, suc, zero, ◌+◌, ◌<◌, ◌≤◌, List, [], ◌∷◌, ◌++◌, length, take, drop, arith, refl, sym, ◌∙◌, ap}
use Rattle.std.proofs.Math.ListN.{set}
use Rattle.std.proofs.lemmas.List.FromFn.{length-map-range_with_len, take-map-range_with_len, map-range_with_len_more}
use Rattle.std.proofs.lemmas.List.{take_more_set}
use Rattle.mx_trap.specs.Requests.{bytes_from}

pub bytes-length : (f : ℕ → ℕ) (a n : ℕ) → length (bytes_from f a n) ≡ n
unfolding bytes_from
bytes-length f a n = length-map-range_with_len f a n

pub bytes-front : (f : ℕ → ℕ) (a n k : ℕ) → k ≤ n → take k (bytes_from f a n) ≡ bytes_from f a k
unfolding bytes_from
bytes-front f a n k l = take-map-range_with_len f a n k l

pub bytes-more : (f : ℕ → ℕ) (a n : ℕ) → bytes_from f a (n + 1) ≡ bytes_from f a n ++ f (a + n) ∷ []
unfolding bytes_from
bytes-more f a n = map-range_with_len_more f a n (a + n) refl

pub bytes-after : (f : ℕ → ℕ) (a n k : ℕ) → drop k (bytes_from f a (k + n)) ≡ bytes_from f (a + k) n
unfolding bytes_from
bytes-after f a n zero =
    let e : a + 0 ≡ a = omega arith in
    let z : 0 + n ≡ n = omega arith in
    rw (e, z) refl
bytes-after f a n (suc k) =
    let e : a + suc k ≡ a + 1 + k = omega arith in
    let z : suc k + n ≡ suc (k + n) = omega arith in
    rw (e, z) (bytes-after f (a + 1) n k)

pub bytes-none : (f : ℕ → ℕ) (a : ℕ) → bytes_from f a 0 ≡ []
unfolding bytes_from
bytes-none f a = refl

pub fill-next : (f : ℕ → ℕ) (a i b : ℕ) (buffer : List ℕ) → i < length buffer → take i buffer ≡ bytes_from f a i → b ≡ f (a + i) → take (i + 1) (set buffer i b) ≡ bytes_from f a (i + 1)
fill-next f a i b buffer l h e = take_more_set buffer i b l ∙ ap (λ xs. xs ++ b ∷ []) h ∙ ap (λ x. bytes_from f a i ++ x ∷ []) e ∙ sym (bytes-more f a i)

pub ruleset filling = (fill-next, bytes-none)

pub ruleset sizing = (bytes-length)
