-- Parts of a text, and its lines one after another.
use Rattle.std.proofs.Common.{◌≡◌, ◌≤◌, ◌<◌, ℕ, zero, suc, ◌-◌, ◌+◌, List, [], ◌∷◌, drop, take, length, arith, refl, sym, Bool, true, false, Option, None}
use Rattle.std.proofs.lemmas.List.{take_all}
use Rattle.std.proofs.lemmas.Slice.Eq.{bytes_eq-Decides}
use Rattle.mx_line.specs.Bytes.{run}
use Rattle.mx_line.proofs.KindLemmas.{run-few, run-take}
use Rattle.mx_word.specs.Kinds.{is_digit}
use Rattle.mx_frames.specs.Heads.{begins_with_name, is_gap, length_in, next_line, number_at}

pub whole-front : (count : ℕ) (text : List ℕ) → length text ≤ count → take count text ≡ text
whole-front count text e = take_all count text e

pub none-following : (count : ℕ) (text : List ℕ) → length text ≤ count → drop count text ≡ []
none-following zero [] e = refl
none-following zero (b ∷ bs) e = absurd (omega (arith, e))
none-following (suc n) [] e = refl
none-following (suc n) (b ∷ bs) e = none-following n bs (omega (arith, e))

pub ruleset parts = (whole-front, none-following)

pub ruleset names = (bytes_eq-Decides)

pub line-none : (n : ℕ) (text : List ℕ) → n ≤ 0 → length_in n text ≡ None
unfolding length_in
line-none zero text e = refl
line-none (suc n) text e = absurd (omega (arith, e))

pub line-found : (n : ℕ) (text : List ℕ) → 0 < n → true ≡ begins_with_name text →
    length_in n text ≡ number_at (drop (length (run is_gap (drop 15 text))) (drop 15 text))
unfolding length_in
line-found zero text e is = absurd (omega (arith, e))
line-found (suc n) text e is = rw (← is) refl

pub line-next : (n : ℕ) (text : List ℕ) → 0 < n → false ≡ begins_with_name text → length_in n text ≡ length_in (n - 1) (next_line text)
unfolding length_in
line-next zero text e is = absurd (omega (arith, e))
line-next (suc n) text e is = let less : suc n - 1 ≡ n = omega arith in rw (← is, less) refl

pub line-is : (n : ℕ) (text : List ℕ) → 0 < n → begins_with_name text ≡ true → length_in n text ≡ number_at (drop (length (run is_gap (drop 15 text))) (drop 15 text))
line-is n text e is = line-found n text e (sym is)

pub line-goes : (n : ℕ) (text : List ℕ) → 0 < n → begins_with_name text ≡ false → length_in n text ≡ length_in (n - 1) (next_line text)
line-goes n text e is = line-next n text e (sym is)

pub ruleset lines = (line-none, line-found, line-next, line-is, line-goes)
