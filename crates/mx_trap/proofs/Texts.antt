-- A text is measured byte by byte.
use Rattle.std.proofs.Common.{◌≡◌, ◌≢◌, ℕ, suc, zero, ◌+◌, ◌-◌, ◌<◌, ◌≤◌, arith, refl, ap, Ok, Err}
use Rattle.std.specs.Prelude.{Result}
use Rattle.mx_word.proofs.Comparisons.{other-test}
use Rattle.mx_word.specs.Results.{map_ok}
use Rattle.mx_trap.specs.Requests.{text_length, byte_at}
use Rattle.mx_trap.specs.declared.answer.TrapStop.{TrapStop}
use Rattle.mx_trap.specs.declared.answer.TrapStop.TheVariants.{TransferTooLarge}

left-after : (k i : ℕ) → i < k → k - i ≡ suc (k - (i + 1))
left-after k i l = omega arith

-- a length with the bytes that are before
abbrev pub length_after : ℕ → Result ℕ TrapStop → Result ℕ TrapStop
length_after count rest = map_ok (λ n. count + n) rest

length_after-more : (count : ℕ) (rest : Result ℕ TrapStop) → length_after count (map_ok (λ n. n + 1) rest) ≡ length_after (count + 1) rest
length_after-more count (Ok n) = ap Ok (omega arith)
length_after-more count (Err e) = refl

pub length_after-none : (rest : Result ℕ TrapStop) → length_after 0 rest ≡ rest
length_after-none (Ok n) = ap Ok (omega arith)
length_after-none (Err e) = refl

pub text-more : (k i : ℕ) (bytes : ℕ → ℕ) (a b : ℕ) → i < k → Ok b ≡ byte_at bytes (a + i) → b ≢ 0 →
    length_after i (text_length (k - i) bytes (a + i)) ≡ length_after (i + 1) (text_length (k - (i + 1)) bytes (a + (i + 1)))
unfolding text_length
text-more k i bytes a b l h e =
    let next : a + i + 1 ≡ a + (i + 1) = omega arith in
    rw (left-after k i l, ← h, other-test b 0 e, next) (length_after-more i (text_length (k - (i + 1)) bytes (a + (i + 1))))

pub text-done : (n i : ℕ) (bytes : ℕ → ℕ) (a b : ℕ) → Ok b ≡ byte_at bytes (a + i) → b ≡ 0 → length_after i (text_length n bytes (a + i)) ≡ Ok i
unfolding text_length
text-done zero i bytes a b h e = rw (← h, e) (ap Ok (omega arith))
text-done (suc n) i bytes a b h e = rw (← h, e) (ap Ok (omega arith))

pub text-failed : (n i : ℕ) (bytes : ℕ → ℕ) (a : ℕ) (e : TrapStop) → Err e ≡ byte_at bytes (a + i) → length_after i (text_length n bytes (a + i)) ≡ Err e
unfolding text_length
text-failed zero i bytes a e h = rw (← h) refl
text-failed (suc n) i bytes a e h = rw (← h) refl

pub text-large : (k i : ℕ) (bytes : ℕ → ℕ) (a b : ℕ) → k ≤ i → Ok b ≡ byte_at bytes (a + i) → b ≢ 0 → length_after i (text_length (k - i) bytes (a + i)) ≡ Err TransferTooLarge
unfolding text_length
text-large k i bytes a b l h e = let none : k - i ≡ 0 = omega arith in rw (none, ← h, other-test b 0 e) refl

pub ruleset reading = (text-more, text-done, text-failed, text-large, length_after-none)
