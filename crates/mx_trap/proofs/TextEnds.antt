-- What the length of a text is: the place of its first zero byte.
use Rattle.std.proofs.Common.{◌≡◌, ◌≢◌, ℕ, suc, zero, ◌+◌, ◌^◌, ◌<◌, ◌≤◌, Bool, true, false, cond, Ok, Err, refl, sym, ◌∙◌, ap, subst, arith}
use Rattle.std.specs.Prelude.{Result, ◌==◌}
use Rattle.std.proofs.lemmas.Bool.Decides.{nat_tests}
use Rattle.mx_word.specs.Results.{map_ok}
use Rattle.mx_mem.specs.Space.{is_negative}
use Rattle.mx_trap.specs.Laws.{IsText, RunsOut, IsLong}
use Rattle.mx_trap.specs.Requests.{text_length, last_byte, next_byte, most_bytes}
use Rattle.mx_trap.specs.declared.answer.TrapStop.{TrapStop}
use Rattle.mx_trap.specs.declared.answer.TrapStop.TheVariants.{Negative, TransferTooLarge}

-- ---- a byte of a text

abbrev by_tests : Bool → Bool → Result ℕ TrapStop → Result ℕ TrapStop
by_tests negative ends other = cond negative (Err Negative) (cond ends (Ok 0) other)

last-tests : (b : Bool) (x : ℕ) → last_byte (cond b (Err Negative) (Ok x)) ≡ by_tests b (x == 0) (Err TransferTooLarge)
last-tests true x = refl
last-tests false x = refl

next-tests : (more : Result ℕ TrapStop) (b : Bool) (x : ℕ) → next_byte more (cond b (Err Negative) (Ok x)) ≡ by_tests b (x == 0) (map_ok (λ n. n + 1) more)
next-tests more true x = refl
next-tests more false x = refl

-- what holds of each of the three answers holds of the answer
by-byte : (P : Result ℕ TrapStop → Type 0) (bytes : ℕ → ℕ) (a : ℕ) (other : Result ℕ TrapStop) → (2 ^ 63 ≤ a → P (Err Negative)) → (a < 2 ^ 63 → bytes a ≡ 0 → P (Ok 0)) →
    (a < 2 ^ 63 → bytes a ≢ 0 → P other) → P (by_tests (is_negative a) (bytes a == 0) other)
by-byte P bytes a other far none some = on (is_negative a) (bytes a == 0) refl refl
  where
    on : (b c : Bool) → is_negative a ≡ b → (bytes a == 0) ≡ c → P (by_tests b c other)
    on true c e f = far (grind (arith, nat_tests))
    on false true e f = none (grind (arith, nat_tests)) (grind (arith, nat_tests))
    on false false e f = some (grind (arith, nat_tests)) (grind (arith, nat_tests))

-- the text from the first byte on
text-none : (bytes : ℕ → ℕ) (a : ℕ) → text_length 0 bytes a ≡ by_tests (is_negative a) (bytes a == 0) (Err TransferTooLarge)
unfolding text_length
text-none bytes a = last-tests (is_negative a) (bytes a)

text-some : (room : ℕ) (bytes : ℕ → ℕ) (a : ℕ) → text_length (suc room) bytes a ≡ by_tests (is_negative a) (bytes a == 0) (map_ok (λ n. n + 1) (text_length room bytes (a + 1)))
unfolding text_length
text-some room bytes a = next-tests (text_length room bytes (a + 1)) (is_negative a) (bytes a)

-- what holds of the first byte and of those after it
stepped : (P : ℕ → Type 0) (a n : ℕ) → P a → ((i : ℕ) → i < n → P (a + 1 + i)) → (i : ℕ) → i < suc n → P (a + i)
stepped P a n first others zero h = let here : a ≡ a + 0 = omega arith in subst P here first
stepped P a n first others (suc i) h = let here : a + 1 + i ≡ a + suc i = omega arith in subst P here (others i (omega arith))

-- ---- a text that ends

no-text : (room : ℕ) (bytes : ℕ → ℕ) (a n : ℕ) → a < 2 ^ 63 → bytes a ≡ 0 → ◌≡◌ {A = Result ℕ TrapStop} (Ok 0) (Ok n) → IsText room bytes a n
no-text room bytes a zero l z h =
    let here : a + 0 ≡ a = omega arith in
    record { nonzero = λ i h. absurd (omega arith); end = ap bytes here ∙ z; below = omega (arith, here, l); few = omega arith }
no-text room bytes a (suc n) l z h = absurd (cc)

longer : (room : ℕ) (bytes : ℕ → ℕ) (a n : ℕ) → bytes a ≢ 0 → IsText room bytes (a + 1) n → IsText (suc room) bytes a (n + 1)
longer room bytes a n z t =
    let past : a + (n + 1) ≡ a + 1 + n = omega arith in
    record { nonzero = λ i h. stepped (λ q. bytes q ≢ 0) a n z t.nonzero i (omega arith); end = ap bytes past ∙ t.end; below = omega (arith, past, t.below); few = omega (arith, t.few) }

more-found : (room : ℕ) (bytes : ℕ → ℕ) (a n : ℕ) (r : Result ℕ TrapStop) → bytes a ≢ 0 → ((k : ℕ) → r ≡ Ok k → IsText room bytes (a + 1) k) →
    map_ok (λ k. k + 1) r ≡ Ok n → IsText (suc room) bytes a n
more-found room bytes a n (Err e) z t h = absurd (cc)
more-found room bytes a n (Ok k) z t h = let is : k + 1 ≡ n = cc in subst (λ x. IsText (suc room) bytes a x) is (longer room bytes a k z (t k refl))

found : (room : ℕ) (bytes : ℕ → ℕ) (a n : ℕ) → text_length room bytes a ≡ Ok n → IsText room bytes a n
found zero bytes a n h =
    by-byte (λ r. r ≡ Ok n → IsText zero bytes a n) bytes a _ (λ far e. absurd (cc)) (λ l z e. no-text zero bytes a n l z e) (λ l z e. absurd (cc)) (sym (text-none bytes a) ∙ h)
found (suc room) bytes a n h =
    by-byte (λ r. r ≡ Ok n → IsText (suc room) bytes a n) bytes a _ (λ far e. absurd (cc)) (λ l z e. no-text (suc room) bytes a n l z e)
    (λ l z e. more-found room bytes a n (text_length room bytes (a + 1)) z (λ k g. found room bytes (a + 1) k g) e) (sym (text-some room bytes a) ∙ h)

at-end : (bytes : ℕ → ℕ) (a : ℕ) (other : Result ℕ TrapStop) → a < 2 ^ 63 → bytes a ≡ 0 → by_tests (is_negative a) (bytes a == 0) other ≡ Ok 0
at-end bytes a other l z = on (is_negative a) (bytes a == 0) (grind (arith, nat_tests)) (grind (arith, nat_tests))
  where
    on : (b c : Bool) → b ≡ false → c ≡ true → by_tests b c other ≡ Ok 0
    on b c e f = rw (e, f) refl

before-end : (bytes : ℕ → ℕ) (a : ℕ) (other : Result ℕ TrapStop) → a < 2 ^ 63 → bytes a ≢ 0 → by_tests (is_negative a) (bytes a == 0) other ≡ other
before-end bytes a other l z = on (is_negative a) (bytes a == 0) (grind (arith, nat_tests)) (grind (arith, nat_tests))
  where
    on : (b c : Bool) → b ≡ false → c ≡ false → by_tests b c other ≡ other
    on b c e f = rw (e, f) refl

following : (room : ℕ) (bytes : ℕ → ℕ) (a n : ℕ) → IsText (suc room) bytes a (suc n) → IsText room bytes (a + 1) n
following room bytes a n t =
    let past : a + suc n ≡ a + 1 + n = omega arith in
    record { nonzero = rest; end = ap bytes (sym past) ∙ t.end; below = omega (arith, past, t.below); few = omega (arith, t.few) }
  where
    rest : (i : ℕ) → i < n → bytes (a + 1 + i) ≢ 0
    rest i h = let here : a + suc i ≡ a + 1 + i = omega arith in subst (λ q. bytes q ≢ 0) here (t.nonzero (suc i) (omega arith))

ended : (room : ℕ) (bytes : ℕ → ℕ) (a : ℕ) (other : Result ℕ TrapStop) → IsText room bytes a 0 → by_tests (is_negative a) (bytes a == 0) other ≡ Ok 0
ended room bytes a other t =
    let here : a ≡ a + 0 = omega arith in
    at-end bytes a other (omega (arith, here, t.below)) (ap bytes here ∙ t.end)

only : (room : ℕ) (bytes : ℕ → ℕ) (a n : ℕ) → IsText room bytes a n → text_length room bytes a ≡ Ok n
only zero bytes a zero t = text-none bytes a ∙ ended zero bytes a _ t
only zero bytes a (suc n) t = absurd (omega (arith, t.few))
only (suc room) bytes a zero t = text-some room bytes a ∙ ended (suc room) bytes a _ t
only (suc room) bytes a (suc n) t =
    let here : a + 0 ≡ a = omega arith in
    let size : n + 1 ≡ suc n = omega arith in
    text-some room bytes a
    ∙ before-end bytes a _ (omega (arith, t.below)) (subst (λ q. bytes q ≢ 0) here (t.nonzero 0 (omega arith)))
    ∙ ap (map_ok (λ k. k + 1)) (only room bytes (a + 1) n (following room bytes a n t)) ∙ ap Ok size

-- ---- the two stops

out-here : (room : ℕ) (bytes : ℕ → ℕ) (a : ℕ) → 2 ^ 63 ≤ a → RunsOut room bytes a
out-here room bytes a h = (0, omega arith, omega arith, λ i l. absurd (omega arith))

out-later : (room : ℕ) (bytes : ℕ → ℕ) (a : ℕ) → bytes a ≢ 0 → RunsOut room bytes (a + 1) → RunsOut (suc room) bytes a
out-later room bytes a z (n, few, far, nonzero) = (suc n, omega arith, omega arith, stepped (λ q. bytes q ≢ 0) a n z nonzero)

after-stop : (e : TrapStop) (r : Result ℕ TrapStop) → map_ok (λ n. n + 1) r ≡ Err e → r ≡ Err e
after-stop e (Ok n) h = absurd (cc)
after-stop e (Err f) h = h

negative : (room : ℕ) (bytes : ℕ → ℕ) (a : ℕ) → text_length room bytes a ≡ Err Negative → RunsOut room bytes a
negative zero bytes a h =
    by-byte (λ r. r ≡ Err Negative → RunsOut zero bytes a) bytes a _ (λ far e. out-here zero bytes a far) (λ l z e. absurd (cc)) (λ l z e. absurd (cc)) (sym (text-none bytes a) ∙ h)
negative (suc room) bytes a h =
    by-byte (λ r. r ≡ Err Negative → RunsOut (suc room) bytes a) bytes a _ (λ far e. out-here (suc room) bytes a far) (λ l z e. absurd (cc))
    (λ l z e. out-later room bytes a z (negative room bytes (a + 1) (after-stop Negative (text_length room bytes (a + 1)) e))) (sym (text-some room bytes a) ∙ h)

-- a byte of a text that goes on
abbrev Goes : (ℕ → ℕ) → ℕ → Type 0
Goes bytes q = (bytes q ≢ 0) × (q < 2 ^ 63)

large-below : (room : ℕ) (bytes : ℕ → ℕ) (a : ℕ) → text_length room bytes a ≡ Err TransferTooLarge → (i : ℕ) → i < suc room → Goes bytes (a + i)
large-below zero bytes a h =
    by-byte (λ r. r ≡ Err TransferTooLarge → (i : ℕ) → i < 1 → Goes bytes (a + i)) bytes a _ (λ far e. absurd (cc)) (λ l z e. absurd (cc))
    (λ l z e. stepped (Goes bytes) a 0 (z, l) (λ i g. absurd (omega arith))) (sym (text-none bytes a) ∙ h)
large-below (suc room) bytes a h =
    by-byte (λ r. r ≡ Err TransferTooLarge → (i : ℕ) → i < suc (suc room) → Goes bytes (a + i)) bytes a _ (λ far e. absurd (cc)) (λ l z e. absurd (cc))
    (λ l z e. stepped (Goes bytes) a (suc room) (z, l) (large-below room bytes (a + 1) (after-stop TransferTooLarge (text_length room bytes (a + 1)) e))) (sym (text-some room bytes a) ∙ h)

large : (room : ℕ) (bytes : ℕ → ℕ) (a : ℕ) → text_length room bytes a ≡ Err TransferTooLarge → IsLong room bytes a
large room bytes a h i l = large-below room bytes a h i (omega arith)

-- ---- a text of at most 2^24 bytes

pub text-found : (bytes : ℕ → ℕ) (a n : ℕ) → text_length most_bytes bytes a ≡ Ok n → IsText most_bytes bytes a n
text-found bytes a n h = found most_bytes bytes a n h

pub text-only : (bytes : ℕ → ℕ) (a n : ℕ) → IsText most_bytes bytes a n → text_length most_bytes bytes a ≡ Ok n
text-only bytes a n t = only most_bytes bytes a n t

pub text-negative : (bytes : ℕ → ℕ) (a : ℕ) → text_length most_bytes bytes a ≡ Err Negative → RunsOut most_bytes bytes a
text-negative bytes a h = negative most_bytes bytes a h

pub text-large : (bytes : ℕ → ℕ) (a : ℕ) → text_length most_bytes bytes a ≡ Err TransferTooLarge → IsLong most_bytes bytes a
text-large bytes a h = large most_bytes bytes a h

pub ruleset ends = (text-found, text-only, text-negative, text-large)
