-- What reaches Stack_Segment.
use Rattle.std.proofs.Common.{◌≡◌, ℕ, suc, zero, ◌+◌, ◌-◌, ◌%◌, ◌<◌, ◌≤◌, ◌^◌, Bool, true, false, cond, arith, refl, ◌∙◌, ap, Ok, Err}
use Rattle.std.specs.Prelude.{Result, ◌==◌, nat_lt, nat_le, ◌&&◌}
use Rattle.std.proofs.lemmas.Bool.Decides.{nat_tests}
use Rattle.mx_word.proofs.Comparisons.{both-true, is-less, is-least, not-less}
use Rattle.mx_word.specs.Results.{map_ok}
use Rattle.mx_mem.specs.Space.{is_negative}
use Rattle.mx_trap.specs.Requests.{text_length, next_byte, last_byte}
use Rattle.mx_word.specs.Segments.{is_in_stack_segment, stack_segment}
use Rattle.mx_trap.specs.Touches.{text_touches, text_reach, meets_segment}
use Rattle.mx_trap.specs.declared.answer.TrapStop.{TrapStop}
use Rattle.mx_trap.specs.declared.answer.TrapStop.TheVariants.{Negative, WideTrap, TransferTooLarge, TrapPagesFull, UnknownTrap}

-- how far a text reaches at most, with room for this many bytes
abbrev pub Short : ℕ → ℕ → Result ℕ TrapStop → Type 0
Short room a (Ok n) = n ≤ room
Short room a (Err Negative) = 2 ^ 63 ≤ a + room
Short room a (Err TransferTooLarge) = Unit {0}
Short room a (Err WideTrap) = ⊥
Short room a (Err TrapPagesFull) = ⊥
Short room a (Err UnknownTrap) = ⊥

last-short : (a b : ℕ) (negative : Bool) → is_negative a ≡ negative → Short 0 a (last_byte (cond negative (Err Negative) (Ok b)))
last-short a b true e = let h : 2 ^ 63 ≤ a + 0 = grind (arith, nat_tests) in h
last-short a b false e = zero-test (b == 0)
  where
    zero-test : (z : Bool) → Short 0 a (cond z (Ok 0) (Err TransferTooLarge))
    zero-test true = omega arith
    zero-test false = tt

more-short : (room a : ℕ) (r : Result ℕ TrapStop) → Short room (a + 1) r → Short (suc room) a (map_ok (λ n. n + 1) r)
more-short room a (Ok n) h = omega (arith, h)
more-short room a (Err Negative) h = omega (arith, h)
more-short room a (Err TransferTooLarge) h = tt
more-short room a (Err WideTrap) h = h
more-short room a (Err TrapPagesFull) h = h
more-short room a (Err UnknownTrap) h = h

next-short : (room a b : ℕ) (negative : Bool) (more : Result ℕ TrapStop) → is_negative a ≡ negative → Short room (a + 1) more → Short (suc room) a (next_byte more (cond negative (Err Negative) (Ok b)))
next-short room a b true more e h = let h : 2 ^ 63 ≤ a + suc room = grind (arith, nat_tests) in h
next-short room a b false more e h = zero-test (b == 0)
  where
    zero-test : (z : Bool) → Short (suc room) a (cond z (Ok 0) (map_ok (λ n. n + 1) more))
    zero-test true = omega arith
    zero-test false = more-short room a more h

pub text-short : (room : ℕ) (bytes : ℕ → ℕ) (a : ℕ) → Short room a (text_length room bytes a)
unfolding text_length
text-short zero bytes a = last-short a (bytes a) (is_negative a) refl
text-short (suc room) bytes a = next-short room a (bytes a) (is_negative a) (text_length room bytes (a + 1)) refl (text-short room bytes (a + 1))

-- a text that begins far below the segment does not reach it
far : (a : ℕ) (r : Result ℕ TrapStop) → a < 0x5fff_ffff_ff00_0000 → Short (2 ^ 24) a r → meets_segment a (text_reach a r) ≡ false
far a (Ok n) l h = grind (arith, nat_tests)
far a (Err Negative) l h = absurd (omega (arith, l, h))
far a (Err TransferTooLarge) l h = grind (arith, nat_tests)
far a (Err WideTrap) l h = absurd h
far a (Err TrapPagesFull) l h = absurd h
far a (Err UnknownTrap) l h = absurd h

pub text-far : (bytes : ℕ → ℕ) (a : ℕ) → a < 0x5fff_ffff_ff00_0000 → text_touches bytes a ≡ false
text-far bytes a l = far a (text_length (2 ^ 24) bytes a) l (text-short (2 ^ 24) bytes a)

pub ruleset reaching = (text-far)

-- ---- an interval that meets the segment

less-is : (m n : ℕ) → m < n → nat_lt m n ≡ true
less-is m n h = grind (arith, nat_tests)

both : (b c : Bool) → b ≡ true → c ≡ true → (b && c) ≡ true
both b c e f = rw (e, f) refl

met-below : (a n : ℕ) → a < 2 ^ 63 → 0 < n → 0x6000_0000_0000_0000 < a + n → (k : ℕ) × (k < n) × (is_in_stack_segment ((a + k) % 2 ^ 64) ≡ true)
met-below a n l p h = on (nat_lt a 0x6000_0000_0000_0000) refl
  where
    on : (b : Bool) → nat_lt a 0x6000_0000_0000_0000 ≡ b → (k : ℕ) × (k < n) × (is_in_stack_segment ((a + k) % 2 ^ 64) ≡ true)
    on true e =
        let under : a < 0x6000_0000_0000_0000 = grind (arith, nat_tests) in
        let at : (a + (0x6000_0000_0000_0000 - a)) % 2 ^ 64 ≡ 0x6000_0000_0000_0000 = omega (arith, under) in
        (0x6000_0000_0000_0000 - a, omega (arith, under, h), ap is_in_stack_segment at)
    on false e =
        let over : 0x6000_0000_0000_0000 ≤ a = grind (arith, nat_tests) in
        let at : (a + 0) % 2 ^ 64 ≡ a = omega (arith, l) in
        let inside : is_in_stack_segment a ≡ true = grind (arith, nat_tests) in
        (0, p, ap is_in_stack_segment at ∙ inside)

met-around : (a n : ℕ) → 2 ^ 63 ≤ a → a < 2 ^ 64 → 2 ^ 64 + 0x6000_0000_0000_0000 < a + n → (k : ℕ) × (k < n) × (is_in_stack_segment ((a + k) % 2 ^ 64) ≡ true)
met-around a n l f h =
    let at : (a + (2 ^ 64 + 0x6000_0000_0000_0000 - a)) % 2 ^ 64 ≡ 0x6000_0000_0000_0000 = omega (arith, l, f) in
    (2 ^ 64 + 0x6000_0000_0000_0000 - a, omega (arith, f, h), ap is_in_stack_segment at)

pub segment-met : (a n : ℕ) → a < 2 ^ 64 → meets_segment a n ≡ true → (k : ℕ) × (k < n) × (is_in_stack_segment ((a + k) % 2 ^ 64) ≡ true)
segment-met a n f h = on (nat_lt a (2 ^ 63)) refl h
  where
    on : (b : Bool) → nat_lt a (2 ^ 63) ≡ b → cond b (nat_lt 0 n && nat_lt stack_segment (a + n)) (nat_lt (2 ^ 64 + stack_segment) (a + n)) ≡ true → (k : ℕ) × (k < n) × (is_in_stack_segment ((a + k) % 2 ^ 64) ≡ true)
    on true e g =
        let parts = both-true (nat_lt 0 n) (nat_lt stack_segment (a + n)) g in
        met-below a n (is-less a (2 ^ 63) e) (is-less 0 n parts.0) (is-less stack_segment (a + n) parts.1)
    on false e g = met-around a n (not-less a (2 ^ 63) e) f (is-less (2 ^ 64 + stack_segment) (a + n) g)

pub segment-only : (a n k : ℕ) → a < 2 ^ 64 → k < n → n < 2 ^ 64 → is_in_stack_segment ((a + k) % 2 ^ 64) ≡ true → meets_segment a n ≡ true
segment-only a n k f l s h =
    let parts = both-true (nat_le stack_segment ((a + k) % 2 ^ 64)) (nat_lt ((a + k) % 2 ^ 64) (2 ^ 63)) h in
    let over = is-least stack_segment ((a + k) % 2 ^ 64) parts.0 in
    let under = is-less ((a + k) % 2 ^ 64) (2 ^ 63) parts.1 in
    on (nat_lt a (2 ^ 63)) refl over under
  where
    on : (b : Bool) → nat_lt a (2 ^ 63) ≡ b → stack_segment ≤ (a + k) % 2 ^ 64 → (a + k) % 2 ^ 64 < 2 ^ 63 →
        cond b (nat_lt 0 n && nat_lt stack_segment (a + n)) (nat_lt (2 ^ 64 + stack_segment) (a + n)) ≡ true
    on true e over under =
        let p : 0 < n = omega (arith, l) in
        let below : a < 2 ^ 63 = is-less a (2 ^ 63) e in
        let q : stack_segment < a + n = omega (arith, l, over, below) in
        both (nat_lt 0 n) (nat_lt stack_segment (a + n)) (less-is 0 n p) (less-is stack_segment (a + n) q)
    on false e over under =
        let above : 2 ^ 63 ≤ a = not-less a (2 ^ 63) e in
        less-is (2 ^ 64 + stack_segment) (a + n) (omega (arith, l, f, above, over, under))

pub ruleset meeting = (segment-met, segment-only)
