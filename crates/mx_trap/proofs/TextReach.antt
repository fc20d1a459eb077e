-- Which bytes of a text are looked at, and whether one of them lies in Stack_Segment.
use Rattle.std.proofs.Common.{◌≡◌, ℕ, ◌+◌, ◌-◌, ◌%◌, ◌^◌, ◌<◌, ◌≤◌, Bool, true, false, Ok, Err, refl, ◌∙◌, ap, arith}
use Rattle.std.specs.Prelude.{Result, nat_le, nat_lt}
use Rattle.mx_word.proofs.Comparisons.{both-true, is-less, not-less}
use Rattle.mx_trap.specs.Laws.{IsText, LooksAt}
use Rattle.mx_trap.specs.Requests.{text_length, most_bytes}
use Rattle.mx_word.specs.Segments.{is_in_stack_segment, stack_segment}
use Rattle.mx_trap.specs.Touches.{text_touches, text_reach, meets_segment}
use Rattle.mx_trap.specs.declared.answer.TrapStop.{TrapStop}
use Rattle.mx_trap.specs.declared.answer.TrapStop.TheVariants.{Negative, WideTrap, TransferTooLarge, TrapPagesFull, UnknownTrap}
use Rattle.mx_trap.proofs.Segments.{Short, text-short, segment-met, segment-only}
use Rattle.mx_trap.proofs.TextEnds.{text-found, text-negative, text-large}

abbrev Found : (ℕ → ℕ) → ℕ → Type 0
Found bytes a = (i : ℕ) × LooksAt most_bytes bytes a i × (is_in_stack_segment (a + i) ≡ true)

here : (a k : ℕ) → a + k < 2 ^ 63 → is_in_stack_segment ((a + k) % 2 ^ 64) ≡ true → is_in_stack_segment (a + k) ≡ true
here a k l s = let same : a + k ≡ (a + k) % 2 ^ 64 = omega (arith, l) in ap is_in_stack_segment same ∙ s

none : (bytes : ℕ → ℕ) (a : ℕ) → a < 2 ^ 64 → meets_segment a 0 ≡ true → Found bytes a
none bytes a f h = let t = segment-met a 0 f h in absurd (omega (arith, t.1))

reach-found : (bytes : ℕ → ℕ) (a : ℕ) (r : Result ℕ TrapStop) → text_length most_bytes bytes a ≡ r → a < 2 ^ 64 → meets_segment a (text_reach a r) ≡ true → Found bytes a
reach-found bytes a (Ok n) e f h =
    let text = text-found bytes a n e in
    let met = segment-met a (n + 1) f h in
    let k : ℕ = met.0 in
    let l : k < n + 1 = met.1 in
    (k, record { few = omega (arith, l, text.few); nonzero = λ j g. text.nonzero j (omega (arith, g, l)) }, here a k (omega (arith, l, text.below)) met.2)
reach-found bytes a (Err Negative) e f h =
    let out = text-negative bytes a e in
    let met = segment-met a (2 ^ 63 - a) f h in
    let k : ℕ = met.0 in
    let l : k < 2 ^ 63 - a = met.1 in
    let n : ℕ = out.0 in
    let few : n ≤ 2 ^ 24 = out.1 in
    let far : 2 ^ 63 ≤ a + n = out.2 in
    let under : k < n = omega (arith, l, far) in
    (k, record { few = omega (arith, under, few); nonzero = λ j g. out.3 j (omega (arith, g, under)) }, here a k (omega (arith, l)) met.2)
reach-found bytes a (Err TransferTooLarge) e f h =
    let long = text-large bytes a e in
    let met = segment-met a (2 ^ 24 + 1) f h in
    let k : ℕ = met.0 in
    let l : k < 2 ^ 24 + 1 = met.1 in
    let few : k ≤ 2 ^ 24 = omega (arith, l) in
    (k, record { few = few; nonzero = λ j g. (long j (omega (arith, g, few))).0 }, here a k (long k few).1 met.2)
reach-found bytes a (Err WideTrap) e f h = none bytes a f h
reach-found bytes a (Err TrapPagesFull) e f h = none bytes a f h
reach-found bytes a (Err UnknownTrap) e f h = none bytes a f h

pub touch-found : (bytes : ℕ → ℕ) (a : ℕ) → a < 2 ^ 64 → text_touches bytes a ≡ true → Found bytes a
touch-found bytes a f h = reach-found bytes a (text_length most_bytes bytes a) refl f h

below : (a i : ℕ) → is_in_stack_segment (a + i) ≡ true → a + i < 2 ^ 63
below a i s = let parts = both-true (nat_le stack_segment (a + i)) (nat_lt (a + i) (2 ^ 63)) s in is-less (a + i) (2 ^ 63) parts.1

there : (a n i : ℕ) → a < 2 ^ 64 → i < n → n < 2 ^ 64 → is_in_stack_segment (a + i) ≡ true → meets_segment a n ≡ true
there a n i f l m s =
    let low : a + i < 2 ^ 63 = below a i s in
    let same : (a + i) % 2 ^ 64 ≡ a + i = omega (arith, low) in
    segment-only a n i f l m (ap is_in_stack_segment same ∙ s)

no-later : (bytes : ℕ → ℕ) (a n i : ℕ) → IsText most_bytes bytes a n → LooksAt most_bytes bytes a i → i ≤ n
no-later bytes a n i text look = on (nat_lt n i) refl
  where
    on : (b : Bool) → nat_lt n i ≡ b → i ≤ n
    on true e = absurd (look.nonzero n (is-less n i e) text.end)
    on false e = not-less n i e

reach-only : (bytes : ℕ → ℕ) (a i : ℕ) (r : Result ℕ TrapStop) → text_length most_bytes bytes a ≡ r → Short (2 ^ 24) a r → a < 2 ^ 64 → LooksAt most_bytes bytes a i → is_in_stack_segment (a + i) ≡ true →
    meets_segment a (text_reach a r) ≡ true
reach-only bytes a i (Ok n) e short f look s =
    let text = text-found bytes a n e in
    let l : i ≤ n = no-later bytes a n i text look in
    there a (n + 1) i f (omega (arith, l)) (omega (arith, text.few)) s
reach-only bytes a i (Err Negative) e short f look s =
    let low : a + i < 2 ^ 63 = below a i s in
    there a (2 ^ 63 - a) i f (omega (arith, low)) (omega arith) s
reach-only bytes a i (Err TransferTooLarge) e short f look s = there a (2 ^ 24 + 1) i f (omega (arith, look.few)) (omega arith) s
reach-only bytes a i (Err WideTrap) e short f look s = absurd short
reach-only bytes a i (Err TrapPagesFull) e short f look s = absurd short
reach-only bytes a i (Err UnknownTrap) e short f look s = absurd short

pub touch-only : (bytes : ℕ → ℕ) (a i : ℕ) → a < 2 ^ 64 → LooksAt most_bytes bytes a i → is_in_stack_segment (a + i) ≡ true → text_touches bytes a ≡ true
touch-only bytes a i f look s = reach-only bytes a i (text_length most_bytes bytes a) refl (text-short (2 ^ 24) bytes a) f look s

pub ruleset looking = (touch-found, touch-only)
