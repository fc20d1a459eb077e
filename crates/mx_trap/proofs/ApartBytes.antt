-- What is read of a space that differs in Stack_Segment, where nothing is read there.
use Rattle.std.proofs.Common.{◌≡◌, ℕ, suc, zero, ◌+◌, ◌*◌, ◌/◌, ◌%◌, ◌<◌, ◌≤◌, ◌^◌, Bool, true, false, cond, [], ◌∷◌, arith, refl, sym, ◌∙◌, ap, Ok, Err}
use Rattle.std.specs.Prelude.{Result, ◌==◌, ◌||◌, map}
use Rattle.std.specs.List.{range_with_len}
use Rattle.std.proofs.lemmas.Bool.Decides.{nat_tests}
use Rattle.mx_word.specs.Words.{octa_from_bytes}
use Rattle.mx_word.specs.Results.{map_ok}
use Rattle.mx_mem.specs.Space.{is_negative, octa_of}
use Rattle.mx_trap.specs.Apart.{with_segment, IsClear}
use Rattle.mx_trap.specs.Requests.{bytes_from, last_byte, next_byte, text_length, arguments}
use Rattle.mx_word.specs.Segments.{is_in_stack_segment}
use Rattle.mx_trap.specs.Touches.{meets_segment, text_touches, text_reach}
use Rattle.mx_trap.specs.declared.answer.TrapStop.{TrapStop}
use Rattle.mx_trap.specs.declared.answer.TrapStop.TheVariants.{Negative, WideTrap, TransferTooLarge, TrapPagesFull, UnknownTrap}
use Rattle.mx_trap.proofs.Segments.{Short, text-short}

pub same-byte : (others f : ℕ → ℕ) (a : ℕ) → is_in_stack_segment a ≡ false → with_segment others f a ≡ f a
same-byte others f a e = rw e refl

-- OCTAS

near : (a q : ℕ) → is_in_stack_segment a ≡ false → q / 8 ≡ a / 8 → is_in_stack_segment q ≡ false
near a q e h = grind (arith, nat_tests)

same-near : (others f : ℕ → ℕ) (a k : ℕ) → is_in_stack_segment a ≡ false → k < 8 → with_segment others f (8 * (a / 8) + k) ≡ f (8 * (a / 8) + k)
same-near others f a k e l = same-byte others f (8 * (a / 8) + k) (near a (8 * (a / 8) + k) e (omega (arith, l)))

pub same-octa : (others f : ℕ → ℕ) (a : ℕ) → is_in_stack_segment a ≡ false → octa_of (with_segment others f) a ≡ octa_of f a
same-octa others f a e =
    let s : (k : ℕ) → is_in_stack_segment a ≡ false → k < 8 → with_segment others f (8 * (a / 8) + k) ≡ f (8 * (a / 8) + k) = same-near others f a in
    eight (s 0 e (omega arith)) (s 1 e (omega arith)) (s 2 e (omega arith)) (s 3 e (omega arith)) (s 4 e (omega arith)) (s 5 e (omega arith)) (s 6 e (omega arith)) (s 7 e (omega arith))
  where
    eight : {b c d e f g h i j k l m n o p q : ℕ} → b ≡ j → c ≡ k → d ≡ l → e ≡ m → f ≡ n → g ≡ o → h ≡ p → i ≡ q → octa_from_bytes (b ∷ c ∷ d ∷ e ∷ f ∷ g ∷ h ∷ i ∷ []) ≡ octa_from_bytes (j ∷ k ∷ l ∷ m ∷ n ∷ o ∷ p ∷ q ∷ [])
    eight b0 b1 b2 b3 b4 b5 b6 b7 = rw (b0, b1, b2, b3, b4, b5, b6, b7) refl

-- BYTES

pub clear-next : (a e : ℕ) → IsClear a e → IsClear (a + 1) e
clear-next a e h q l m = h q (omega (arith, l)) m

pub clear-within : (a e b d : ℕ) → IsClear a e → a ≤ b → d ≤ e → IsClear b d
clear-within a e b d h l m q n o = h q (omega (arith, l, n)) (omega (arith, m, o))

pub same-bytes : (others f : ℕ → ℕ) (a n : ℕ) → IsClear a (a + n) → bytes_from (with_segment others f) a n ≡ bytes_from f a n
unfolding bytes_from
same-bytes others f a zero h = refl
same-bytes others f a (suc n) h =
    let first : with_segment others f a ≡ f a = same-byte others f a (h a (omega arith) (omega arith)) in
    let others_too : bytes_from (with_segment others f) (a + 1) n ≡ bytes_from f (a + 1) n = same-bytes others f (a + 1) n (clear-within a (a + suc n) (a + 1) (a + 1 + n) h (omega arith) (omega arith)) in
    ap (λ b. b ∷ map (with_segment others f) (range_with_len (a + 1) n)) first ∙ ap (λ bs. f a ∷ bs) others_too

-- what does not meet the segment is clear
pub clear-of : (a n : ℕ) → meets_segment a n ≡ false → IsClear a (a + n)
clear-of a n e q l m = grind (arith, nat_tests)

-- TEXTS

-- a result of a text was reached below the address e
abbrev Reached : ℕ → ℕ → ℕ → Result ℕ TrapStop → Type 0
Reached room a e (Ok n) = a + n < e
Reached room a e (Err Negative) = 2 ^ 63 ≤ e
Reached room a e (Err TransferTooLarge) = a + room < e
Reached room a e (Err WideTrap) = ⊥
Reached room a e (Err TrapPagesFull) = ⊥
Reached room a e (Err UnknownTrap) = ⊥

more-reached : (room a e : ℕ) (more : Result ℕ TrapStop) → is_negative a ≡ false → Reached (suc room) a e (map_ok (λ n. n + 1) more) → (a < e) × Reached room (a + 1) e more
more-reached room a e (Ok n) h r = (omega (arith, r), omega (arith, r))
more-reached room a e (Err Negative) h r = let l : a < 2 ^ 63 = grind (arith, nat_tests) in (omega (arith, l, r), r)
more-reached room a e (Err TransferTooLarge) h r = (omega (arith, r), omega (arith, r))
more-reached room a e (Err WideTrap) h r = absurd r
more-reached room a e (Err TrapPagesFull) h r = absurd r
more-reached room a e (Err UnknownTrap) h r = absurd r

abbrev byte-if : Bool → ℕ → Result ℕ TrapStop
byte-if negative b = cond negative (Err Negative) (Ok b)

same-last : (a e b c : ℕ) (negative : Bool) → (a < e → c ≡ b) → Reached 0 a e (last_byte (byte-if negative b)) → last_byte (byte-if negative c) ≡ last_byte (byte-if negative b)
same-last a e b c true same r = refl
same-last a e b c false same r = ap (λ x. last_byte (Ok x)) (same (within (b == 0) r))
  where
    within : (z : Bool) → Reached 0 a e (cond z (Ok 0) (Err TransferTooLarge)) → a < e
    within true r = omega (arith, r)
    within false r = omega (arith, r)

same-next : (room a e b c : ℕ) (negative : Bool) (more more' : Result ℕ TrapStop) → is_negative a ≡ negative → (a < e → c ≡ b) → (Reached room (a + 1) e more → more' ≡ more) → Reached (suc room) a e (next_byte more (byte-if negative b)) → next_byte more' (byte-if negative c) ≡ next_byte more (byte-if negative b)
same-next room a e b c true more more' n same then r = refl
same-next room a e b c false more more' n same then r = ap (λ x. next_byte more' (Ok x)) (same (within (b == 0) r)) ∙ after (b == 0) r
  where
    within : (z : Bool) → Reached (suc room) a e (cond z (Ok 0) (map_ok (λ k. k + 1) more)) → a < e
    within true r = omega (arith, r)
    within false r = (more-reached room a e more n r).0

    after : (z : Bool) → Reached (suc room) a e (cond z (Ok 0) (map_ok (λ k. k + 1) more)) → cond z (Ok 0) (map_ok (λ k. k + 1) more') ≡ cond z (Ok 0) (map_ok (λ k. k + 1) more)
    after true r = refl
    after false r = ap (map_ok (λ k. k + 1)) (then (more-reached room a e more n r).1)

text-within : (others f : ℕ → ℕ) (room a e : ℕ) → IsClear a e → Reached room a e (text_length room f a) → text_length room (with_segment others f) a ≡ text_length room f a
unfolding text_length
text-within others f zero a e h r = same-last a e (f a) (with_segment others f a) (is_negative a) (λ l. same-byte others f a (h a (omega arith) l)) r
text-within others f (suc room) a e h r = same-next room a e (f a) (with_segment others f a) (is_negative a) (text_length room f (a + 1)) (text_length room (with_segment others f) (a + 1)) refl (λ l. same-byte others f a (h a (omega arith) l)) (text-within others f room (a + 1) e (clear-next a e h)) r

reach-of : (a : ℕ) (r : Result ℕ TrapStop) → Short (2 ^ 24) a r → Reached (2 ^ 24) a (a + text_reach a r) r
reach-of a (Ok n) h = omega arith
reach-of a (Err Negative) h = omega arith
reach-of a (Err TransferTooLarge) h = omega arith
reach-of a (Err WideTrap) h = absurd h
reach-of a (Err TrapPagesFull) h = absurd h
reach-of a (Err UnknownTrap) h = absurd h

pub same-text : (others f : ℕ → ℕ) (a : ℕ) → text_touches f a ≡ false → text_length (2 ^ 24) (with_segment others f) a ≡ text_length (2 ^ 24) f a
same-text others f a h = text-within others f (2 ^ 24) a (a + text_reach a (text_length (2 ^ 24) f a)) (clear-of a (text_reach a (text_length (2 ^ 24) f a)) h) (reach-of a (text_length (2 ^ 24) f a) (text-short (2 ^ 24) f a))

pub text-untouched : (others f : ℕ → ℕ) (a : ℕ) → text_touches f a ≡ false → text_touches (with_segment others f) a ≡ false
text-untouched others f a h = ap (λ r. meets_segment a (text_reach a r)) (same-text others f a h) ∙ h

-- ARGUMENTS

pub touch-parts : (b c d : Bool) → cond (b || c) true d ≡ false → (b ≡ false) × (c ≡ false) × (d ≡ false)
touch-parts true c d e = absurd (cc)
touch-parts false true d e = absurd (cc)
touch-parts false false d e = (refl, refl, e)

second-octa : (b : ℕ) (c : Bool) → (c || is_negative (b + 8)) ≡ false → (b + 8) % 2 ^ 64 ≡ b + 8
second-octa b true e = absurd (cc)
second-octa b false e = (let l : b + 8 < 2 ^ 63 = grind (arith, nat_tests) in omega (arith, l))

abbrev arguments-if : Bool → ℕ → ℕ → Result (ℕ × ℕ) TrapStop
arguments-if n p q = cond n (Err Negative) (Ok (p, q))

pub same-arguments : (others f : ℕ → ℕ) (b : ℕ) → is_in_stack_segment b ≡ false → is_in_stack_segment ((b + 8) % 2 ^ 64) ≡ false → arguments (with_segment others f) b ≡ arguments f b
same-arguments others f b h k = at (is_negative b || is_negative (b + 8)) refl
  where
    at : (n : Bool) → (is_negative b || is_negative (b + 8)) ≡ n → arguments-if n (octa_of (with_segment others f) b) (octa_of (with_segment others f) (b + 8)) ≡ arguments-if n (octa_of f b) (octa_of f (b + 8))
    at true e = refl
    at false e =
        let on : is_in_stack_segment (b + 8) ≡ false = ap is_in_stack_segment (sym (second-octa b (is_negative b) e)) ∙ k in
        rw (same-octa others f b h, same-octa others f (b + 8) on) refl
