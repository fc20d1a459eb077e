-- Values and serial numbers as they are written.
use Rattle.std.proofs.Common.{◌≡◌, ℕ, ◌+◌, ◌-◌, ◌/◌, ◌%◌, ◌^◌, ◌<◌, ◌≤◌, ◌==◌, Bool, true, false, cond, List, [], ◌∷◌, ◌++◌, length, arith, refl, sym, ◌∙◌, subst, nat_le, nat_lt, ◌&&◌}
use Rattle.mx_stab.proofs.Words.{eqb-true, octa_to_bytes, Value, Pure, Reg, fewest_digits, octa_digits, is_offset, value_bytes, kind, serial_bytes, number, AreBelow, SpellsValue, SpellsSerial, IsValue, nat_tests}
use Rattle.mx_stab.specs.Grammar.SpellsValue.{pure, offset, register}
use Rattle.mx_stab.specs.Grammar.SpellsSerial.{digits}

-- the digits without zeros in front: their bound, their number, and how many they are
skip-same : (b : Bool) (base d e : ℕ) (more : List ℕ) → (b ≡ true → d ≡ 0) → number base (fewest_digits (e ∷ more)) ≡ number base (e ∷ more) →
    number base (cond b (fewest_digits (e ∷ more)) (d ∷ e ∷ more)) ≡ number base (d ∷ e ∷ more)
skip-same b base d e more h1 h2 = grind arith

fewest_digits-same : (base : ℕ) (ds : List ℕ) → number base (fewest_digits ds) ≡ number base ds
fewest_digits-same base (d ∷ e ∷ more) = skip-same (d == 0) base d e more (eqb-true d 0) (fewest_digits-same base (e ∷ more))
fewest_digits-same base ds = refl

skip-below : (b : Bool) (base d e : ℕ) (more : List ℕ) → AreBelow base (d ∷ e ∷ more) → AreBelow base (fewest_digits (e ∷ more)) → AreBelow base (cond b (fewest_digits (e ∷ more)) (d ∷ e ∷ more))
skip-below b base d e more h1 h2 = grind arith

fewest_digits-below : (base : ℕ) (ds : List ℕ) → AreBelow base ds → AreBelow base (fewest_digits ds)
fewest_digits-below base [] h = tt
fewest_digits-below base (d ∷ []) h = h
fewest_digits-below base (d ∷ e ∷ more) h = skip-below (d == 0) base d e more h (fewest_digits-below base (e ∷ more) h.1)

skip-length : (b : Bool) (d e : ℕ) (more : List ℕ) → (1 ≤ length (fewest_digits (e ∷ more))) × (length (fewest_digits (e ∷ more)) ≤ length (e ∷ more)) →
    (1 ≤ length (cond b (fewest_digits (e ∷ more)) (d ∷ e ∷ more))) × (length (cond b (fewest_digits (e ∷ more)) (d ∷ e ∷ more)) ≤ length (d ∷ e ∷ more))
skip-length b d e more h = grind arith

fewest_digits-length : (d : ℕ) (more : List ℕ) → (1 ≤ length (fewest_digits (d ∷ more))) × (length (fewest_digits (d ∷ more)) ≤ length (d ∷ more))
fewest_digits-length d [] = (omega arith, omega arith)
fewest_digits-length d (e ∷ more) = skip-length (d == 0) d e more (fewest_digits-length e more)

pub octa-number : (x : ℕ) → x < 2 ^ 64 → number 256 (octa_to_bytes x) ≡ x
octa-number x h = omega arith

below-256 : (x : ℕ) → x % 256 < 256
below-256 x = omega arith

octa-below : (x : ℕ) → AreBelow 256 (octa_to_bytes x)
octa-below x = (below-256 _, (below-256 _, (below-256 _, (below-256 _, (below-256 _, (below-256 _, (below-256 _, (below-256 _, tt))))))))

octa-short : (x : ℕ) → x < 2 ^ 48 → length (octa_digits x) ≤ 6
octa-short x h = grind (arith, nat_tests)

some-length : (ds : List ℕ) → 0 < length ds → (1 ≤ length (fewest_digits ds)) × (length (fewest_digits ds) ≤ length ds)
some-length [] h = absurd (omega (arith, h))
some-length (d ∷ more) h = fewest_digits-length d more

octa-length : (x : ℕ) → (1 ≤ length (octa_digits x)) × (length (octa_digits x) ≤ 8)
octa-length x = some-length (octa_to_bytes x) (omega arith)

spell-pure : (b : Bool) (x : ℕ) → (b ≡ true → (2 ^ 61 ≤ x) × (x < 2 ^ 61 + 2 ^ 48)) → x < 2 ^ 64 →
    SpellsValue (cond b (8 + length (octa_digits (x - 2 ^ 61))) (length (octa_digits x))) (Pure x) (cond b (octa_digits (x - 2 ^ 61)) (octa_digits x))
spell-pure false x h l =
    subst (λ y. SpellsValue (length (octa_digits x)) (Pure y) (octa_digits x)) (fewest_digits-same 256 (octa_to_bytes x) ∙ octa-number x l)
    (pure (octa_digits x) (fewest_digits-below 256 (octa_to_bytes x) (octa-below x)) ((octa-length x).0) ((octa-length x).1))
spell-pure true x h l =
    let y = x - 2 ^ 61 in
    let low = (h refl).0 in
    let high = (h refl).1 in
    let small : y < 2 ^ 48 = omega (arith, low, high) in
    let octa : y < 2 ^ 64 = omega (arith, small) in
    let back : 2 ^ 61 + number 256 (octa_digits y) ≡ x = omega (arith, low, fewest_digits-same 256 (octa_to_bytes y) ∙ octa-number y octa) in
    subst (λ z. SpellsValue (8 + length (octa_digits y)) (Pure z) (octa_digits y)) back
    (offset (octa_digits y) (fewest_digits-below 256 (octa_to_bytes y) (octa-below y)) ((octa-length y).0) (octa-short y small))

both : (a b : ℕ) → (nat_le (2 ^ 61) a && nat_lt a b) ≡ true → (2 ^ 61 ≤ a) × (a < b)
both a b h = grind arith

pub spell-value : (v : Value) → IsValue v → SpellsValue (kind v) v (value_bytes v)
spell-value (Pure x) h = spell-pure (is_offset x) x (both x (2 ^ 61 + 2 ^ 48)) h
spell-value (Reg k) h = register k h

-- the digits of a serial number before its last, without zeros in front
record Shortened (front : List ℕ) (last : ℕ) : Type 0 where
  short : List ℕ
  same : fewest_digits (front ++ (last + 128) ∷ []) ≡ short ++ (last + 128) ∷ []
  below : AreBelow 128 short
  tells : number 128 (short ++ last ∷ []) ≡ number 128 (front ++ last ∷ [])

shorten-step : (b : Bool) (d : ℕ) (rest : List ℕ) (last : ℕ) (all : List ℕ) → (b ≡ true → d ≡ 0) → AreBelow 128 (d ∷ rest) →
    all ≡ cond b (fewest_digits (rest ++ (last + 128) ∷ [])) (d ∷ rest ++ (last + 128) ∷ []) → fewest_digits (d ∷ rest ++ (last + 128) ∷ []) ≡ all →
    number 128 (0 ∷ rest ++ last ∷ []) ≡ number 128 (rest ++ last ∷ []) →
    Shortened rest last → Shortened (d ∷ rest) last
shorten-step true d rest last all h l e f z k = grind arith
shorten-step false d rest last all h l e f z k = record { short = d ∷ rest; same = f ∙ e; below = l; tells = refl }

zero-before : (d : ℕ) (more : List ℕ) → number 128 (0 ∷ d ∷ more) ≡ number 128 (d ∷ more)
zero-before d more = refl

shortened : (front : List ℕ) (last : ℕ) → AreBelow 128 front → Shortened front last
shortened [] last h = record { short = []; same = refl; below = tt; tells = refl }
shortened (d ∷ []) last h = shorten-step (d == 0) d [] last _ (eqb-true d 0) h refl refl (zero-before last []) (shortened [] last tt)
shortened (d ∷ e ∷ more) last h = shorten-step (d == 0) d (e ∷ more) last _ (eqb-true d 0) h refl refl (zero-before e (more ++ last ∷ [])) (shortened (e ∷ more) last h.1)

abbrev pub serial-front : ℕ → List ℕ
serial-front x = (x / 2 ^ 28) ∷ (x / 2 ^ 21 % 128) ∷ (x / 2 ^ 14 % 128) ∷ (x / 2 ^ 7 % 128) ∷ []

pub serial-number : (x : ℕ) → number 128 (serial-front x ++ (x % 128) ∷ []) ≡ x
serial-number x = omega arith

pub spell-serial : (x : ℕ) → x < 2 ^ 32 → SpellsSerial x (serial_bytes x)
spell-serial x h =
    let s = shortened (serial-front x) (x % 128) ((omega (arith, h), (omega arith, (omega arith, (omega arith, tt))))) in
    let back : number 128 (s.short ++ (x % 128) ∷ []) ≡ x = s.tells ∙ serial-number x in
    subst (λ y. SpellsSerial y (serial_bytes x)) back
    (subst (λ bs. SpellsSerial (number 128 (s.short ++ (x % 128) ∷ [])) bs) (sym s.same)
    (digits s.short (x % 128) s.below (omega arith) (omega (arith, back, h))))
