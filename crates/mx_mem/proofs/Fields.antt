-- Fields of bits within a number, and what the bytes are when one is replaced.
use Rattle.std.proofs.Common.{◌≡◌, ◌<◌, ◌≤◌, ◌/◌, ◌%◌, ◌*◌, ◌+◌, ◌-◌, ◌^◌, ℕ, arith, ap, sym, subst, ◌∙◌}
use Rattle.std.proofs.Math.Nat.{div-div-eq-div-mul, div-lt_iff_lt-mul, mod-lt, add-mul}
use Rattle.std.proofs.Math.Pow.{mod-mod-pow}
use Rattle.std.proofs.lemmas.Nat.{pow_pos, pow-add, mul-add-lt, mod-pow-add, div-mul-add, mod_low, div-add-mod'}

-- a number with x in place of the bits from s to s + w
abbrev pub replaced : ℕ → ℕ → ℕ → ℕ → ℕ
replaced n s w x = n - n / 2 ^ s % 2 ^ w * 2 ^ s + x % 2 ^ w * 2 ^ s

pow-pos : (k : ℕ) → 0 < 2 ^ k
pow-pos k = pow_pos k

-- a byte, by the bits up to its end
byte-low : (n k : ℕ) → n / 2 ^ k % 2 ^ 8 ≡ n % 2 ^ (8 + k) / 2 ^ k
byte-low n k = sym (ap (λ m. m / 2 ^ k) (mod-pow-add n 8 k) ∙ div-mul-add (n / 2 ^ k % 2 ^ 8) (2 ^ k) (n % 2 ^ k) (mod-lt n (pow-pos k)))

-- two numbers with the same low bits have the same bytes there
same-byte : (n m k j : ℕ) → n % 2 ^ (j + (8 + k)) ≡ m % 2 ^ (j + (8 + k)) → n / 2 ^ k % 2 ^ 8 ≡ m / 2 ^ k % 2 ^ 8
same-byte n m k j e =
    byte-low n k ∙ ap (λ b. b / 2 ^ k) (sym (mod-mod-pow n j (8 + k)) ∙ ap (λ b. b % 2 ^ (8 + k)) e ∙ mod-mod-pow m j (8 + k)) ∙ sym (byte-low m k)

-- the bits above, the field, and the bits below
replaced-is : (n s w x : ℕ) → replaced n s w x ≡ (n / 2 ^ s / 2 ^ w * 2 ^ w + x % 2 ^ w) * 2 ^ s + n % 2 ^ s
replaced-is n s w x =
    let whole = div-add-mod' n (2 ^ s) in
    let parts = div-add-mod' (n / 2 ^ s) (2 ^ w) in
    let old : n / 2 ^ s * 2 ^ s ≡ n / 2 ^ s / 2 ^ w * 2 ^ w * 2 ^ s + n / 2 ^ s % 2 ^ w * 2 ^ s = ap (λ m. m * 2 ^ s) (sym parts) ∙ add-mul (n / 2 ^ s / 2 ^ w * 2 ^ w) (n / 2 ^ s % 2 ^ w) (2 ^ s) in
    let new = add-mul (n / 2 ^ s / 2 ^ w * 2 ^ w) (x % 2 ^ w) (2 ^ s) in
    omega arith

low-kept : (n s w x : ℕ) → replaced n s w x % 2 ^ s ≡ n % 2 ^ s
low-kept n s w x = ap (λ m. m % 2 ^ s) (replaced-is n s w x) ∙ mod_low (n / 2 ^ s / 2 ^ w * 2 ^ w + x % 2 ^ w) s (n % 2 ^ s) (mod-lt n (pow-pos s))

high-is : (n s w x : ℕ) → replaced n s w x / 2 ^ s ≡ n / 2 ^ s / 2 ^ w * 2 ^ w + x % 2 ^ w
high-is n s w x = ap (λ m. m / 2 ^ s) (replaced-is n s w x) ∙ div-mul-add (n / 2 ^ s / 2 ^ w * 2 ^ w + x % 2 ^ w) (2 ^ s) (n % 2 ^ s) (mod-lt n (pow-pos s))

-- a byte below the field
pub byte-below : (n s w x e k : ℕ) → s ≡ k + (8 + e) → replaced n s w x / 2 ^ e % 2 ^ 8 ≡ n / 2 ^ e % 2 ^ 8
byte-below n s w x e k f = same-byte (replaced n s w x) n e k (subst (λ t. replaced n s w x % 2 ^ t ≡ n % 2 ^ t) f (low-kept n s w x))

-- a byte above the field
pub byte-above : (n s w x e k : ℕ) → e ≡ s + (w + k) → replaced n s w x / 2 ^ e % 2 ^ 8 ≡ n / 2 ^ e % 2 ^ 8
byte-above n s w x e k f =
    let up = λ (m : ℕ). ap (λ t. m / 2 ^ t % 2 ^ 8) f ∙ ap (λ d. d % 2 ^ 8) (sym (split m)) in
    up (replaced n s w x) ∙ ap (λ h. h / 2 ^ k % 2 ^ 8) (ap (λ h. h / 2 ^ w) (high-is n s w x) ∙ div-mul-add (n / 2 ^ s / 2 ^ w) (2 ^ w) (x % 2 ^ w) (mod-lt x (pow-pos w))) ∙ sym (up n)
  where
    split : (m : ℕ) → m / 2 ^ s / 2 ^ w / 2 ^ k ≡ m / 2 ^ (s + (w + k))
    split m = div-div-eq-div-mul (m / 2 ^ s) (2 ^ w) (2 ^ k) ∙ ap (λ d. m / 2 ^ s / d) (sym (pow-add 2 w k)) ∙ div-div-eq-div-mul m (2 ^ s) (2 ^ (w + k)) ∙ ap (λ d. m / d) (sym (pow-add 2 s (w + k)))

-- a byte within the field
pub byte-within : (n s w x e k j : ℕ) → e ≡ s + k → w ≡ j + (8 + k) → replaced n s w x / 2 ^ e % 2 ^ 8 ≡ x / 2 ^ k % 2 ^ 8
byte-within n s w x e k j f g =
    ap (λ t. replaced n s w x / 2 ^ t % 2 ^ 8) f
    ∙ ap (λ d. replaced n s w x / d % 2 ^ 8) (pow-add 2 s k)
    ∙ ap (λ d. d % 2 ^ 8) (sym (div-div-eq-div-mul (replaced n s w x) (2 ^ s) (2 ^ k)))
    ∙ ap (λ d. d / 2 ^ k % 2 ^ 8) (high-is n s w x)
    ∙ same-byte (n / 2 ^ s / 2 ^ w * 2 ^ w + x % 2 ^ w) x k j (subst (λ t. (n / 2 ^ s / 2 ^ w * 2 ^ w + x % 2 ^ w) % 2 ^ t ≡ x % 2 ^ t) g (mod_low (n / 2 ^ s / 2 ^ w) w (x % 2 ^ w) (mod-lt x (pow-pos w))))

-- a field stays within the number, and what replaces it too
pub field-within : (n s w : ℕ) → n / 2 ^ s % 2 ^ w * 2 ^ s ≤ n
field-within n s w =
    let whole = div-add-mod' n (2 ^ s) in
    let parts = div-add-mod' (n / 2 ^ s) (2 ^ w) in
    let old : n / 2 ^ s * 2 ^ s ≡ n / 2 ^ s / 2 ^ w * 2 ^ w * 2 ^ s + n / 2 ^ s % 2 ^ w * 2 ^ s = ap (λ m. m * 2 ^ s) (sym parts) ∙ add-mul (n / 2 ^ s / 2 ^ w * 2 ^ w) (n / 2 ^ s % 2 ^ w) (2 ^ s) in
    omega arith

pub replaced-fits : (n s w k x : ℕ) → n < 2 ^ (s + (w + k)) → replaced n s w x < 2 ^ (s + (w + k))
replaced-fits n s w k x l =
    let split : n / 2 ^ s / 2 ^ w ≡ n / 2 ^ (s + w) = div-div-eq-div-mul n (2 ^ s) (2 ^ w) ∙ ap (λ d. n / d) (sym (pow-add 2 s w)) in
    let whole : s + (w + k) ≡ k + (s + w) = omega arith in
    let room : n < 2 ^ k * 2 ^ (s + w) = subst (λ t. n < t) (pow-add 2 k (s + w)) (subst (λ t. n < 2 ^ t) whole l) in
    let above : n / 2 ^ s / 2 ^ w < 2 ^ k = subst (λ d. d < 2 ^ k) (sym split) ((div-lt_iff_lt-mul (pow-pos (s + w))).1 room) in
    let inner = mul-add-lt (n / 2 ^ s / 2 ^ w) (2 ^ w) (x % 2 ^ w) (2 ^ k) above (mod-lt x (pow-pos w)) in
    let outer = mul-add-lt (n / 2 ^ s / 2 ^ w * 2 ^ w + x % 2 ^ w) (2 ^ s) (n % 2 ^ s) (2 ^ w * 2 ^ k) inner (mod-lt n (pow-pos s)) in
    rw (replaced-is n s w x, pow-add 2 s (w + k), pow-add 2 w k) outer
