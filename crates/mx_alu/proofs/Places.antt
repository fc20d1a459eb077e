-- Fields of words by shifts and masks, and matrices of bits.
use Rattle.std.proofs.Common.{◌≡◌, ℕ, ◌+◌, ◌-◌, ◌*◌, ◌/◌, ◌%◌, ◌^◌, ◌<◌, ◌≤◌, zero, suc, Bool, true, false, cond, refl, sym, ◌∙◌, ap, subst, ⊎_elim, arith, add-one, add_comm, bit_or, bit_xor, bit_and, zero-mul, one-mul}
use Rattle.mx_alu.proofs.Words.{or_lt, xor_lt, or_comm, or_shifted, or_block, xor_block, and_block, and_mask, shl_whole, shr-shr, shr_le, mod_below, pow_pos, ones_shr, bit_at-lt, field, fields, combination, bit, IsFieldWidth, bit_at}
use Rattle.mx_alu.proofs.Logic.{digit}
use Rattle.mx_alu.proofs.Fields.{fields-same, fields-of, fields-below, fields-next, fields-times, fields-join}

-- a field of w bits at a place, by a mask
pub masked : (x w place : ℕ) → w ≤ 64 → bit_and (x / 2 ^ place) ((2 ^ 64 - 1) / 2 ^ (64 - w)) ≡ x / 2 ^ place % 2 ^ w
masked x w place l =
    let size : 64 - (64 - w) ≡ w = omega arith in
    ap (bit_and (x / 2 ^ place)) (ones_shr 64 (64 - w) (omega arith) ∙ ap (λ k. 2 ^ k - 1) size) ∙ and_mask (x / 2 ^ place) w

-- one more difference above the others
pub differences-next : (w n y z : ℕ) → w * n + w ≤ 64 → bit_or (fields w n (λ i. field w y i - field w z i)) ((field w y n - field w z n) * 2 ^ (w * n) % 2 ^ 64) ≡ fields w (n + 1) (λ i. field w y i - field w z i)
differences-next w n y z l =
    let small : field w y n < 2 ^ w = mod_below (y / 2 ^ (w * n)) (2 ^ w) (pow_pos w) in
    let whole : (field w y n - field w z n) * 2 ^ (w * n) % 2 ^ 64 ≡ (field w y n - field w z n) * 2 ^ (w * n) =
    shl_whole (field w y n - field w z n) w (w * n) 64 (omega arith) (omega arith) in
    let below : fields w n (λ i. field w y i - field w z i) < 2 ^ (w * n) = fields-below w n _ (λ i. difference-below w y z i) in
    ap (bit_or (fields w n (λ i. field w y i - field w z i))) whole
    ∙ or_comm (fields w n (λ i. field w y i - field w z i)) ((field w y n - field w z n) * 2 ^ (w * n))
    ∙ or_shifted (field w y n - field w z n) (w * n) (fields w n (λ i. field w y i - field w z i)) below
    ∙ sym (fields-next w n (λ i. field w y i - field w z i))
  where
    difference-below : (w y z i : ℕ) → field w y i - field w z i < 2 ^ w
    difference-below w y z i = let small : field w y i < 2 ^ w = mod_below (y / 2 ^ (w * i)) (2 ^ w) (pow_pos w) in omega arith

-- a field that is there leaves room for its place
pub room : (w n : ℕ) → IsFieldWidth w → n < 64 / w → w * n + w ≤ 64
room w n h l = ⊎_elim (λ e. by 8 (λ k. omega arith) e) (λ o. ⊎_elim (λ e. by 16 (λ k. omega arith) e) (λ e. by 32 (λ k. omega arith) e) o) h
  where
    by : (v : ℕ) → (n < 64 / v → v * n + v ≤ 64) → w ≡ v → w * n + w ≤ 64
    by v f e = subst (λ (u : ℕ). n < 64 / u → u * n + u ≤ 64) (sym e) f l

ones-row : 0x0101_0101_0101_0101 ≡ fields 8 8 (λ i. 1)
unfolding fields
ones-row = refl

lowest : (z k i : ℕ) → bit_and (field 8 (z / 2 ^ k) i) 1 ≡ cond (bit z (8 * i + k)) 1 0
lowest z k i =
    let deeper : z / 2 ^ k / 2 ^ (8 * i) ≡ z / 2 ^ (8 * i + k) = shr-shr z k (8 * i) ∙ ap (λ e. z / 2 ^ e) (add_comm k (8 * i)) in
    let last : field 8 (z / 2 ^ k) i % 2 ≡ z / 2 ^ k / 2 ^ (8 * i) % 2 = omega arith in
    and_mask (field 8 (z / 2 ^ k) i) 1 ∙ last ∙ ap (λ n. n % 2) deeper ∙ digit (bit_at z (8 * i + k)) (bit_at-lt z (8 * i + k))

-- the bytes whose bit k is 1
ones-of : (z k : ℕ) → z < 2 ^ 64 → bit_and (z / 2 ^ k) 0x0101_0101_0101_0101 ≡ fields 8 8 (λ i. cond (bit z (8 * i + k)) 1 0)
ones-of z k l =
    let small : z / 2 ^ k % 2 ^ 64 ≡ z / 2 ^ k = omega (arith, shr_le z k) in
    let whole : fields 8 8 (field 8 (z / 2 ^ k)) ≡ z / 2 ^ k % 2 ^ 64 = fields-of 8 8 (z / 2 ^ k) in
    ap (λ x. bit_and x 0x0101_0101_0101_0101) (sym (whole ∙ small))
    ∙ ap (bit_and (fields 8 8 (field 8 (z / 2 ^ k)))) ones-row
    ∙ fields-join bit_and refl and_block 8 8 (field 8 (z / 2 ^ k)) (λ i. 1) (λ i. mod_below (z / 2 ^ k / 2 ^ (8 * i)) (2 ^ 8) (omega arith)) (λ i. omega arith)
    ∙ fields-same 8 8 _ _ (λ i h. lowest z k i)

times-digit : (b : Bool) (c : ℕ) → cond b 1 0 * c ≡ cond b c 0
times-digit true c = one-mul c
times-digit false c = zero-mul c

-- byte k of y in the bytes whose bit k is 1
pub chosen-is : (y z k : ℕ) → z < 2 ^ 64 → bit_and (z / 2 ^ k) 0x0101_0101_0101_0101 * (y / 2 ^ (8 * k) % 2 ^ 8) ≡ fields 8 8 (λ i. cond (bit z (8 * i + k)) (field 8 y k) 0)
chosen-is y z k l =
    ap (λ r. r * (y / 2 ^ (8 * k) % 2 ^ 8)) (ones-of z k l)
    ∙ fields-times 8 8 (y / 2 ^ (8 * k) % 2 ^ 8) (λ i. cond (bit z (8 * i + k)) 1 0)
    ∙ fields-same 8 8 _ _ (λ i h. times-digit (bit z (8 * i + k)) (field 8 y k))

byte-or-none : (b : Bool) (y k : ℕ) → cond b (field 8 y k) 0 < 2 ^ 8
byte-or-none true y k = mod_below (y / 2 ^ (8 * k)) (2 ^ 8) (omega arith)
byte-or-none false y k = omega arith

pub chosen-below : (y z k : ℕ) → z < 2 ^ 64 → bit_and (z / 2 ^ k) 0x0101_0101_0101_0101 * (y / 2 ^ (8 * k) % 2 ^ 8) < 2 ^ 64
chosen-below y z k l = rw (chosen-is y z k l) (fields-below 8 8 _ (λ i. byte-or-none (bit z (8 * i + k)) y k))

combination-below : (op : ℕ → ℕ → ℕ) → ((a b : ℕ) → a < 2 ^ 8 → b < 2 ^ 8 → op a b < 2 ^ 8) → (n : ℕ) (f : ℕ → ℕ) → ((i : ℕ) → f i < 2 ^ 8) → combination op n f < 2 ^ 8
unfolding combination
combination-below op lt zero f h = omega arith
combination-below op lt (suc n) f h = lt (combination op n f) (f n) (combination-below op lt n f h) (h n)

combination-next : (op : ℕ → ℕ → ℕ) (n : ℕ) (f : ℕ → ℕ) → combination op (n + 1) f ≡ op (combination op n f) (f n)
unfolding combination
combination-next op n f = rw add-one refl

-- the first n bytes of y, where they are chosen
abbrev pub matrix_of : (ℕ → ℕ → ℕ) → ℕ → ℕ → ℕ → ℕ
matrix_of op n y z = fields 8 8 (λ i. combination op n (λ k. cond (bit z (8 * i + k)) (field 8 y k) 0))

pub matrix-none : (op : ℕ → ℕ → ℕ) (y z : ℕ) → matrix_of op 0 y z ≡ 0
unfolding fields combination
matrix-none op y z = refl

matrix-next : (op : ℕ → ℕ → ℕ) → op 0 0 ≡ 0 → ((k a b r s : ℕ) → r < 2 ^ k → s < 2 ^ k → op (a * 2 ^ k + r) (b * 2 ^ k + s) ≡ op a b * 2 ^ k + op r s) →
    ((a b : ℕ) → a < 2 ^ 8 → b < 2 ^ 8 → op a b < 2 ^ 8) → (y z n : ℕ) → op (matrix_of op n y z) (fields 8 8 (λ i. cond (bit z (8 * i + n)) (field 8 y n) 0)) ≡ matrix_of op (n + 1) y z
matrix-next op none block lt y z n =
    fields-join op none block 8 8 _ _ (λ i. combination-below op lt n _ (λ k. byte-or-none (bit z (8 * i + k)) y k)) (λ i. byte-or-none (bit z (8 * i + n)) y n)
    ∙ fields-same 8 8 _ _ (λ i h. sym (combination-next op n (λ k. cond (bit z (8 * i + k)) (field 8 y k) 0)))

pub matrix-or-next : (y z n : ℕ) → bit_or (matrix_of bit_or n y z) (fields 8 8 (λ i. cond (bit z (8 * i + n)) (field 8 y n) 0)) ≡ matrix_of bit_or (n + 1) y z
matrix-or-next y z n = matrix-next bit_or refl or_block (λ a b. or_lt 8 a b) y z n

pub matrix-xor-next : (y z n : ℕ) → bit_xor (matrix_of bit_xor n y z) (fields 8 8 (λ i. cond (bit z (8 * i + n)) (field 8 y n) 0)) ≡ matrix_of bit_xor (n + 1) y z
matrix-xor-next y z n = matrix-next bit_xor refl xor_block (λ a b. xor_lt 8 a b) y z n

pub ruleset differ_steps = (masked, differences-next, room)

pub ruleset matrix_steps = (chosen-is, chosen-below, matrix-none, matrix-or-next, matrix-xor-next)
