-- Logic on words, bit by bit.
use Rattle.std.proofs.Common.{◌≡◌, ℕ, ◌+◌, ◌-◌, ◌*◌, ◌/◌, ◌%◌, ◌^◌, ◌<◌, zero, suc, min, max, Bool, true, false, cond, eqb, refl, sym, ◌∙◌, ap, arith, bit_or, bit_xor, bit_and, one-mul}
use Rattle.std.specs.Prelude.{not, ◌||◌, ◌&&◌}
use Rattle.mx_alu.proofs.Words.{or_lt, xor_lt, and_le_l, ones_cat, shr_split, bit_at_and, bit_at_or, bit_at_xor, bit_at_not, bit_at-lt, bit_at_cat_low, bit_at, w64, field, fields, count_of, bit, of_bits, each_bit, exactly_one}
use lib.Count.{ones, ones_in}
use Rattle.mx_alu.proofs.Fields.{fields-same, fields-of, fields-below}

-- a bit as a number
pub digit : (d : ℕ) → d < 2 → d ≡ cond (eqb d 1) 1 0
digit zero l = refl
digit (suc zero) l = refl
digit (suc (suc d)) l = absurd (omega arith)

field-bit : (x i : ℕ) → field 1 x i ≡ cond (bit x i) 1 0
field-bit x i = ap (λ k. x / 2 ^ k % 2) (one-mul i) ∙ digit (bit_at x i) (bit_at-lt x i)

-- an octa that has these bits is made of them
pub bits-is : (x : ℕ) (f : ℕ → Bool) → x < 2 ^ 64 → ((i : ℕ) → i < 64 → bit x i ≡ f i) → x ≡ of_bits f
bits-is x f l h =
    let whole : fields 1 64 (field 1 x) ≡ x % 2 ^ 64 = fields-of 1 64 x in
    let small : x % 2 ^ 64 ≡ x = omega arith in
    sym small ∙ sym whole ∙ fields-same 1 64 (field 1 x) (λ i. cond (f i) 1 0) (λ i k. field-bit x i ∙ ap (λ b. cond b 1 0) (h i k))

digits-or : (c d : ℕ) → c < 2 → d < 2 → eqb (max c d) 1 ≡ (eqb c 1 || eqb d 1)
digits-or zero zero l k = refl
digits-or zero (suc zero) l k = refl
digits-or (suc zero) zero l k = refl
digits-or (suc zero) (suc zero) l k = refl
digits-or (suc (suc c)) d l k = absurd (omega arith)
digits-or c (suc (suc d)) l k = absurd (omega arith)

digits-and : (c d : ℕ) → c < 2 → d < 2 → eqb (min c d) 1 ≡ (eqb c 1 && eqb d 1)
digits-and zero zero l k = refl
digits-and zero (suc zero) l k = refl
digits-and (suc zero) zero l k = refl
digits-and (suc zero) (suc zero) l k = refl
digits-and (suc (suc c)) d l k = absurd (omega arith)
digits-and c (suc (suc d)) l k = absurd (omega arith)

digits-xor : (c d : ℕ) → c < 2 → d < 2 → eqb ((c + d) % 2) 1 ≡ exactly_one (eqb c 1) (eqb d 1)
digits-xor zero zero l k = refl
digits-xor zero (suc zero) l k = refl
digits-xor (suc zero) zero l k = refl
digits-xor (suc zero) (suc zero) l k = refl
digits-xor (suc (suc c)) d l k = absurd (omega arith)
digits-xor c (suc (suc d)) l k = absurd (omega arith)

digit-not : (d : ℕ) → d < 2 → eqb (1 - d) 1 ≡ not (eqb d 1)
digit-not zero l = refl
digit-not (suc zero) l = refl
digit-not (suc (suc d)) l = absurd (omega arith)

bit-or : (x y i : ℕ) → bit (bit_or x y) i ≡ (bit x i || bit y i)
bit-or x y i = ap (λ d. eqb d 1) (bit_at_or x y i) ∙ digits-or (bit_at x i) (bit_at y i) (bit_at-lt x i) (bit_at-lt y i)

bit-and : (x y i : ℕ) → bit (bit_and x y) i ≡ (bit x i && bit y i)
bit-and x y i = ap (λ d. eqb d 1) (bit_at_and x y i) ∙ digits-and (bit_at x i) (bit_at y i) (bit_at-lt x i) (bit_at-lt y i)

bit-xor : (x y i : ℕ) → bit (bit_xor x y) i ≡ exactly_one (bit x i) (bit y i)
bit-xor x y i = ap (λ d. eqb d 1) (bit_at_xor x y i) ∙ digits-xor (bit_at x i) (bit_at y i) (bit_at-lt x i) (bit_at-lt y i)

bit-not : (x i : ℕ) → x < 2 ^ 64 → i < 64 → bit (2 ^ 64 - 1 - x) i ≡ not (bit x i)
bit-not x i l k = ap (λ d. eqb d 1) (bit_at_not w64 x i l k) ∙ digit-not (bit_at x i) (bit_at-lt x i)

not-lt : (x : ℕ) → 2 ^ 64 - 1 - x < 2 ^ 64
not-lt x = omega arith

and-lt : (x y : ℕ) → x < 2 ^ 64 → bit_and x y < 2 ^ 64
and-lt x y l = omega (arith, and_le_l x y)

-- the names of logic
pub or-is : (y z : ℕ) → y < 2 ^ 64 → z < 2 ^ 64 → bit_or y z ≡ each_bit (λ b c. b || c) y z
or-is y z l k = bits-is _ _ (or_lt 64 y z l k) (λ i h. bit-or y z i)

pub orn-is : (y z : ℕ) → y < 2 ^ 64 → z < 2 ^ 64 → bit_or y (2 ^ 64 - 1 - z) ≡ each_bit (λ b c. b || not c) y z
orn-is y z l k = bits-is _ _ (or_lt 64 y _ l (not-lt z)) (λ i h. bit-or y _ i ∙ ap (λ c. bit y i || c) (bit-not z i k h))

pub nor-is : (y z : ℕ) → y < 2 ^ 64 → z < 2 ^ 64 → 2 ^ 64 - 1 - bit_or y z ≡ each_bit (λ b c. not (b || c)) y z
nor-is y z l k = bits-is _ _ (not-lt _) (λ i h. bit-not _ i (or_lt 64 y z l k) h ∙ ap not (bit-or y z i))

pub xor-is : (y z : ℕ) → y < 2 ^ 64 → z < 2 ^ 64 → bit_xor y z ≡ each_bit (λ b c. exactly_one b c) y z
xor-is y z l k = bits-is _ _ (xor_lt 64 y z l k) (λ i h. bit-xor y z i)

pub and-is : (y z : ℕ) → y < 2 ^ 64 → bit_and y z ≡ each_bit (λ b c. b && c) y z
and-is y z l = bits-is _ _ (and-lt y z l) (λ i h. bit-and y z i)

pub andn-is : (y z : ℕ) → y < 2 ^ 64 → z < 2 ^ 64 → bit_and y (2 ^ 64 - 1 - z) ≡ each_bit (λ b c. b && not c) y z
andn-is y z l k = bits-is _ _ (and-lt y _ l) (λ i h. bit-and y _ i ∙ ap (λ c. bit y i && c) (bit-not z i k h))

pub nand-is : (y z : ℕ) → y < 2 ^ 64 → z < 2 ^ 64 → 2 ^ 64 - 1 - bit_and y z ≡ each_bit (λ b c. not (b && c)) y z
nand-is y z l k = bits-is _ _ (not-lt _) (λ i h. bit-not _ i (and-lt y z l) h ∙ ap not (bit-and y z i))

pub nxor-is : (y z : ℕ) → y < 2 ^ 64 → z < 2 ^ 64 → 2 ^ 64 - 1 - bit_xor y z ≡ each_bit (λ b c. not (exactly_one b c)) y z
nxor-is y z l k = bits-is _ _ (not-lt _) (λ i h. bit-not _ i (xor_lt 64 y z l k) h ∙ ap not (bit-xor y z i))

chosen-bit : (m y z : Bool) → ((y && m) || (z && not m)) ≡ cond m y z
chosen-bit true true z = refl
chosen-bit true false true = refl
chosen-bit true false false = refl
chosen-bit false true true = refl
chosen-bit false true false = refl
chosen-bit false false true = refl
chosen-bit false false false = refl

pub mux-is : (m y z : ℕ) → m < 2 ^ 64 → y < 2 ^ 64 → z < 2 ^ 64 → bit_or (bit_and y m) (bit_and z (2 ^ 64 - 1 - m)) ≡ of_bits (λ i. cond (bit m i) (bit y i) (bit z i))
mux-is m y z lm ly lz = bits-is _ _ (or_lt 64 _ _ (and-lt y _ ly) (and-lt z _ lz))
    (λ i h. bit-or _ _ i ∙ ap (λ b. b || bit (bit_and z (2 ^ 64 - 1 - m)) i) (bit-and y m i)
    ∙ ap (λ c. (bit y i && bit m i) || c) (bit-and z _ i ∙ ap (λ c. bit z i && c) (bit-not m i lm h))
    ∙ chosen-bit (bit m i) (bit y i) (bit z i))

ones-digit : (b : Bool) → ones (cond b 1 0) ≡ cond b 1 0
unfolding ones ones_in
ones-digit true = refl
ones-digit false = refl

digit-lt : (b : Bool) → cond b 1 0 < 2 ^ 1
digit-lt true = omega arith
digit-lt false = omega arith

ones-zero : ones 0 ≡ 0
unfolding ones ones_in
ones-zero = refl

ones-fields : (n : ℕ) (f : ℕ → Bool) → ones (fields 1 n (λ i. cond (f i) 1 0)) ≡ count_of n f
unfolding fields count_of
ones-fields zero f = ones-zero
ones-fields (suc n) f =
    ones_cat (1 * n) (cond (f n) 1 0) (fields 1 n (λ i. cond (f i) 1 0)) (fields-below 1 n _ (λ i. digit-lt (f i)))
    ∙ ap (λ d. d + ones (fields 1 n (λ i. cond (f i) 1 0))) (ones-digit (f n))
    ∙ ap (λ r. cond (f n) 1 0 + r) (ones-fields n f)

pub sadd-is : (y z : ℕ) → y < 2 ^ 64 → z < 2 ^ 64 → ones (bit_and y (2 ^ 64 - 1 - z)) ≡ count_of 64 (λ i. bit y i && not (bit z i))
sadd-is y z l k = ap ones (andn-is y z l k) ∙ ones-fields 64 (λ i. bit y i && not (bit z i))

pub ruleset logic = (or-is, orn-is, nor-is, xor-is, and-is, andn-is, nand-is, nxor-is, mux-is, sadd-is)

-- only the low 64 bits count
low-bit : (v i : ℕ) → i < 64 → bit (v % 2 ^ 64) i ≡ bit v i
low-bit v i h = ap (λ d. eqb d 1) (sym (bit_at_cat_low (v / 2 ^ 64) 64 (v % 2 ^ 64) i h) ∙ ap (λ n. bit_at n i) (shr_split v 64))

each-low : (f : Bool → Bool → Bool) (y v : ℕ) → each_bit f y (v % 2 ^ 64) ≡ each_bit f y v
each-low f y v = fields-same 1 64 _ _ (λ i h. ap (λ c. cond (f (bit y i) c) 1 0) (low-bit v i h))

pub or-wyde : (x v : ℕ) → x < 2 ^ 64 → bit_or x (v % 2 ^ 64) ≡ each_bit (λ b c. b || c) x v
or-wyde x v l = or-is x (v % 2 ^ 64) l (omega arith) ∙ each-low (λ b c. b || c) x v

pub andn-wyde : (x v : ℕ) → x < 2 ^ 64 → bit_and x (2 ^ 64 - 1 - v % 2 ^ 64) ≡ each_bit (λ b c. b && not c) x v
andn-wyde x v l = andn-is x (v % 2 ^ 64) l (omega arith) ∙ each-low (λ b c. b && not c) x v

pub ruleset wydes = (or-wyde, andn-wyde)
