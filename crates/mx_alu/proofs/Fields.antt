-- Numbers made of fields.
use Rattle.std.proofs.Common.{◌≡◌, ℕ, ◌+◌, ◌*◌, ◌/◌, ◌%◌, ◌^◌, ◌<◌, zero, suc, refl, sym, ◌∙◌, ap, arith, add-one, add_comm}
use Rattle.mx_alu.proofs.Words.{pow-add, mod-pow-add, mul-add-lt, mul-suc, mul-zero, add-mul, field, fields}

-- fields that agree make one number
pub fields-same : (w n : ℕ) (f g : ℕ → ℕ) → ((i : ℕ) → i < n → f i ≡ g i) → fields w n f ≡ fields w n g
unfolding fields
fields-same w zero f g h = refl
fields-same w (suc n) f g h =
    let here : f n ≡ g n = h n (omega arith) in
    let rest : fields w n f ≡ fields w n g = fields-same w n f g (λ i l. h i (omega arith)) in
    cc

-- the fields of a number make it
pub fields-of : (w n x : ℕ) → fields w n (field w x) ≡ x % 2 ^ (w * n)
unfolding fields
fields-of w zero x = rw mul-zero (omega arith)
fields-of w (suc n) x =
    let rest : fields w n (field w x) ≡ x % 2 ^ (w * n) = fields-of w n x in
    let whole : x % 2 ^ (w + w * n) ≡ (x / 2 ^ (w * n) % 2 ^ w) * 2 ^ (w * n) + x % 2 ^ (w * n) = mod-pow-add x w (w * n) in
    let size : w * suc n ≡ w + w * n = mul-suc w n ∙ add_comm (w * n) w in
    rw (rest, size) (sym whole)

pub fields-below : (w n : ℕ) (f : ℕ → ℕ) → ((i : ℕ) → f i < 2 ^ w) → fields w n f < 2 ^ (w * n)
unfolding fields
fields-below w zero f h = rw mul-zero (omega arith)
fields-below w (suc n) f h =
    let size : 2 ^ (w * suc n) ≡ 2 ^ (w * n) * 2 ^ w = ap (λ k. 2 ^ k) (mul-suc w n) ∙ pow-add 2 (w * n) w in
    rw size (mul-add-lt (f n) (2 ^ (w * n)) (fields w n f) (2 ^ w) (h n) (fields-below w n f h))

-- a field that is placed above the others
pub fields-next : (w n : ℕ) (f : ℕ → ℕ) → fields w (n + 1) f ≡ f n * 2 ^ (w * n) + fields w n f
unfolding fields
fields-next w n f = rw add-one refl

pub fields-times : (w n c : ℕ) (f : ℕ → ℕ) → fields w n f * c ≡ fields w n (λ i. f i * c)
unfolding fields
fields-times w zero c f = omega arith
fields-times w (suc n) c f =
    let rest : fields w n f * c ≡ fields w n (λ i. f i * c) = fields-times w n c f in
    let turned : f n * 2 ^ (w * n) * c ≡ f n * c * 2 ^ (w * n) = omega arith in
    add-mul (f n * 2 ^ (w * n)) (fields w n f) c ∙ cc

-- what joins two numbers block by block joins them field by field
pub fields-join : (op : ℕ → ℕ → ℕ) → op 0 0 ≡ 0 → ((k a b r s : ℕ) → r < 2 ^ k → s < 2 ^ k → op (a * 2 ^ k + r) (b * 2 ^ k + s) ≡ op a b * 2 ^ k + op r s) →
    (w n : ℕ) (f g : ℕ → ℕ) → ((i : ℕ) → f i < 2 ^ w) → ((i : ℕ) → g i < 2 ^ w) → op (fields w n f) (fields w n g) ≡ fields w n (λ i. op (f i) (g i))
unfolding fields
fields-join op none block w zero f g h k = none
fields-join op none block w (suc n) f g h k =
    block (w * n) (f n) (g n) (fields w n f) (fields w n g) (fields-below w n f h) (fields-below w n g k)
    ∙ ap (λ r. op (f n) (g n) * 2 ^ (w * n) + r) (fields-join op none block w n f g h k)
