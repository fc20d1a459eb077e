-- Whole numbers, floors, and the bits and fields of octas.
use Rattle.std.specs.Prelude.{ℕ, zero, suc, ◌+◌, ◌-◌, ◌*◌, ◌/◌, ◌%◌, ◌^◌, ℤ, pos, negsuc, neg_ℤ, Bool, ◌==◌, nat_lt, if◌then◌else◌}

-- what is left of a whole number modulo 2^64
abbrev pub octa : ℤ → ℕ
octa (pos n) = n % 2 ^ 64
octa (negsuc n) = 2 ^ 64 - 1 - n % 2 ^ 64

-- whether a whole number lies from -2^63 to 2^63 - 1
abbrev pub is_signed : ℤ → Bool
is_signed (pos n) = nat_lt n (2 ^ 63)
is_signed (negsuc n) = nat_lt n (2 ^ 63)

-- the floor of a quotient by a positive number
abbrev pub floor_by : ℤ → ℕ → ℤ
floor_by (pos a) m = pos (a / m)
floor_by (negsuc a) m = negsuc (a / m)

-- the floor of a quotient by any number but 0
abbrev pub floor_quotient : ℤ → ℤ → ℤ
floor_quotient a (pos b) = floor_by a b
floor_quotient a (negsuc b) = floor_by (neg_ℤ a) (b + 1)

-- bit i of a number, counted from the low end
abbrev pub bit : ℕ → ℕ → Bool
bit x i = x / 2 ^ i % 2 == 1

-- field i, of w bits, of a number, counted from the low end
abbrev pub field : ℕ → ℕ → ℕ → ℕ
field w x i = x / 2 ^ (w * i) % 2 ^ w

-- the number of n fields of w bits each
unfoldable pub fields : ℕ → ℕ → (ℕ → ℕ) → ℕ
fields w zero f = 0
fields w (suc n) f = f n * 2 ^ (w * n) + fields w n f

-- the octa with these bits
abbrev pub of_bits : (ℕ → Bool) → ℕ
of_bits f = fields 1 64 (λ i. if f i then 1 else 0)

-- for how many of the numbers below n it holds
unfoldable pub count_of : ℕ → (ℕ → Bool) → ℕ
count_of zero f = 0
count_of (suc n) f = (if f n then 1 else 0) + count_of n f

-- n numbers combined one after the other
unfoldable pub combination : (ℕ → ℕ → ℕ) → ℕ → (ℕ → ℕ) → ℕ
combination combine zero f = 0
combination combine (suc n) f = combine (combination combine n f) (f n)
