-- Logic, differences of fields and matrices of bits: a row for each name.
-- (MMIXware, the part on MMIX: bitwise operations, differences of bytes, wydes, tetras and octas, and MOR and MXOR;
-- TAOCP 1, Fascicle 1, section 1.3.1'.)
use Rattle.std.specs.Prelude.{ℕ, ◌+◌, ◌-◌, ◌*◌, ◌/◌, ◌≡◌, ◌⊎◌, Bool, ◌&&◌, ◌||◌, not, bit_or, bit_xor, if◌then◌else◌}
use Rattle.mx_alu.specs.declared.names.Bitwise.{Bitwise}
use Rattle.mx_alu.specs.declared.names.Bitwise.TheVariants.{Or, Orn, Nor, Xor, And, Andn, Nand, Nxor, Bdif, Wdif, Tdif, Odif, Mux, Sadd, Mor, Mxor}
use Rattle.mx_alu.specs.Numbers.{bit, of_bits, field, fields, count_of, combination}

-- exactly one of two
abbrev pub exactly_one : Bool → Bool → Bool
exactly_one b c = if b then not c else c

-- each bit by the bits of y and z at its place
abbrev pub each_bit : (Bool → Bool → Bool) → ℕ → ℕ → ℕ
each_bit f y z = of_bits (λ i. f (bit y i) (bit z i))

-- in each field of w bits the difference, or 0 where it is negative (`-` stops at 0)
abbrev pub differences : ℕ → ℕ → ℕ → ℕ
differences w y z = fields w (64 / w) (λ i. field w y i - field w z i)

-- the widths that fields have
abbrev pub IsFieldWidth : ℕ → Type 0
IsFieldWidth w = (w ≡ 8) ⊎ (w ≡ 16) ⊎ (w ≡ 32)

-- byte i is made of the bytes k of y for which bit k of byte i of z is 1
abbrev pub matrix : (ℕ → ℕ → ℕ) → ℕ → ℕ → ℕ
matrix join y z = fields 8 8 (λ i. combination join 8 (λ k. if bit z (8 * i + k) then field 8 y k else 0))

-- the names from #c0 to #df; m is rM
abbrev pub bitwise : Bitwise → ℕ → ℕ → ℕ → ℕ
bitwise Or y z m = each_bit (λ b c. b || c) y z
bitwise Orn y z m = each_bit (λ b c. b || not c) y z
bitwise Nor y z m = each_bit (λ b c. not (b || c)) y z
bitwise Xor y z m = each_bit (λ b c. exactly_one b c) y z
bitwise And y z m = each_bit (λ b c. b && c) y z
bitwise Andn y z m = each_bit (λ b c. b && not c) y z
bitwise Nand y z m = each_bit (λ b c. not (b && c)) y z
bitwise Nxor y z m = each_bit (λ b c. not (exactly_one b c)) y z
bitwise Bdif y z m = differences 8 y z
bitwise Wdif y z m = differences 16 y z
bitwise Tdif y z m = differences 32 y z
bitwise Odif y z m = y - z
bitwise Mux y z m = of_bits (λ i. if bit m i then bit y i else bit z i)
bitwise Sadd y z m = count_of 64 (λ i. bit y i && not (bit z i))
bitwise Mor y z m = matrix bit_or y z
bitwise Mxor y z m = matrix bit_xor y z
