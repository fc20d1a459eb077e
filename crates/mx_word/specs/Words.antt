-- Octas and tetras: whole numbers below 2^64 and 2^32, whose bytes are in order from the high end.
-- (MMIXware, the part on MMIX: wydes, tetrabytes and octabytes; TAOCP 1, Fascicle 1, section 1.3.1'.)
use Rattle.std.specs.Prelude.{ℕ, ◌+◌, ◌-◌, ◌*◌, ◌/◌, ◌%◌, ◌^◌, ℤ, pos, negsuc, List, Option, None, Some, nat_lt, nat_le, if◌then◌else◌}
use Rattle.std.specs.Int.{w32, w64, to_be_bytes, from_be_bytes}

-- the signed value of an octa: those from 2^63 on mean themselves less 2^64
abbrev pub signed_value : ℕ → ℤ
signed_value x = if nat_lt x (2 ^ 63) then pos x else negsuc (2 ^ 64 - 1 - x)

-- the high and the low half of a product
abbrev pub product_halves : ℕ → ℕ → ℕ × ℕ
product_halves x y = (x * y / 2 ^ 64, x * y % 2 ^ 64)

-- quotient and remainder of 2^64 d + y by z, where the quotient is an octa
abbrev pub quotient_of : ℕ → ℕ → ℕ → Option (ℕ × ℕ)
quotient_of d y z = if nat_le z d then None else Some ((2 ^ 64 * d + y) / z, (2 ^ 64 * d + y) % z)

-- a difference modulo 2^64
abbrev pub difference : ℕ → ℕ → ℕ
difference x y = (x + (2 ^ 64 - y)) % 2 ^ 64

-- the bytes of an octa and of a tetra
abbrev pub octa_to_bytes : ℕ → List ℕ
octa_to_bytes x = to_be_bytes w64 x

abbrev pub tetra_to_bytes : ℕ → List ℕ
tetra_to_bytes x = to_be_bytes w32 x

-- the octa of eight bytes and the tetra of four
abbrev pub octa_from_bytes : List ℕ → ℕ
octa_from_bytes bytes = from_be_bytes w64 bytes

abbrev pub tetra_from_bytes : List ℕ → ℕ
tetra_from_bytes bytes = from_be_bytes w32 bytes
