-- Memory octa by octa: each address gives the octa that holds it. Octas, tetras and bytes are in order from the high end.
-- (MMIXware, the part on MMIX: octabytes in memory; TAOCP 1, Fascicle 1, section 1.3.1'.)
use Rattle.std.specs.Prelude.{ℕ, ◌-◌, ◌*◌, ◌/◌, ◌%◌, ◌^◌, Bool, true, ◌==◌, nat_lt, if◌then◌else◌, bit_xor}

-- the byte of an address in the octa that holds it
abbrev pub byte_of : ℕ → ℕ → ℕ
byte_of x a = x / 2 ^ (8 * (7 - a % 8)) % 256

-- the byte at an address
abbrev pub byte_in : (ℕ → ℕ) → ℕ → ℕ
byte_in octas a = byte_of (octas a) a

-- a tetra in the half of its octa where the address lies
abbrev pub in_half : ℕ → ℕ → ℕ
in_half a t = if nat_lt (a % 8) 4 then t * 2 ^ 32 else t

-- the octas, with a tetra joined by exclusive or to the tetra that holds an address
abbrev pub with_tetra : (ℕ → ℕ) → ℕ → ℕ → ℕ → ℕ
with_tetra octas a t q = if q / 8 == a / 8 then bit_xor (octas q) (in_half a t) else octas q

-- what a tetra at the multiple of 4 at or below a has at the address q; 0 elsewhere
abbrev pub tetra_byte : ℕ → ℕ → ℕ → ℕ
tetra_byte a t q = if q / 4 == a / 4 then t / 2 ^ (8 * (3 - q % 4)) % 256 else 0

-- the bytes, with those of a tetra joined by exclusive or
abbrev pub bytes_with_tetra : (ℕ → ℕ) → ℕ → ℕ → ℕ → ℕ
bytes_with_tetra bytes a t q = bit_xor (bytes q) (tetra_byte a t q)

-- the pages with one more
abbrev pub with_page : (ℕ → Bool) → ℕ → ℕ → Bool
with_page pages p q = if q == p then true else pages q
