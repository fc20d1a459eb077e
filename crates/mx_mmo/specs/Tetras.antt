-- The bytes of lopcodes, of addresses and of padded names.
-- (MMIXware, the part on MMIXAL, "Binary MMO output".)
use Rattle.std.specs.Prelude.{ℕ, ◌+◌, ◌-◌, ◌*◌, ◌/◌, ◌%◌, ◌^◌, ◌==◌, List, [], ◌∷◌, ◌++◌, length, replicate, if◌then◌else◌}
use Rattle.mx_word.specs.Words.{tetra_to_bytes, octa_to_bytes}

-- a lopcode: #98, the code byte, and the bytes Y and Z
abbrev pub lop : ℕ → ℕ → ℕ → List ℕ
lop code y z = 0x98 ∷ code ∷ y ∷ z ∷ []

-- a lopcode whose bytes Y and Z are one number, 256 Y + Z
abbrev pub wide_lop : ℕ → ℕ → List ℕ
wide_lop code n = lop code (n / 256) (n % 256)

-- a lopcode with an address: the top byte and a tetra, where these tell it; else an octa
abbrev pub address : ℕ → ℕ → List ℕ
address code a =
    if a / 2 ^ 32 % 2 ^ 24 == 0 then lop code (a / 2 ^ 56) 1 ++ tetra_to_bytes (a % 2 ^ 32)
    else lop code 0 2 ++ octa_to_bytes a

-- how many tetras this many bytes fill, and bytes with the zeros that complete the last of them
abbrev pub tetras_for : ℕ → ℕ
tetras_for n = (n + 3) / 4

abbrev pub padded : List ℕ → List ℕ
padded bytes = bytes ++ replicate (4 * tetras_for (length bytes) - length bytes) 0
