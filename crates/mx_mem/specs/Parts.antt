-- The parts of an octa: bytes, wydes and tetras from the high end, each at a multiple of its size (MMIXware, LNCS 1750;
-- TAOCP 1, Fascicle 1, section 1.3.1').
use Rattle.std.specs.Prelude.{ℕ, ◌+◌, ◌-◌, ◌*◌, ◌/◌, ◌%◌, ◌^◌, ◌==◌, if◌then◌else◌}
use Rattle.mx_mem.specs.declared.part.Part.{Part}
use Rattle.mx_mem.specs.declared.part.Part.TheVariants.{Byte, Wyde, Tetra, Octa}

-- how many bytes a part has
abbrev pub size_of : Part → ℕ
size_of Byte = 1
size_of Wyde = 2
size_of Tetra = 4
size_of Octa = 8

-- how many bits of an octa are below the part where an address lies
abbrev pub bits_below : Part → ℕ → ℕ
bits_below part a = 8 * (8 - size_of part - a % 8 / size_of part * size_of part)

-- the part of an octa where an address lies
abbrev pub part_of : Part → ℕ → ℕ → ℕ
part_of part x a = x / 2 ^ bits_below part a % 2 ^ (8 * size_of part)

-- an octa with the low bytes of x in place of the part where an address lies
abbrev pub with_part : Part → ℕ → ℕ → ℕ → ℕ
with_part part octa a x =
    octa - part_of part octa a * 2 ^ bits_below part a + x % 2 ^ (8 * size_of part) * 2 ^ bits_below part a

-- the bytes, with the low bytes of x, from the high end, in place of the part that holds an address
abbrev pub bytes_with_part : Part → (ℕ → ℕ) → ℕ → ℕ → ℕ → ℕ
bytes_with_part part bytes a x q =
    if q / size_of part == a / size_of part then x / 2 ^ (8 * (size_of part - 1 - q % size_of part)) % 256
    else bytes q
