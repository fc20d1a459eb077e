-- Loads and stores: what part of an octa is moved, and what becomes of its value (MMIXware, the part on MMIX, "Loading and
-- storing"; TAOCP 1, Fascicle 1, section 1.3.1').
use Rattle.std.specs.Prelude.{ℕ, ◌+◌, ◌-◌, ◌*◌, ◌/◌, ◌^◌, ◌||◌, nat_le, nat_lt, Bool, if◌then◌else◌, Option, None, Some}
use Rattle.mx_alu.specs.declared.answer.Event.{Event}
use Rattle.mx_alu.specs.declared.answer.Event.TheVariants.{Overflow}
use Rattle.mx_mem.specs.Parts.{size_of, part_of}
use Rattle.mx_mem.specs.declared.part.Part.{Part}
use Rattle.mx_mem.specs.declared.part.Part.TheVariants.{Tetra, Octa}
use Rattle.mx_code.specs.declared.operation.Loading.{Loading}
use Rattle.mx_code.specs.declared.operation.Loading.TheVariants as loading
use Rattle.mx_code.specs.declared.operation.Storing.{Storing}
use Rattle.mx_code.specs.declared.operation.Storing.TheVariants as storing
use Rattle.mx_code.specs.declared.trace.Touch.{Touch}

-- the touch of the part that holds an address: its own address and size
abbrev pub touch : ℕ → Part → Touch
touch a part = record { at = a / size_of part * size_of part; size = size_of part }

-- a part as a signed number, in an octa
abbrev pub sign_extended : Part → ℕ → ℕ
sign_extended part v = if nat_lt v (2 ^ (8 * size_of part - 1)) then v else v + (2 ^ 64 - 2 ^ (8 * size_of part))

-- the part that is loaded, and the value that it gives
abbrev pub loaded_part : Loading → Part
loaded_part (loading.Signed part) = part
loaded_part (loading.Unsigned part) = part
loaded_part loading.HighTetra = Tetra

abbrev pub loaded_value : Loading → ℕ → ℕ → ℕ
loaded_value (loading.Signed part) x a = sign_extended part (part_of part x a)
loaded_value (loading.Unsigned part) x a = part_of part x a
loaded_value loading.HighTetra x a = part_of Tetra x a * 2 ^ 32

-- the part that is stored, of $X or the byte X
abbrev pub stored_part : Storing → Part
stored_part (storing.Signed part) = part
stored_part (storing.Unsigned part) = part
stored_part storing.HighTetra = Tetra
stored_part storing.Constant = Octa

abbrev pub stored_value : Storing → ℕ → ℕ → ℕ
stored_value (storing.Signed part) x byte = x
stored_value (storing.Unsigned part) x byte = x
stored_value storing.HighTetra x byte = x / 2 ^ 32
stored_value storing.Constant x byte = byte

-- a value whose sign is lost in its part overflows
abbrev pub fits_signed : Part → ℕ → Bool
fits_signed part x = nat_lt x (2 ^ (8 * size_of part - 1)) || nat_le (2 ^ 64 - 2 ^ (8 * size_of part - 1)) x

abbrev pub stored_event : Storing → ℕ → Option Event
stored_event (storing.Signed part) x = if fits_signed part x then None else Some Overflow
stored_event (storing.Unsigned part) x = None
stored_event storing.HighTetra x = None
stored_event storing.Constant x = None
