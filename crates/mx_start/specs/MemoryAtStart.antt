-- Memory at the start, octa by octa.
use Rattle.std.specs.Prelude.{ℕ, ◌+◌, ◌-◌, ◌*◌, ◌/◌, ◌&&◌, nat_le, nat_lt, List, length, get_or, if◌then◌else◌}

-- what is at an address where these octas are one after the other from an address on, and other octas elsewhere
abbrev pub octa_among : (ℕ → ℕ) → ℕ → List ℕ → ℕ → ℕ
octa_among others a xs q = if nat_le a q && nat_lt q (a + 8 * length xs) then get_or xs ((q - a) / 8) 0 else others q
