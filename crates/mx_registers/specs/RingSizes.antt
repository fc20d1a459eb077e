-- How many registers a ring may have.
-- A rule of this program.
use Rattle.std.specs.Prelude.{ℕ, Bool, ◌&&◌, nat_le, Option, Some, None, if◌then◌else◌}
use Rattle.std.specs.Int.{is_power_of_two}

-- a power of two from 256 to 65,536
abbrev pub is_ring_size : ℕ → Bool
is_ring_size n = nat_le 256 n && nat_le n 65536 && is_power_of_two n

-- the number itself where it is a size
abbrev pub ring_size_of : ℕ → Option ℕ
ring_size_of n = if is_ring_size n then Some n else None
