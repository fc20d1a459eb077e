-- The descriptors of the system that files have. Those of the standard streams are 0, 1 and 2.
-- A rule of this program.
use Rattle.std.specs.Prelude.{ℤ, pos, Bool, int_lt}

-- whether a descriptor, which is at least 0, is one of the standard streams'
abbrev pub is_standard : ℤ → Bool
is_standard descriptor = int_lt descriptor (pos 3)
