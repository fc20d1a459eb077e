-- Places on the wire. (Language Server Protocol, "Position".)
use Rattle.std.specs.Prelude.{ℕ, ◌+◌, nat_lt, if◌then◌else◌}

-- the number of a line that is counted from 0 on the wire
abbrev pub number_of : ℕ → ℕ
number_of line = if nat_lt line 0xffff_ffff then line + 1 else 0xffff_ffff
