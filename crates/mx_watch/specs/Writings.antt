-- What was written to a part of memory.
use Rattle.std.specs.Prelude.{ℕ, ◌&&◌, nat_le, nat_lt, if◌then◌else◌, List, [], ◌∷◌, ◌++◌, codes, decimal, length, Option, None, Some}
use Rattle.std.specs.List.{flat_map}
use Rattle.mx_code.specs.declared.trace.Touch.{Touch}
use Rattle.mx_code.specs.declared.trace.Trace.{Trace}
use Rattle.mx_text.specs.Numbers.{hex_text}
use Rattle.mx_watch.specs.Watching.{Watching}
use Rattle.mx_watch.specs.declared.writes.Write.{Write}

-- a write of a step from an address, if it is to an address from `from` on and below `to`
abbrev pub write_of : ℕ → ℕ → ℕ → Option Touch → List Write
write_of from to pc None = []
write_of from to pc (Some touch) =
    if nat_le from touch.at && nat_lt touch.at to then record { pc = pc; at = touch.at; size = touch.size } ∷ [] else []

-- the writes of these steps after those that were there
unfoldable pub writes_after : ℕ → ℕ → List Write → List Trace → List Write
writes_after from to writes [] = writes
writes_after from to writes (t ∷ ts) = writes_after from to (writes ++ write_of from to t.pc t.writes) ts

-- a line for each: the address of the instruction, that of the write, and its size in bytes
abbrev pub write_line : Write → List ℕ
write_line w = codes "write " ++ hex_text w.pc ++ codes " " ++ hex_text w.at ++ codes " " ++ decimal w.size ++ codes "\n"

abbrev pub write_lines : List Write → List ℕ
write_lines writes = flat_map write_line writes

-- full after this many
abbrev pub noting : ℕ → ℕ → ℕ → List Write → Watching
noting from to cap writes = record {
  text = λ h. write_lines (writes_after from to writes h);
  full = λ h. nat_le cap (length (writes_after from to writes h));
}
