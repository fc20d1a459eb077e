use Rattle.std.proofs.Common.{◌≡◌, ◌++◌, take}
use Rattle.std.specs.List.{flat_map}
use Rattle.mx_watch.specs.Writings.{write_line}
use Rattle.mx_watch.proofs.writes.add_lines.Given as goal

abbrev pub invariant-loop-write : goal.invariant-loop-write
invariant-loop-write l = l.text ≡ l.fn.text ++ flat_map write_line (take l.write-index l.writes)
