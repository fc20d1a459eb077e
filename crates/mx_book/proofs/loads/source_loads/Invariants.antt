use Rattle.std.proofs.Common.{◌≡◌, take}
use Rattle.std.specs.List.{flat_map}
use Rattle.mx_book.specs.Loads.{line_loads}
use Rattle.mx_book.proofs.loads.source_loads.Given as goal

abbrev pub invariant-loop-line : goal.invariant-loop-line
invariant-loop-line l = l.loads ≡ flat_map line_loads (take l.line-index l.lines)
