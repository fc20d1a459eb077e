use Rattle.std.proofs.Common.{◌≡◌, ◌++◌, take}
use Rattle.std.specs.List.{flat_map}
use Rattle.mx_hover.specs.Loads.{line_loads}
use Rattle.mx_hover.proofs.cells.add_loads.Given as goal

abbrev pub invariant-loop-line : goal.invariant-loop-line
invariant-loop-line l = l.text ≡ l.fn.text ++ flat_map (line_loads l.is_code l.number) (take l.line-index l.lines)
