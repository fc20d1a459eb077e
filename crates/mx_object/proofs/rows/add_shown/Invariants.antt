use Rattle.std.proofs.Common.{◌≡◌, ◌++◌, map, take}
use Rattle.mx_type.specs.Lines.{name_byte}
use Rattle.mx_object.proofs.rows.add_shown.Given as goal

abbrev pub invariant-loop-b : goal.invariant-loop-b
invariant-loop-b l = l.text ≡ l.fn.text ++ map name_byte (take l.b-index l.name)
