use Rattle.std.proofs.Common.{◌≡◌, ◌++◌, take}
use Rattle.mx_type.proofs.Words.{flat_map, next_octa}
use Rattle.mx_type.proofs.fields.add_octas.Given as goal

abbrev pub invariant-loop-x : goal.invariant-loop-x
invariant-loop-x l = l.text ≡ l.fn.text ++ flat_map next_octa (take l.x-index l.values)
