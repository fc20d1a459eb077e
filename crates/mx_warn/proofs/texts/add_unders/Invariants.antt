use Rattle.std.proofs.Common.{◌≡◌, ◌++◌, take}
use Rattle.std.specs.List.{flat_map}
use Rattle.mx_warn.specs.Texts.{under}
use Rattle.mx_warn.proofs.texts.add_unders.Given as goal

abbrev pub invariant-loop-b : goal.invariant-loop-b
invariant-loop-b l = l.text ≡ l.fn.text ++ flat_map under (take l.b-index l.front)
