use Rattle.std.proofs.Common.{◌≡◌, ◌++◌, take}
use Rattle.std.specs.List.{flat_map}
use Rattle.mx_face.specs.Visible.{visible}
use Rattle.mx_face.proofs.visible.add_all_visible.Given as goal

abbrev pub invariant-loop-b : goal.invariant-loop-b
invariant-loop-b l = l.text ≡ l.fn.text ++ flat_map visible (take l.b-index l.bytes)
