use Rattle.std.proofs.Common.{◌≡◌, ◌++◌}
use Rattle.mx_asm.specs.Fitting.{AreFit, GrowsFit}
use Rattle.mx_asm.proofs.lines.append.Given as goal

abbrev pub invariant-loop-item : goal.invariant-loop-item
invariant-loop-item l =
    (l.out ++ l.item-iterator.rest.items ≡ l.fn.out ++ l.fn.items)
    × (AreFit l.fn.items → GrowsFit l.fn.out l.out × AreFit l.item-iterator.rest.items)
