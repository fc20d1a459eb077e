use Rattle.std.proofs.Common.{◌≡◌, ◌-◌, ◌^◌, length}
use Rattle.mx_registers.specs.StackArea.{AreKept, filled}
use Rattle.mx_registers.proofs.area.fill_up.Given as goal

abbrev pub decreases-loop-octas : goal.decreases-loop-octas
decreases-loop-octas l = l.n - length l.octas.items

abbrev pub invariant-loop-octas : goal.invariant-loop-octas
invariant-loop-octas l = (filled (2 ^ 20) l.octas.items ≡ filled (2 ^ 20) l.fn.octas.items) × AreKept l.octas
