use Rattle.std.proofs.Common.{◌≡◌, drop}
use Rattle.mx_asm.proofs.Words.{onto, fixes, AreFit}
use Rattle.mx_asm.proofs.fixes.with_fixes.Given as goal

abbrev pub invariant-loop-wait : goal.invariant-loop-wait
invariant-loop-wait l =
    (onto l.items (fixes l.line l.value (drop l.wait-index l.waits)) ≡ onto l.fn.items (fixes l.line l.value l.waits))
    × (AreFit l.fn.items → AreFit l.items)
