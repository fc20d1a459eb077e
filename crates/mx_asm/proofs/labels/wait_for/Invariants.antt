use Rattle.std.proofs.Common.{◌≡◌}
use Rattle.mx_asm.proofs.Words.{AreNames, with_waits}
use Rattle.mx_asm.proofs.labels.wait_for.Given as goal

abbrev pub invariant-loop-wait : goal.invariant-loop-wait
invariant-loop-wait l =
    (with_waits l.names l.wait-iterator.rest.items ≡ with_waits l.fn.names l.fn.waits)
    × (AreNames l.fn.names.names → AreNames l.names.names)
    × (l.names.names.symbols ≡ l.fn.names.names.symbols)
