use Rattle.std.proofs.Common.{◌≡◌, ◌++◌, length, map}
use Rattle.mx_asm.proofs.Words.{tetras_of, Load, AreFit}
use Rattle.mx_asm.proofs.head.load_all.Given as goal

-- the items so far, and the tetras of the bytes that are left, are all
abbrev pub invariant-loop-rest : goal.invariant-loop-rest
invariant-loop-rest l =
    (l.items ++ map Load (tetras_of l.rest) ≡ l.fn.items ++ map Load (tetras_of l.bytes))
    × (AreFit l.fn.items → AreFit l.items)

abbrev pub decreases-loop-rest : goal.decreases-loop-rest
decreases-loop-rest l = length l.rest
