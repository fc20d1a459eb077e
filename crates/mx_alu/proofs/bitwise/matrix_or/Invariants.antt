use Rattle.std.proofs.Common.{◌≡◌, bit_or}
use Rattle.mx_alu.proofs.Places.{matrix_of}
use Rattle.mx_alu.proofs.bitwise.matrix_or.Given as goal

-- the bytes of y so far, where they are chosen
abbrev pub invariant-loop-k : goal.invariant-loop-k
invariant-loop-k l = l.x ≡ matrix_of bit_or l.k l.y l.z
