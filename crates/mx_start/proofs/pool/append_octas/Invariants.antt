use Rattle.std.proofs.Common.{◌≡◌, ◌++◌, length}
use Rattle.mx_mmo.specs.Reading.{octas_of}
use Rattle.mx_start.proofs.pool.append_octas.Given as goal

-- the octas so far, and those of the bytes that are left, are the old ones and those of all bytes
abbrev pub invariant-loop-rest : goal.invariant-loop-rest
invariant-loop-rest l = l.octas ++ octas_of l.rest ≡ l.fn.octas ++ octas_of l.bytes

abbrev pub decreases-loop-rest : goal.decreases-loop-rest
decreases-loop-rest l = length l.rest
