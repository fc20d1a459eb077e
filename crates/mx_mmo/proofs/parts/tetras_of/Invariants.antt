use Rattle.std.proofs.Common.{◌≡◌, ◌++◌, length}
use Rattle.mx_mmo.specs.Reading as spec
use Rattle.mx_mmo.proofs.parts.tetras_of.Given as goal

-- the tetras so far, and those of the bytes that are left, are those of all bytes
abbrev pub invariant-loop-rest : goal.invariant-loop-rest
invariant-loop-rest l = l.tetras ++ spec.tetras_of l.rest ≡ spec.tetras_of l.bytes

abbrev pub decreases-loop-rest : goal.decreases-loop-rest
decreases-loop-rest l = length l.rest
