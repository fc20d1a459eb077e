use Rattle.std.proofs.Common.{◌≡◌, ◌-◌}
use Rattle.mx_alu.specs.Numbers.{field, fields}
use Rattle.mx_alu.proofs.bitwise.differences.Given as goal

-- the differences so far
abbrev pub invariant-loop-i : goal.invariant-loop-i
invariant-loop-i l = l.x ≡ fields l.width l.i (λ i. field l.width l.y i - field l.width l.z i)
