use Rattle.std.proofs.Common.{◌≡◌, length}
use Rattle.mx_mmo.specs.Reading as spec
use Rattle.mx_mmo.proofs.parts.trim_zeros.Given as goal

-- only zeros were taken off
abbrev pub invariant-loop-name : goal.invariant-loop-name
invariant-loop-name l = spec.trimmed l.name ≡ spec.trimmed l.bytes

abbrev pub decreases-loop-name : goal.decreases-loop-name
decreases-loop-name l = length l.name
