use Rattle.std.proofs.Common.{◌≡◌, take}
use Rattle.mx_frames.specs.Heads.{value_of}
use Rattle.mx_frames.proofs.heads.value_of.Given as goal

abbrev pub invariant-loop-b : goal.invariant-loop-b
invariant-loop-b l = l.value ≡ value_of (take l.b-index l.digits)
