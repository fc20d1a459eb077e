use Rattle.std.proofs.Common.{◌≡◌, take}
use Rattle.std.specs.List.{flat_map}
use Rattle.mx_slips.specs.Surveys.{uses_in}
use Rattle.mx_slips.proofs.surveys.collect_uses.Given as goal

abbrev pub invariant-loop-line : goal.invariant-loop-line
invariant-loop-line l = l.uses ≡ flat_map uses_in (take l.line-index l.lines)
