use Rattle.std.proofs.Common.{◌≡◌, take}
use Rattle.mx_view.specs.Refusals.{told_lines}
use Rattle.mx_view.proofs.checking.faults_of_lines.Given as goal

abbrev pub invariant-loop-refused : goal.invariant-loop-refused
invariant-loop-refused l = l.faults ≡ told_lines l.source (take l.refused-index l.lines)
