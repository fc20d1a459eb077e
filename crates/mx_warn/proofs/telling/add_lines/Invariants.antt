use Rattle.std.proofs.Common.{◌≡◌, ◌++◌, length}
use Rattle.mx_warn.specs.Warnings.{all_warnings, lines_warnings}
use Rattle.mx_warn.proofs.telling.add_lines.Given as goal

abbrev pub invariant-loop-rest : goal.invariant-loop-rest
invariant-loop-rest l = l.fn.told ++ all_warnings l.survey ≡ l.told ++ lines_warnings l.survey l.place l.rest

abbrev pub decreases-loop-rest : goal.decreases-loop-rest
decreases-loop-rest l = length l.rest
