use Rattle.std.proofs.Common.{◌≡◌, ◌++◌, length}
use Rattle.mx_occurrences.specs.Occurrences.{in_lines}
use Rattle.mx_occurrences.proofs.gathering.add_lines.Given as goal

-- the lines that are left are left to gather
abbrev pub invariant-loop-rest : goal.invariant-loop-rest
invariant-loop-rest l = l.out ++ in_lines l.course l.rest ≡ l.fn.out ++ in_lines l.fn.before l.lines

abbrev pub decreases-loop-rest : goal.decreases-loop-rest
decreases-loop-rest l = length l.rest
