use Rattle.std.proofs.Common.{◌≡◌, ◌++◌, length}
use Rattle.mx_occurrences.specs.Occurrences.{course_through, in_statements}
use Rattle.mx_occurrences.proofs.gathering.add_statements.Given as goal

-- the statements that are left are left to gather
abbrev pub invariant-loop-rest : goal.invariant-loop-rest
invariant-loop-rest l = record {
  names : l.out ++ in_statements l.course l.line l.rest ≡ l.fn.out ++ in_statements l.fn.before l.line l.statements;
  course : course_through l.course l.rest ≡ course_through l.fn.before l.statements;
}

abbrev pub decreases-loop-rest : goal.decreases-loop-rest
decreases-loop-rest l = length l.rest
