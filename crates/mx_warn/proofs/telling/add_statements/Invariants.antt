use Rattle.std.proofs.Common.{◌≡◌, ◌++◌, length}
use Rattle.mx_warn.specs.Warnings.{place_through, statements_warnings}
use Rattle.mx_warn.proofs.telling.add_statements.Given as goal

abbrev pub invariant-loop-rest : goal.invariant-loop-rest
invariant-loop-rest l = record {
  told : l.fn.told ++ statements_warnings l.survey l.line l.fn.place l.line.statements
      ≡ l.told ++ statements_warnings l.survey l.line l.current l.rest;
  place : place_through l.survey l.line.number l.fn.place l.line.statements
      ≡ place_through l.survey l.line.number l.current l.rest;
}

abbrev pub decreases-loop-rest : goal.decreases-loop-rest
decreases-loop-rest l = length l.rest
