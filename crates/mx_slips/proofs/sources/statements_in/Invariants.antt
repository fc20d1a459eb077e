use Rattle.std.proofs.Common.{◌≡◌, ◌≤◌, ◌-◌, ◌+◌, ◌++◌, length}
use Rattle.mx_line.specs.Cutting.{cuts_from}
use Rattle.mx_slips.specs.Sources.{statements_in}
use Rattle.mx_slips.proofs.sources.statements_in.Given as goal

abbrev pub invariant-statements : goal.invariant-statements
invariant-statements l = record {
  within : l.place ≤ length l.line;
  left : statements_in l.line (cuts_from l.line 0) ≡ l.statements ++ statements_in l.line (cuts_from l.line l.place);
}

abbrev pub decreases-statements : goal.decreases-statements
decreases-statements l = length l.line + 1 - l.place
