use Rattle.std.proofs.Common.{◌≡◌, ◌≤◌, ◌-◌, ◌+◌, length}
use Rattle.mx_line.specs.Cutting.{cuts_from}
use Rattle.mx_marks.specs.Fields.{after_cuts}
use Rattle.mx_marks.proofs.fields.find_end_of_cuts.Given as goal

abbrev pub invariant-loop-cut : goal.invariant-loop-cut
invariant-loop-cut l = record {
  within : l.place ≤ length l.line;
  left : after_cuts 0 (cuts_from l.line 0) ≡ after_cuts l.place (cuts_from l.line l.place);
}

abbrev pub decreases-loop-cut : goal.decreases-loop-cut
decreases-loop-cut l = length l.line + 1 - l.place
