use Rattle.std.proofs.Common.{◌≡◌, ◌≤◌, ◌+◌, length}
use Rattle.mx_frames.specs.Columns.{total}
use Rattle.mx_frames.proofs.columns.total.Given as goal

abbrev pub invariant-loop-rest : goal.invariant-loop-rest
invariant-loop-rest l = record {
  value : total l.text ≡ l.count + total l.rest;
  few : l.count + (length l.rest + length l.rest) ≤ length l.text + length l.text;
}

abbrev pub decreases-loop-rest : goal.decreases-loop-rest
decreases-loop-rest l = length l.rest
