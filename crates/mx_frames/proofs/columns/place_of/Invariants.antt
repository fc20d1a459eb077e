use Rattle.std.proofs.Common.{◌≡◌, ◌+◌, length}
use Rattle.mx_frames.specs.Columns.{place_of}
use Rattle.mx_frames.proofs.columns.place_of.Given as goal

abbrev pub invariant-loop-rest : goal.invariant-loop-rest
invariant-loop-rest l = record {
  place : place_of l.line l.column ≡ l.place + place_of l.rest l.left;
  within : l.place + length l.rest ≡ length l.line;
}

abbrev pub decreases-loop-rest : goal.decreases-loop-rest
decreases-loop-rest l = length l.rest
