use Rattle.std.proofs.Common.{◌≡◌, ◌<◌, ◌≤◌, ◌-◌, length}
use Rattle.mx_multi.specs.Seats.{seated}
use Rattle.mx_multi.specs.Stretches.{Along}
use Rattle.mx_multi.proofs.rows.walk_rows.Given as goal

abbrev pub invariant-loop-left : goal.invariant-loop-left
invariant-loop-left l = record {
  few : l.left ≤ l.n;
  inside : l.place < length l.names;
  turns : Along l.names (l.n - l.left) l.at l.place (seated l.fn.seats) (seated l.seats);
  halted : l.seats.halted ≡ l.fn.seats.halted;
  count : length l.seats.machines ≡ length l.fn.seats.machines;
}

abbrev pub decreases-loop-left : goal.decreases-loop-left
decreases-loop-left l = l.left
