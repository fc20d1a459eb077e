use Rattle.std.proofs.Common.{◌≡◌, ◌<◌, ◌≤◌, ◌-◌, get_or, length}
use Rattle.mx_multi.specs.Stretches.{IsRow, place_after}
use Rattle.mx_multi.proofs.rows.count_row.Given as goal

abbrev pub invariant-loop-length : goal.invariant-loop-length
invariant-loop-length l = record {
  row : IsRow l.names l.at l.length (get_or l.names l.at 0);
  next : l.next ≡ place_after (length l.names) l.at l.length;
  inside : l.next < length l.names;
  few : l.length ≤ l.most;
  some : 1 ≤ l.length;
}

abbrev pub decreases-loop-length : goal.decreases-loop-length
decreases-loop-length l = l.most - l.length
