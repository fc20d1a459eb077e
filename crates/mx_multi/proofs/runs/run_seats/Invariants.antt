use Rattle.std.proofs.Common.{◌≡◌, length}
use Rattle.mx_multi.specs.Seats.{seated}
use Rattle.mx_multi.proofs.Underway.{Queued}
use Rattle.mx_multi.proofs.runs.run_seats.Given as goal

abbrev pub invariant-loop-left : goal.invariant-loop-left
invariant-loop-left g l = record {
  queue : Queued l.schedule l.n (g.H.Host.told l.fn.host, g.H.Host.faults l.fn.host, seated l.fn.seats) l.left l.queue.names.items l.queue.at
      (g.H.Host.told l.host, g.H.Host.faults l.host, seated l.seats);
  count : length l.seats.machines ≡ length l.fn.seats.machines;
}

abbrev pub decreases-loop-left : goal.decreases-loop-left
decreases-loop-left g l = l.left
