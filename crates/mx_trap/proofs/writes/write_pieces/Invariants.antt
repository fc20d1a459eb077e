use Rattle.std.proofs.Common.{IsTrue, ◌≡◌, ◌≤◌, ◌-◌, length}
use Rattle.mx_host.specs.HostModel.{tells, contents}
use Rattle.mx_plan.specs.Calls.{host}
use Rattle.mx_plan.specs.Clauses.{KeepsHost}
use Rattle.mx_plan.specs.Plan.{IsRest}
use Rattle.mx_trap.specs.Requests.{bytes_from}
use Rattle.mx_trap.specs.Moves.{written}
use Rattle.mx_trap.proofs.Pieces.{left}
use Rattle.mx_trap.proofs.writes.write_pieces.Given as goal

abbrev pub invariant-loop-moved : goal.invariant-loop-moved
invariant-loop-moved g l = record {
  told : IsTrue (tells (g.H.Host.told l.fn.host)) →
      IsRest host (left l.slot (g.M.Space.contents l.memory).bytes l.at l.size l.moved) (contents (g.H.Host.told l.host))
      (written l.slot (bytes_from (g.M.Space.contents l.memory).bytes l.at l.size)) (contents (g.H.Host.told l.fn.host));
  inside : l.moved ≤ l.size;
  buffer : length l.buffer ≡ 4096;
  keeps : KeepsHost (g.H.Host.told l.fn.host) (g.H.Host.told l.host) (g.H.Host.faults l.fn.host) (g.H.Host.faults l.host);
}

abbrev pub decreases-loop-moved : goal.decreases-loop-moved
decreases-loop-moved g l = l.size - l.moved
