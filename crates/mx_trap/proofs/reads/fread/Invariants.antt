use Rattle.std.proofs.Common.{IsTrue, ◌≡◌, ◌≤◌, ◌-◌, length}
use Rattle.mx_host.specs.HostModel.{tells, contents}
use Rattle.mx_plan.specs.Calls.{both}
use Rattle.mx_plan.specs.Clauses.{KeepsHost}
use Rattle.mx_plan.specs.Plan.{IsRest}
use Rattle.mx_trap.specs.Moves.{fread}
use Rattle.mx_trap.proofs.Readings.{left}
use Rattle.mx_trap.proofs.reads.fread.Given as goal

abbrev pub invariant-loop-moved : goal.invariant-loop-moved
invariant-loop-moved g l = record {
  told : IsTrue (tells (g.H.Host.told l.fn.host)) →
      IsRest both (left l.slot l.at l.size l.moved) (g.M.Space.contents l.memory, contents (g.H.Host.told l.host))
      (fread l.slot l.at l.size) (g.M.Space.contents l.fn.memory, contents (g.H.Host.told l.fn.host));
  inside : l.moved ≤ l.size;
  buffer : length l.buffer ≡ 4096;
  rest : (g.M.Space.contents l.memory).rest ≡ (g.M.Space.contents l.fn.memory).rest;
  keeps : KeepsHost (g.H.Host.told l.fn.host) (g.H.Host.told l.host) (g.H.Host.faults l.fn.host) (g.H.Host.faults l.host);
}

abbrev pub decreases-loop-moved : goal.decreases-loop-moved
decreases-loop-moved g l = l.size - l.moved
