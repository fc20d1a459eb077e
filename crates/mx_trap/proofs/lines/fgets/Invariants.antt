use Rattle.std.proofs.Common.{IsTrue, ◌≡◌}
use Rattle.mx_host.specs.HostModel.{tells, contents}
use Rattle.mx_plan.specs.Calls.{both}
use Rattle.mx_plan.specs.Clauses.{KeepsHost}
use Rattle.mx_plan.specs.Plan.{IsRest}
use Rattle.mx_trap.specs.Moves.{fgets}
use Rattle.mx_trap.proofs.LineBytes.{left}
use Rattle.mx_trap.proofs.lines.fgets.Given as goal

abbrev pub invariant-loop-count : goal.invariant-loop-count
invariant-loop-count g l = record {
  told : IsTrue (tells (g.H.Host.told l.fn.host)) →
      IsRest both (left l.slot l.at l.size l.count) (g.M.Space.contents l.memory, contents (g.H.Host.told l.host))
      (fgets l.slot l.at l.size) (g.M.Space.contents l.fn.memory, contents (g.H.Host.told l.fn.host));
  rest : (g.M.Space.contents l.memory).rest ≡ (g.M.Space.contents l.fn.memory).rest;
  keeps : KeepsHost (g.H.Host.told l.fn.host) (g.H.Host.told l.host) (g.H.Host.faults l.fn.host) (g.H.Host.faults l.host);
}
