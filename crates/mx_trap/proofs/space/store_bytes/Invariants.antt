use Rattle.std.proofs.Common.{◌≡◌}
use Rattle.mx_plan.specs.Plan.{IsRest}
use Rattle.mx_plan.specs.Calls.{space}
use Rattle.mx_trap.specs.Moves.{bytes_stored}
use Rattle.mx_trap.proofs.Storing.{left}
use Rattle.mx_trap.proofs.space.store_bytes.Given as goal

abbrev pub invariant-loop-place : goal.invariant-loop-place
invariant-loop-place g l = record {
  told : IsRest space (left l.bytes l.at l.place) (g.M.Space.contents l.memory) (bytes_stored l.bytes l.at) (g.M.Space.contents l.fn.memory);
  rest : (g.M.Space.contents l.memory).rest ≡ (g.M.Space.contents l.fn.memory).rest;
}
