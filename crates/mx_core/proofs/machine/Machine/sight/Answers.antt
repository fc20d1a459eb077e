use Rattle.mx_code.specs.Instructions.{operation_in}
use Rattle.mx_core.specs.Kept.{state_of}
use Rattle.mx_core.proofs.Results.Foretold.{foretold, ring_bounds}
use Rattle.mx_core.proofs.machine.Machine.sight.Goals as goal

pub returns : goal.returns
returns c =
    foretold (operation_in c.args.i.now) (state_of c.args.self.now) c.args.i.now c.sight_by_operation.result (ring_bounds c.args.self.now c.know_ring.ensures)
    c.sight_by_operation.ensures.value c.sight_by_operation.ensures.apart c.sight_by_operation.ensures.exchange
