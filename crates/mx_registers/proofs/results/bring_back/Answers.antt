use Rattle.std.proofs.Common.{◌+◌, length, take, arith}
use Rattle.mx_registers.proofs.Returned.{returned-above, returned-below}
use Rattle.mx_registers.specs.Registers.{results}
use Rattle.mx_registers.proofs.results.bring_back.Goals as goal

pub returns-then-top-l-clause-front : goal.returns-then-top-l-clause-front
returns-then-top-l-clause-front c =
    let rs = results (take c.args.l c.args.front.now) c.args.x in
    returned-below c.args.front.now c.put_results.new.front c.copy_to-2.new.items c.fill_with_zeros.new.items c.args.octas.now rs c.args.l (length c.args.octas.now + c.put_results.result) c.requires.locals c.if-octas-room.false c.requires.zeros c.put_results.ensures.placed c.copy_to-2.ensures (omega arith) c.if-top-l.true c.fill_with_zeros.ensures

pub returns-else-top-l-clause-front : goal.returns-else-top-l-clause-front
returns-else-top-l-clause-front c =
    let rs = results (take c.args.l c.args.front.now) c.args.x in
    returned-above c.args.front.now c.put_results.new.front c.copy_to-2.new.items c.args.octas.now rs c.args.l (length c.args.octas.now + c.put_results.result) c.requires.locals c.if-octas-room.false c.requires.zeros c.put_results.ensures.placed c.copy_to-2.ensures (omega arith) c.if-top-l.false
