use Rattle.mx_registers.proofs.Returned.{first-placed, alone-placed}
use Rattle.mx_registers.proofs.results.put_first.Goals as goal

pub returns-clause-placed : goal.returns-clause-placed
returns-clause-placed c =
    first-placed c.args.front.now c.copy_within.new.items c.args.main c.args.count c.args.hole c.min-others.result c.requires.among c.requires.inside c.min-others.ensures c.copy_within.ensures

pub returns-then-count-eq0-clause-placed : goal.returns-then-count-eq0-clause-placed
returns-then-count-eq0-clause-placed c = alone-placed c.args.front.now c.args.main c.args.count c.args.hole c.requires.inside c.if-count-eq0.true
