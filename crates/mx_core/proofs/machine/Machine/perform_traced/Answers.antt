use Rattle.mx_core.specs.Kept.{state_of}
use Rattle.mx_core.proofs.Traced.{went-traced}
use Rattle.mx_core.proofs.machine.Machine.perform_traced.Goals as goal

pub returns-clause-made : goal.returns-clause-made
returns-clause-made c = λ _.
    went-traced (state_of c.args.self.now) (state_of c.perform_usual.new.self) c.args.at c.args.word c.write_sight.new.trace c.pc-trace.result c.requires.fetched c.requires.low (c.write_sight.ensures c.if-not-write_sight.false) (c.perform_usual.ensures.made c.if-not-perform_usual.false) c.pc-trace.ensures.value
