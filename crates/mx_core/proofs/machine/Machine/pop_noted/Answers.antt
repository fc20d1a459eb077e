use Rattle.mx_code.specs.Instructions.{x_of}
use Rattle.mx_core.proofs.machine.Machine.pop_noted.Goals as goal

pub pop_with-requires : goal.pop_with-requires
pop_with-requires c = rw (← c.self.view_is) (c.in-Some.ensures.note (x_of c.args.i.now))
