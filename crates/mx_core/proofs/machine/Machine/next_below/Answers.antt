use Rattle.mx_core.specs.Way.Parts.{kept}
use Rattle.mx_core.proofs.Spaces.Searches.{below-some, below-past, below-none}
use Rattle.mx_core.proofs.machine.Machine.next_below.Goals as goal

pub returns-then-a-lt-STACK_SEGMENT : goal.returns-then-a-lt-STACK_SEGMENT
returns-then-a-lt-STACK_SEGMENT c = rw (← c.self.view_is) (below-some (kept c.self.inside) c.args.from c.in-Some.a c.in-Some.x c.in-Some.ensures c.if-a-lt-STACK_SEGMENT.true)

pub returns-else-a-lt-STACK_SEGMENT : goal.returns-else-a-lt-STACK_SEGMENT
returns-else-a-lt-STACK_SEGMENT c = rw (← c.self.view_is) (below-past (kept c.self.inside) c.args.from c.in-Some.a c.in-Some.x c.in-Some.ensures c.if-a-lt-STACK_SEGMENT.false)

pub returns-in-None : goal.returns-in-None
returns-in-None c = rw (← c.self.view_is) (below-none (kept c.self.inside) c.args.from c.in-None.ensures)
