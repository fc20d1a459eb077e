use Rattle.std.proofs.Common.{Some, None, subst}
use Rattle.mx_ring.specs.Stack.{windowed, stack_octa}
use Rattle.mx_core.specs.Way.Parts.{kept}
use Rattle.mx_core.specs.Way.Search.{IsNextIndex}
use Rattle.mx_core.proofs.Spaces.Searches.{area-some, area-none}
use Rattle.mx_core.proofs.machine.Machine.next_in_area.Goals as goal

pub returns-in-Some : goal.returns-in-Some
returns-in-Some c =
    rw (← c.self.view_is)
    (area-some (kept c.self.inside) c.args.from c.in-Some.i c.in-Some.x
    (subst (λ n. IsNextIndex (stack_octa (windowed c.self.inside.ring)) n (Some (c.in-Some.i, c.in-Some.x))) c.first_index.ensures c.in-Some.ensures))

pub returns-in-None : goal.returns-in-None
returns-in-None c =
    rw (← c.self.view_is)
    (area-none (kept c.self.inside) c.args.from (subst (λ n. IsNextIndex (stack_octa (windowed c.self.inside.ring)) n None) c.first_index.ensures c.in-None.ensures))
