use Rattle.mx_core.proofs.Undone.Usual.{resident-few}
use Rattle.mx_core.proofs.machine.Machine.may_spill.Goals as goal

pub returns : goal.returns
returns c = rw (← c.self.view_is) (λ f. resident-few c.self.inside.ring c.hidden.result c.spilled.result c.from.result c.args.k c.hidden.ensures.bounds c.hidden.ensures.value c.spilled.ensures.value c.from.ensures f)
