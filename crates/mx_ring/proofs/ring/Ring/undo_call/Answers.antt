use Rattle.std.proofs.Common.{refl}
use Rattle.mx_ring.specs.Notes.{ring_undone}
use Rattle.mx_ring.proofs.ring.Ring.undo_call.Goals as goal

pub returns : goal.returns
unfolding ring_undone
returns c = rw (← c.self.view_is, c.give_registers.ensures, c.give_hidden.ensures) refl

pub invariant_of-self : goal.invariant_of-self
unfolding ring_undone
invariant_of-self c = rw (c.give_registers.ensures, c.give_hidden.ensures) (rw (← c.self.view_is) at c.requires.ring)
