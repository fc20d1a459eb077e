use Rattle.mx_ring.proofs.CallsBack.{pop-low, pop-stays}
use Rattle.mx_ring.proofs.ring.Ring.note_pop.Goals as goal

pub note_if_few-requires : goal.note_if_few-requires
note_if_few-requires c = pop-low c.args.self.now _ c.count_staying_at_pop-stays.ensures.bounds c.count_staying_at_pop-stays.ensures.count

pub returns-clause-note : goal.returns-clause-note
returns-clause-note c = λ x. pop-stays c.args.self.now x _ _ c.count_staying_at_pop-stays.ensures.count c.note_if_few.ensures.note
