use Rattle.std.proofs.Common.{◌+◌, length, ap, ◌∙◌}
use Rattle.mx_ring.specs.Window.{Window}
use Rattle.mx_ring.proofs.CallsBack.{push-stays, push-unspilled}
use Rattle.mx_ring.proofs.ring.Ring.note_few.Goals as goal

pub returns-clause-note : goal.returns-clause-note
returns-clause-note c =
    c.note_with.ensures.note
    ∙ push-stays c.args.self.now c.args.x c.len.result c.spilled_count.result (c.len.ensures.parts ∙ ap (λ (w : Window). w.hidden.spilled + length w.hidden.resident) c.self.view_is) (c.spilled_count.ensures ∙ ap (λ (w : Window). w.hidden.spilled) c.self.view_is)

pub returns-clause-unspilled : goal.returns-clause-unspilled
returns-clause-unspilled c = push-unspilled c.args.self.now c.args.x c.note_with.ensures.bounds c.requires.few c.requires.locals c.requires.ring
