use Rattle.mx_stab.proofs.Steps.{right-went}
use Rattle.mx_stab.proofs.reading.Reader.take.Goals as goal

pub returns-in_ok-note_subtrie-in-Right-clause-same : goal.returns-in_ok-note_subtrie-in-Right-clause-same
returns-in_ok-note_subtrie-in-Right-clause-same c = λ _.
    right-went c.args.due.now.items c.note_subtrie.new.due.items c.args.self.now c.shorten.new.self c.args.next c.in-Right.depth c.in-Right.m _ c.in-Right.is c.shorten.ensures c.has.ensures
    c.in_ok-note_subtrie-in-Right.ensures.items
