use Rattle.mx_core.proofs.Undone.Notes.{went-on}
use Rattle.mx_core.proofs.machine.Machine.follow_noted.Goals as goal

pub returns-in-Went-clause-back : goal.returns-in-Went-clause-back
returns-in-Went-clause-back c =
    went-on c.in-Some.note c.args.self.now c.note.new.self c.follow.new.self c.args.i.now c.in-Went.trace c.requires.fetched c.machines_hold_octas.ensures c.machines_are_paged.ensures
    c.in-Some.ensures.note c.in-Some.ensures.same (c.in-Went.ensures.answer (λ e. cc))
