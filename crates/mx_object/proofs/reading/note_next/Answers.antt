use Rattle.mx_object.proofs.AddressLists.{has-noted, left-fault, left-more, left-none, no-more, was-stopped}
use Rattle.mx_object.proofs.reading.note_next.Goals as goal

pub returns-in-Ok-Some-clause-next : goal.returns-in-Ok-Some-clause-next
returns-in-Ok-Some-clause-next c = λ e.
    left-more _ _ _ _ c.args.reader.now c.next.new.self c.in-Ok-Some.item c.requires (rw c.in-Ok-Some.field-0-is at (c.in-Ok-Some.ensures.answers (λ e. cc)))
    (has-noted _ c.note.result c.note.ensures e)

pub returns-in-Ok-None-clause-last : goal.returns-in-Ok-None-clause-last
returns-in-Ok-None-clause-last c = λ e.
    left-none _ _ c.args.reader.now c.next.new.self c.requires (rw c.in-Ok-None.field-0-is at (c.in-Ok-None.ensures.answers (λ e. cc)))

pub returns-in-Err-clause-next : goal.returns-in-Err-clause-next
returns-in-Err-clause-next c = λ e. absurd (no-more _ c.end_at_fault.result c.end_at_fault.ensures e)

pub returns-in-Err-clause-less : goal.returns-in-Err-clause-less
returns-in-Err-clause-less c = λ e. absurd (no-more _ c.end_at_fault.result c.end_at_fault.ensures e)

pub returns-in-Err-clause-read : goal.returns-in-Err-clause-read
returns-in-Err-clause-read c = λ e. absurd (no-more _ c.end_at_fault.result c.end_at_fault.ensures e)

pub returns-in-Err-clause-last : goal.returns-in-Err-clause-last
returns-in-Err-clause-last c = λ e.
    let known = was-stopped _ c.end_at_fault.result c.end_at_fault.ensures e in
    left-fault _ _ c.args.reader.now c.next.new.self c.in-Err.fault c.requires (c.in-Err.ensures.answers (λ e. known (cc)))
