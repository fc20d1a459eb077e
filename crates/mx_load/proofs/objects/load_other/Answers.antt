use Rattle.std.proofs.Common.{◌≢◌, ◌∙◌, sym, ap, Err}
use Rattle.mx_mmo.specs.declared.faults.MmoFault.TheVariants.{OutOfMemory as NoBytes}
use Rattle.mx_load.proofs.Words.{unread, place_and_number, OutOfMemory}
use Rattle.mx_load.proofs.Loading.{next-none, next-fault, next-went, next-failed}
use Rattle.mx_load.proofs.objects.load_other.Goals as goal

pub returns-in-Ok-None-clause-last : goal.returns-in-Ok-None-clause-last
returns-in-Ok-None-clause-last c = λ e n.
    next-none n c.args.progress.now c.args.reader.now c.next.new.self c.requires (rw c.in-Ok-None.field-0-is at (c.in-Ok-None.ensures.answers (λ e. cc)))

pub returns-in-Ok-Some-clause-next : goal.returns-in-Ok-Some-clause-next
returns-in-Ok-Some-clause-next c =
    next-went c.args.progress.now c.load_item.new.progress c.args.reader.now c.next.new.self c.in-Ok-Some.item c.place.result c.load_item.result c.requires
    (rw c.in-Ok-Some.field-0-is at (c.in-Ok-Some.ensures.answers (λ e. cc))) c.place.ensures c.load_item.ensures.taken

pub returns-in-Ok-Some-clause-fault : goal.returns-in-Ok-Some-clause-fault
returns-in-Ok-Some-clause-fault c =
    next-failed c.args.progress.now c.load_item.new.progress c.args.reader.now c.next.new.self c.in-Ok-Some.item c.place.result c.load_item.result c.requires
    (rw c.in-Ok-Some.field-0-is at (c.in-Ok-Some.ensures.answers (λ e. cc))) c.place.ensures c.load_item.ensures.taken

pub returns-in-Err-clause-fault : goal.returns-in-Err-clause-fault
returns-in-Err-clause-fault c = λ ne n.
    let same = c.fault_of_bytes.ensures in
    let known : unread c.in-Err.fault ≢ OutOfMemory = λ e. ne (ap Err (same ∙ e)) in
    let found : c.in-Err.fault ≢ NoBytes = λ e. known (ap unread e) in
    next-fault n c.args.progress.now c.args.reader.now c.next.new.self c.in-Err.fault c.requires (c.in-Err.ensures.answers (λ e. found (cc))) known
    ∙ ap (λ u. Err (place_and_number u)) (sym same)
