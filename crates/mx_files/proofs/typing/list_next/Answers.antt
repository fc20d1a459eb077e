use Rattle.std.proofs.Common.{[], ap, sym, ◌∙◌}
use Rattle.mx_mmo.specs.Whole.{items_of}
use Rattle.mx_files.proofs.TypedLines.{refused-works, leaves-named, walk-lacks, next-leaves, next-ends, still-none, still-fault}
use Rattle.mx_files.proofs.typing.list_next.Goals as goal

pub returns-in-Ok-None-clause-last : goal.returns-in-Ok-None-clause-last
returns-in-Ok-None-clause-last g c = λ e.
    leaves-named _ _ _ _ (still-none c.args.lister.now c.args.reader.now c.next.new.self c.requires (rw c.in-Ok-None.field-0-is at (c.in-Ok-None.ensures.answers (λ e. cc))))

pub returns-in-Ok-clause-more : goal.returns-in-Ok-clause-more
returns-in-Ok-clause-more g c = λ e.
    next-leaves _ _ _ _ c.args.lister.now _ c.args.reader.now c.next.new.self c.in-Ok-Some.item c.requires
    (rw c.in-Ok-Some.field-0-is at (c.in-Ok-Some.ensures.answers (λ e. cc))) c.in-Ok.ensures.lambda c.in-Ok.ensures.put

pub returns-in-Ok-Some-clause-ends : goal.returns-in-Ok-Some-clause-ends
returns-in-Ok-Some-clause-ends g c =
    next-ends _ _ _ _ c.args.lister.now c.args.reader.now c.next.new.self c.in-Ok-Some.item _ c.requires
    (rw c.in-Ok-Some.field-0-is at (c.in-Ok-Some.ensures.answers (λ e. cc))) c.in-Err-put_item.ensures.put

pub returns-clause-ends : goal.returns-clause-ends
returns-clause-ends g c =
    let said = c.refuse_bytes.ensures in
    let m = c.args.reader.now in
    refused-works _ _ c.refuse_bytes.result _ (walk-lacks c.args.lister.now (items_of m.phase m.at m.rest)) said.end said.no_host_fault said.no_missing_file
    (λ ne. still-fault c.args.lister.now c.args.reader.now c.next.new.self c.in-Err.fault c.requires (c.in-Err.ensures.answers (λ e. ne (said.memory (cc))))
    ∙ ap (λ o. ([], o)) (sym (said.value ne)))
