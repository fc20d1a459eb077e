use Rattle.std.proofs.Common.{[], ap, sym, ◌∙◌, Ok}
use Rattle.mx_mmo.specs.Whole.{left_of}
use Rattle.mx_files.proofs.TypedLines.{refused-works, works-named, end-lacks, end-read, end-fault}
use Rattle.mx_files.proofs.typing.list_end.Goals as goal

pub returns-in-Ok : goal.returns-in-Ok
returns-in-Ok g c =
    works-named _ _ _ _ _ _ _ (end-read c.args.reader.now c.finish.new.self c.in-Ok.tail c.requires (c.in-Ok.ensures.answers (λ e. cc))) c.list_tail.ensures

pub returns-in-Err : goal.returns-in-Err
returns-in-Err g c =
    let said = c.refuse_bytes.ensures in
    refused-works _ _ c.refuse_bytes.result _ (end-lacks (Ok (left_of c.args.reader.now))) said.end said.no_host_fault said.no_missing_file
    (λ ne. end-fault c.args.reader.now c.finish.new.self c.in-Err.fault c.requires (c.in-Err.ensures.answers (λ e. ne (said.memory (cc))))
    ∙ ap (λ o. ([], o)) (sym (said.value ne)))
