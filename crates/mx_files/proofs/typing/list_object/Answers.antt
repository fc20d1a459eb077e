use Rattle.std.proofs.Common.{[], ap, sym, ◌∙◌}
use Rattle.mx_files.proofs.TypedLines.{refused-works, works-named, typed-lacks, fed-typed, fed-unbroken, fed-fault}
use Rattle.mx_files.proofs.typing.list_object.Goals as goal

pub list_fed-requires : goal.list_fed-requires
list_fed-requires g c = fed-unbroken c.args.bytes.now _ (rw c.new-reader.ensures at (c.in-Ok.ensures.answers (λ e. cc)))

pub returns-in-Ok : goal.returns-in-Ok
returns-in-Ok g c = works-named _ _ _ _ _ _ _ (fed-typed c.args.bytes.now _ (rw c.new-reader.ensures at (c.in-Ok.ensures.answers (λ e. cc)))) c.list_fed.ensures

pub returns : goal.returns
returns g c =
    let said = c.refuse_bytes.ensures in
    refused-works _ _ c.refuse_bytes.result _ (typed-lacks c.args.bytes.now) said.end said.no_host_fault said.no_missing_file
    (λ ne. fed-fault c.args.bytes.now c.in-Err.fault _ (rw c.new-reader.ensures at (c.in-Err.ensures.answers (λ e. ne (said.memory (cc)))))
    ∙ ap (λ o. ([], o)) (sym (said.value ne)))
