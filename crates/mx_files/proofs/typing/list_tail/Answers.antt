use Rattle.std.proofs.Common.{[], ap, sym, ◌∙◌, Ok}
use Rattle.mx_stab.specs.Reading.{trie_answer}
use Rattle.mx_files.specs.Typed.{trie_typed}
use Rattle.mx_files.proofs.TypedLines.{refused-works, tail-lacks, tail-listed}
use Rattle.mx_files.proofs.typing.list_tail.Goals as goal

pub returns-in-Ok : goal.returns-in-Ok
returns-in-Ok g c =
    tail-listed _ _ _ _ c.args.tail.now _ _ _ _ (c.in-Ok.ensures.answer (λ e. cc) ∙ ap trie_answer c.as_slice.ensures) c.as_slice-in-Ok.ensures c.as_slice-in-Ok-2.ensures c.put_tail.ensures

pub returns-in-Err : goal.returns-in-Err
returns-in-Err g c =
    let said = c.refuse_trie.ensures in
    refused-works _ _ c.refuse_trie.result _ (tail-lacks (Ok c.args.tail.now)) said.end said.no_host_fault said.no_missing_file
    (λ ne. ap (trie_typed c.args.tail.now.place c.args.tail.now.trie)
    (sym (c.in-Err.ensures.answer (λ e. ne (said.memory (cc))) ∙ ap trie_answer c.as_slice.ensures))
    ∙ ap (λ o. ([], o)) (sym (said.value ne)))
