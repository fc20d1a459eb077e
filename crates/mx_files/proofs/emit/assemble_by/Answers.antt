use Rattle.mx_line.specs.Lines.{lines_of}
use Rattle.mx_files.proofs.TakenLines.{start-taken, source-taken, source-ends, source-fits, no-items-fit}
use Rattle.mx_files.proofs.emit.assemble_by.Goals as goal

pub returns-in-Ok-finish-clause-value : goal.returns-in-Ok-finish-clause-value
returns-in-Ok-finish-clause-value c =
    source-ends (lines_of c.args.text.now) _ _ _ (start-taken (lines_of c.args.text.now) _ _ _ _ c.requires.none c.requires.start c.in-Ok.ensures.taken)
    (c.in-Ok-finish.ensures.ended (λ e. cc))

pub returns-in-Ok-finish-clause-trie : goal.returns-in-Ok-finish-clause-trie
returns-in-Ok-finish-clause-trie c =
    let lines = lines_of c.args.text.now in
    let taken = start-taken lines _ _ _ _ c.requires.none c.requires.start c.in-Ok.ensures.taken in
    (c.in-Ok-finish.ensures.object lines (source-taken lines _ _ taken) (source-fits lines _ _ taken (c.take_lines.ensures.fits (no-items-fit _ c.requires.none)))).padded

pub returns-in-Ok-if_no_memory-clause-value : goal.returns-in-Ok-if_no_memory-clause-value
returns-in-Ok-if_no_memory-clause-value c =
    source-ends (lines_of c.args.text.now) _ _ _ (start-taken (lines_of c.args.text.now) _ _ _ _ c.requires.none c.requires.start c.in-Ok.ensures.taken)
    (c.in-Err-finish.ensures.ended (λ e. c.in-Ok-if_no_memory.ensures (cc e)))
