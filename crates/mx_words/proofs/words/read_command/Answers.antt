use Rattle.std.proofs.Common.{string_bytes, sym, ◌∙◌, arith}
use Rattle.mx_words.proofs.ReadOptions.{option-read, option-refused, at-file, at-end}
use Rattle.mx_words.proofs.words.read_command.Goals.{then-loop-at-test+else-is_option, else-loop-at-test}
use Rattle.mx_words.proofs.words.read_command.Goals as goal

pub loop-at-preserved : goal.loop-at-preserved
loop-at-preserved c =
    c.loop-at.invariant
    ∙ option-read string_bytes c.args.command c.loop-at.settings c.in-Ok.set c.loop-at.at c.in-Ok.next c.args.words.now _ _ c.loop-at-test.true c.index-words-at.is
    (sym c.if-is_option.ensures) c.in-Ok.ensures.value

pub returns-in-Err-clause-value : goal.returns-in-Err-clause-value
returns-in-Err-clause-value c =
    sym (c.loop-at.invariant
    ∙ option-refused string_bytes c.args.command c.loop-at.settings c.loop-at.at c.in-Err.fault c.args.words.now _ _ c.loop-at-test.true c.index-words-at.is
    (sym c.if-is_option.ensures) c.in-Err.ensures.value)

pub returns-clause-value : goal.returns-clause-value
returns-clause-value c =
    c.file.ensures.value
    ∙ sym (c.loop-at.invariant
    ∙ elim c.loop-at-test.branch [
      | then-loop-at-test+else-is_option w ↦
          at-file string_bytes c.args.command c.loop-at.settings c.loop-at.at c.args.words.now _ _ w.loop-at-test.true w.index-words-at.is (sym w.if-is_option.ensures)
      | else-loop-at-test w ↦
          at-end string_bytes c.args.command c.loop-at.settings c.loop-at.at c.args.words.now (omega (arith, w.loop-at-test.false))
    ])
