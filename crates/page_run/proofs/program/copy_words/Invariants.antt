use Rattle.std.proofs.Common.{◌≡◌, length, take}
use Rattle.page_run.proofs.program.copy_words.Given as goal

abbrev pub invariant-loop-word : goal.invariant-loop-word
invariant-loop-word l = length l.copy.items ≡ length (take l.word-index l.words)
