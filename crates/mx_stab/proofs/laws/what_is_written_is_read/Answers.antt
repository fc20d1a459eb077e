use Rattle.mx_stab.proofs.Law.{written-is-trie}
use Rattle.mx_stab.proofs.Whole.{trie-read}
use Rattle.mx_stab.proofs.laws.what_is_written_is_read.Goals as goal

pub returns : goal.returns
returns c = λ symbols zeros order named few. trie-read _ symbols (written-is-trie symbols zeros order named few)
