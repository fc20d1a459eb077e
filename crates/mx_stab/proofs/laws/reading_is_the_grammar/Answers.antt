use Rattle.mx_stab.proofs.Sound.{read-trie}
use Rattle.mx_stab.proofs.Whole.{trie-read}
use Rattle.mx_stab.proofs.laws.reading_is_the_grammar.Goals as goal

pub returns : goal.returns
returns c = λ bytes symbols b. (read-trie bytes symbols b, trie-read bytes symbols)
