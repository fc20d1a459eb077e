use Rattle.mx_stab.proofs.Law.{written-is-trie}
use Rattle.mx_stab.proofs.laws.writing_is_the_grammar.Goals as goal

pub returns : goal.returns
returns c = written-is-trie
