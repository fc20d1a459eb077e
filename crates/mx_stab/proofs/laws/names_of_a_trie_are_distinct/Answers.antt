use Rattle.mx_stab.proofs.NamesLaw.{trie-named}
use Rattle.mx_stab.proofs.laws.names_of_a_trie_are_distinct.Goals as goal

pub returns : goal.returns
returns c = trie-named
