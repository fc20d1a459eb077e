use Rattle.mx_type.proofs.Listed.{all-listed, listing-given}
use Rattle.mx_type.proofs.laws.a_listing_is_what_is_joined.Goals as goal

pub returns : goal.returns
returns c = λ text items trie symbols told. (listing-given text items trie symbols told, all-listed text items trie symbols told)
