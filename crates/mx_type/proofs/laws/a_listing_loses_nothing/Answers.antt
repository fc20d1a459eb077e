use Rattle.mx_type.proofs.Once.{items-once, trie-once}
use Rattle.mx_type.proofs.laws.a_listing_loses_nothing.Goals as goal

pub returns-clause-items : goal.returns-clause-items
returns-clause-items c = items-once

pub returns-clause-trie : goal.returns-clause-trie
returns-clause-trie c = trie-once
