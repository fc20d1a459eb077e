use Rattle.law_runs.proofs.ListedObjects.{done-typed, listing-typed, once-typed, trie-fault}
use Rattle.law_runs.proofs.listings.what_is_written_for_an_object_is_its_listing.Goals as goal

pub returns-clause-listing : goal.returns-clause-listing
returns-clause-listing c = λ o. listing-typed o.bytes o.object o.symbols o.is o.trie

pub returns-clause-only : goal.returns-clause-only
returns-clause-only c = done-typed

pub returns-clause-once : goal.returns-clause-once
returns-clause-once c = λ a b same. once-typed a.bytes b.bytes a.object b.object a.each b.each a.is b.is a.whole b.whole same

pub returns-clause-trie : goal.returns-clause-trie
returns-clause-trie c = trie-fault
