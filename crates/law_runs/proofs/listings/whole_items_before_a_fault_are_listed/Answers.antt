use Rattle.law_runs.proofs.FaultyListings.{whole_items_listed}
use Rattle.law_runs.proofs.listings.whole_items_before_a_fault_are_listed.Goals as goal

pub returns : goal.returns
returns c = λ bytes h. whole_items_listed bytes h.each h.short h.faulty
