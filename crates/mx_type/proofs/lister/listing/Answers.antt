use Rattle.std.proofs.Common.{arith}
use Rattle.std.proofs.lemmas.Grind.{common_steps}
use Rattle.mx_type.proofs.Listed.{all-listed}
use Rattle.mx_type.proofs.lister.listing.Goals as goal

pub returns-clause-listing : goal.returns-clause-listing
returns-clause-listing c =
    all-listed c.add_tail.new.text c.args.items.now c.args.trie.now c.args.symbols.now c.requires (grind (arith, common_steps))
