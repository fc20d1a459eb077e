use Rattle.mx_occurrences.proofs.OfTrees.{names-of-trees}
use Rattle.mx_occurrences.proofs.laws.names_of_a_field_are_those_of_its_trees.Goals as goal

pub returns : goal.returns
returns c = names-of-trees
