use Rattle.mx_occurrences.proofs.Ascending.{names-ascend}
use Rattle.mx_occurrences.proofs.laws.places_of_names_ascend.Goals as goal

pub returns : goal.returns
returns c = names-ascend
