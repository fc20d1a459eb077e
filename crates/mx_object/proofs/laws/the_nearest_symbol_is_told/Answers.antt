use Rattle.mx_object.proofs.NearestLaws.{none-nearer}
use Rattle.mx_object.proofs.laws.the_nearest_symbol_is_told.Goals as goal

pub returns : goal.returns
returns c = none-nearer
