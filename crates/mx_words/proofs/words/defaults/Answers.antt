use Rattle.std.proofs.Common.{refl}
use Rattle.mx_words.proofs.words.defaults.Goals as goal

pub unwrap-requires : goal.unwrap-requires
unfolding lib.Count.ones
unwrap-requires c = rw c.of.ensures refl
