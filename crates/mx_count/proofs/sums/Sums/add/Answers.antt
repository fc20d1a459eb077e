use Rattle.std.proofs.Common.{rules}
use Rattle.mx_count.proofs.Summing.{more-at}
use Rattle.mx_count.proofs.sums.Sums.add.Goals as goal

pub returns : goal.returns
returns c = more-at _ _ c.args.address c.args.tally _ (search rules) c.in_ok-set.ensures
