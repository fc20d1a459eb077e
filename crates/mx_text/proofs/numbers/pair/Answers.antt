use Rattle.mx_text.proofs.Digits.{pair-known}
use Rattle.mx_text.proofs.numbers.pair.Goals as goal

pub returns-clause-digits : goal.returns-clause-digits
returns-clause-digits c = rw c.from.ensures (pair-known c.args.b c.ranges.b.fits)
