use Rattle.std.proofs.Common.{refl}
use Rattle.mx_text.proofs.Digits.{eight-digits}
use Rattle.mx_text.proofs.numbers.digits.Goals as goal

pub returns : goal.returns
returns c =
    rw (c.from.ensures, c.from-2.ensures, c.from-3.ensures, c.from-4.ensures)
    (eight-digits c.args.word _ c.pair.result c.pair-2.result c.pair-3.result c.pair-4.result c.ranges.word.fits
    c.pair.ensures.most c.pair-2.ensures.most c.pair-3.ensures.most c.pair-4.ensures.most
    c.pair.ensures.digits c.pair-2.ensures.digits c.pair-3.ensures.digits c.pair-4.ensures.digits refl)
