use Rattle.std.proofs.Common.{◌∷◌, ap}
use Rattle.mx_text.proofs.Digits.{octa-digits}
use Rattle.mx_text.proofs.numbers.octa_hex.Goals as goal

pub returns : goal.returns
returns c = ap (λ ds. 35 ∷ ds) (octa-digits c.args.x _ _ c.tetra_hex.ensures c.tetra_hex-2.ensures)
