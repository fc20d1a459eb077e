use Rattle.std.proofs.Common.{refl}
unfoldable use Rattle.mx_text.specs.Numbers.{hex_digits}
use Rattle.mx_type.proofs.lines.tetra_at.Goals as goal

pub returns : goal.returns
unfolding hex_digits
returns c = rw (c.octa_hex.ensures, c.tetra_hex.ensures) refl
