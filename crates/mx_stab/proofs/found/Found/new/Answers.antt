use Rattle.std.proofs.Common.{[], sym, subst}
use Rattle.mx_word.specs.Symbols.{InByteOrder}
use Rattle.mx_stab.proofs.Orders.{in-byte-order}
use Rattle.mx_stab.proofs.found.Found.new.Goals as goal

pub invariant_of-result : goal.invariant_of-result
invariant_of-result c = (λ e. subst InByteOrder (sym c.new.ensures) (in-byte-order [] tt), λ x e. absurd (cc))
