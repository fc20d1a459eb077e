use Rattle.std.proofs.Common.{refl, [], map, ap}
use Rattle.mx_ops.specs.Predefined.{special_registers}
use Rattle.mx_ops.proofs.SpecialNames.{name-at}
use Rattle.mx_ops.proofs.specials.special_name.Goals as goal

pub returns : goal.returns
unfolding special_registers
returns c = name-at c.as_slice.result.now c.from.result c.args.code (record { ref_ptr = (0, 0); now = [] }) (ap (map (λ s. s.now)) c.as_slice.ensures) refl c.from.ensures
