use Rattle.std.proofs.Common.{refl}
use Rattle.mx_ops.specs.Predefined.{special_name, special_registers}
use Rattle.mx_code.proofs.laws.special_registers_are_those_of_their_names.Goals as goal

pub returns : goal.returns
unfolding special_name special_registers
returns c = refl
