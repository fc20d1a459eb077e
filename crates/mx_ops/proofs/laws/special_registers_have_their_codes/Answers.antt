use Rattle.std.proofs.Common.{refl}
use Rattle.mx_ops.specs.Predefined.{special_name, special_registers}
use Rattle.mx_ops.proofs.SpecialNames.{code-found, symbol-is-code}
use Rattle.mx_ops.proofs.laws.special_registers_have_their_codes.Goals as goal

pub returns-clause-names : goal.returns-clause-names
unfolding special_name special_registers
returns-clause-names c = refl

pub returns-clause-found : goal.returns-clause-found
returns-clause-found c = code-found

pub returns-clause-predefined : goal.returns-clause-predefined
returns-clause-predefined c = symbol-is-code
