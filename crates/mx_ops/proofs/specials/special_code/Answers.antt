use Rattle.std.proofs.Common.{map, ap, ◌∙◌, length, arith}
use Rattle.mx_ops.specs.Predefined.{special_registers}
use Rattle.mx_ops.proofs.SpecialNames.{named}
use Rattle.mx_ops.proofs.specials.special_code.Goals as goal

pub overflow_cast-result : goal.overflow_cast-result
overflow_cast-result c = let few = ap length c.as_slice.ensures in omega (arith, few, c.in-Some.ensures.range)

pub returns-in-Some : goal.returns-in-Some
unfolding special_registers
returns-in-Some c = c.in-Some.ensures.value ∙ named _ _ (ap (map (λ s. s.now)) c.as_slice.ensures)

pub returns-in-None : goal.returns-in-None
unfolding special_registers
returns-in-None c = c.in-None.ensures.value ∙ named _ _ (ap (map (λ s. s.now)) c.as_slice.ensures)
