use Rattle.std.proofs.Common.{ap, ◌∙◌}
use Rattle.std.specs.Prelude.{ℤ, ◌*ℤ◌}
use Rattle.mx_alu.proofs.Products.{product-in, product-is, value-small, power-is, power-small}
use Rattle.mx_word.specs.Words.{signed_value}
use Rattle.mx_alu.proofs.arithmetic.shift_signed.Goals as goal

pub overflow_mul-result : goal.overflow_mul-result
overflow_mul-result c =
    product-in c.value.result c.from.result
    (value-small c.value.result c.args.y c.ranges.y.fits c.value.ensures) (power-small c.from.result c.args.z c.requires c.from.ensures)

pub returns : goal.returns
returns c =
    product-is c.value.result c.from.result
    (value-small c.value.result c.args.y c.ranges.y.fits c.value.ensures) (power-small c.from.result c.args.z c.requires c.from.ensures)
    ∙ ap (λ (a : ℤ). a *ℤ c.from.result) c.value.ensures ∙ ap (λ (p : ℤ). signed_value c.args.y *ℤ p) (power-is c.from.result c.args.z c.requires c.from.ensures)
