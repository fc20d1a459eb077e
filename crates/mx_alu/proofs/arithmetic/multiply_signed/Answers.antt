use Rattle.std.proofs.Common.{ap, ◌∙◌}
use Rattle.std.specs.Prelude.{ℤ, ◌*ℤ◌}
use Rattle.mx_alu.proofs.Products.{product-in, product-is, value-small}
use Rattle.mx_word.specs.Words.{signed_value}
use Rattle.mx_alu.proofs.arithmetic.multiply_signed.Goals as goal

pub overflow_mul-result : goal.overflow_mul-result
overflow_mul-result c =
    product-in c.value.result c.value-2.result
    (value-small c.value.result c.args.y c.ranges.y.fits c.value.ensures) (value-small c.value-2.result c.args.z c.ranges.z.fits c.value-2.ensures)

pub returns : goal.returns
returns c =
    product-is c.value.result c.value-2.result
    (value-small c.value.result c.args.y c.ranges.y.fits c.value.ensures) (value-small c.value-2.result c.args.z c.ranges.z.fits c.value-2.ensures)
    ∙ ap (λ (a : ℤ). a *ℤ c.value-2.result) c.value.ensures ∙ ap (λ (b : ℤ). signed_value c.args.y *ℤ b) c.value-2.ensures
