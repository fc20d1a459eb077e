use Rattle.std.proofs.Common.{ap, ◌∙◌}
use Rattle.std.specs.Prelude.{ℤ, ◌-ℤ◌, ◌*ℤ◌}
use Rattle.mx_alu.proofs.Products.{product-in, less-in, less-is, value-small}
use Rattle.mx_word.specs.Words.{signed_value}
use Rattle.mx_alu.proofs.arithmetic.remainder.Goals as goal

pub overflow_mul-result : goal.overflow_mul-result
overflow_mul-result c = product-in c.value-2.result c.args.q (value-small c.value-2.result c.args.z c.ranges.z.fits c.value-2.ensures) c.requires

pub overflow_sub-result : goal.overflow_sub-result
overflow_sub-result c =
    less-in c.value.result c.value-2.result c.args.q
    (value-small c.value.result c.args.y c.ranges.y.fits c.value.ensures) (value-small c.value-2.result c.args.z c.ranges.z.fits c.value-2.ensures) c.requires

pub returns : goal.returns
returns c =
    less-is c.value.result c.value-2.result c.args.q
    (value-small c.value.result c.args.y c.ranges.y.fits c.value.ensures) (value-small c.value-2.result c.args.z c.ranges.z.fits c.value-2.ensures) c.requires
    ∙ ap (λ (a : ℤ). a -ℤ c.value-2.result *ℤ c.args.q) c.value.ensures ∙ ap (λ (b : ℤ). signed_value c.args.y -ℤ b *ℤ c.args.q) c.value-2.ensures
