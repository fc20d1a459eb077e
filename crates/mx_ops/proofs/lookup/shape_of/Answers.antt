use Rattle.std.proofs.Common.{refl, arith}
use Rattle.mx_ops.proofs.Words.{shapes_of, shape_spans, SHAPES}
use Rattle.mx_ops.specs.declared.op.Shape.TheVariants.{Three}
use Rattle.mx_ops.proofs.Places.{shape-at}
use Rattle.mx_ops.proofs.lookup.shape_of.Goals as goal

pub returns : goal.returns
unfolding shapes_of shape_spans
returns c = shape-at SHAPES c.from.result c.args.code Three refl c.from.ensures (omega (arith, c.ranges.code))
