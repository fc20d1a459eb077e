use Rattle.std.proofs.Common.{get_or, ◌∙◌, ap}
use Rattle.mx_code.specs.declared.codes.TheConstants.{OPERATIONS}
use Rattle.mx_code.specs.declared.operation.Operation.TheVariants as op
use Rattle.mx_code.proofs.Tables.{operation-at}
use Rattle.mx_code.proofs.codes.operation_of.Goals as goal

pub returns : goal.returns
returns c = ap (λ p. get_or OPERATIONS p op.Trap) c.from.ensures ∙ operation-at c.args.code c.ranges.code.fits
