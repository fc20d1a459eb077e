use Rattle.mx_stmt.proofs.SecondCodes.{second-code}
use Rattle.mx_stmt.proofs.shapes.encode_instruction.Goals as goal

pub instruction-requires-clause-second : goal.instruction-requires-clause-second
instruction-requires-clause-second c = second-code c.args.code c.shape_of.result c.ranges.code.fits c.shape_of.ensures
