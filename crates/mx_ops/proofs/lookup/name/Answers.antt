use Rattle.std.proofs.Common.{refl, [], map, ap, sym, arith}
use Rattle.mx_ops.specs.Opcodes.{opcode_names, opcode_rows}
use Rattle.mx_ops.proofs.Places.{name-at}
use Rattle.mx_ops.proofs.Operations.{instruction-found}
use Rattle.mx_ops.proofs.lookup.name.Goals as goal

pub returns-clause-value : goal.returns-clause-value
unfolding opcode_names opcode_rows
returns-clause-value c = name-at c.as_slice.result.now c.from.result c.args.code (record { ref_ptr = (0, 0); now = [] }) (ap (map (λ s. s.now)) c.as_slice.ensures) refl c.from.ensures

pub returns-clause-found : goal.returns-clause-found
returns-clause-found c = instruction-found _ c.args.code (omega (arith, c.ranges.code)) (sym (returns-clause-value c))
