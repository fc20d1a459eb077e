use Rattle.std.proofs.Common.{◌*◌, ◌/◌, ◌^◌}
use Rattle.std.proofs.lemmas.Nat.{and_mask}
use Rattle.mx_mem.specs.Parts.{size_of, bits_below}
use Rattle.mx_code.proofs.part.part_of.Goals as goal

pub returns-clause-value : goal.returns-clause-value
returns-clause-value c = rw (c.bits_below.ensures.value, c.mask.ensures) (and_mask (c.args.octa / 2 ^ bits_below c.args.part c.args.a) (8 * size_of c.args.part))
