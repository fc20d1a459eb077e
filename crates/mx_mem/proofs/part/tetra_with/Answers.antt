use Rattle.mx_mem.proofs.PartFields.{same-part}
use Rattle.mx_mem.proofs.part.tetra_with.Goals as goal

pub returns : goal.returns
returns c = λ octa e. rw (c.low_tetra.ensures, c.with_part.ensures, c.from.ensures) (same-part c.args.part octa c.args.a c.args.x c.args.t c.requires e)
