use Rattle.mx_mem.proofs.Tetras.{tetra-set, last-set}
use Rattle.mx_mem.proofs.page.put_tetra_in.Goals as goal

pub returns-clause-octas : goal.returns-clause-octas
returns-clause-octas c = tetra-set c.args.tetras.now c.args.a c.args.t c.told-tetras c.fits-tetras c.ranges.t.fits

pub returns-clause-last : goal.returns-clause-last
returns-clause-last c = last-set c.args.tetras.now c.args.a c.args.t
