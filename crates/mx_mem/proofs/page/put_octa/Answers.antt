use Rattle.mx_mem.proofs.Tetras.{octas-set, last-set-two}
use Rattle.mx_mem.proofs.page.put_octa.Goals as goal

pub returns-clause-octas : goal.returns-clause-octas
returns-clause-octas c = octas-set c.args.tetras.now c.args.at c.args.x c.told-tetras c.requires

pub returns-clause-last : goal.returns-clause-last
returns-clause-last c = last-set-two c.args.tetras.now c.args.at c.args.x c.requires
