use Rattle.mx_files.proofs.TakenLines.{no-items-fit}
use Rattle.mx_files.proofs.emit.assembled.Goals as goal

pub returns-clause-fits : goal.returns-clause-fits
returns-clause-fits c = c.assemble_into.ensures.fits (no-items-fit _ c.new-items.ensures)
