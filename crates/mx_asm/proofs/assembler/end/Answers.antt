use Rattle.mx_asm.specs.OnePass.{with_opening, ended}
use Rattle.mx_asm.proofs.Fitting.{grows-on}
use Rattle.mx_asm.proofs.Fronts.{front-trans, end-front}
use Rattle.mx_asm.proofs.assembler.end.Goals as goal

pub returns-in_err-open-clause-front : goal.returns-in_err-open-clause-front
returns-in_err-open-clause-front c =
    front-trans c.open.new.out (with_opening c.args.assembly.now.opened c.args.out.now) (ended (with_opening c.args.assembly.now.opened c.args.out.now) c.args.assembly.now).0
    c.in_err-open.ensures.front (end-front (with_opening c.args.assembly.now.opened c.args.out.now) c.args.assembly.now)

pub returns-clause-fits : goal.returns-clause-fits
returns-clause-fits c = grows-on _ _ _ c.open.ensures.fits c.end.ensures.fits
