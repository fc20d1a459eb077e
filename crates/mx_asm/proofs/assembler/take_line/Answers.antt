use Rattle.mx_asm.specs.OnePass.{with_opening, opened, line_taken, line_answer}
use Rattle.mx_asm.proofs.Fitting.{grows-on}
use Rattle.mx_asm.proofs.Fronts.{front-trans, line-front}
use Rattle.mx_asm.proofs.NumberedRefusals.{statements-told}
use Rattle.mx_asm.proofs.assembler.take_line.Goals as goal

pub returns-in_err-open-clause-front : goal.returns-in_err-open-clause-front
returns-in_err-open-clause-front c =
    front-trans c.open.new.out (with_opening c.args.assembly.now.opened c.args.out.now) (line_taken (with_opening c.args.assembly.now.opened c.args.out.now) (opened c.args.assembly.now) c.args.text.now).0
    c.in_err-open.ensures.front (line-front (with_opening c.args.assembly.now.opened c.args.out.now) (opened c.args.assembly.now) c.args.text.now)

pub returns-in-Ok-Err-clause-fits : goal.returns-in-Ok-Err-clause-fits
returns-in-Ok-Err-clause-fits c = grows-on _ _ _ c.open.ensures.fits c.take_statements-tried.ensures.fits

pub returns-in-Ok-clause-fits : goal.returns-in-Ok-clause-fits
returns-in-Ok-clause-fits c = grows-on _ _ _ c.open.ensures.fits c.take_statements-tried.ensures.fits

pub returns-in-Ok-2-clause-fits : goal.returns-in-Ok-2-clause-fits
returns-in-Ok-2-clause-fits c = grows-on _ _ _ c.open.ensures.fits c.take_statements-tried.ensures.fits

pub returns-in-Ok-Err-clause-told : goal.returns-in-Ok-Err-clause-told
returns-in-Ok-Err-clause-told c = statements-told (line_answer c.take_statements-tried.result) _ _ _ _ _ _ c.take_statements-tried.ensures.taken

pub returns-in-Ok-2-clause-told : goal.returns-in-Ok-2-clause-told
returns-in-Ok-2-clause-told c = statements-told (line_answer c.take_statements-tried.result) _ _ _ _ _ _ c.take_statements-tried.ensures.taken
