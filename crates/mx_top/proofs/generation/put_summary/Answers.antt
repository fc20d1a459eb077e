use Rattle.std.proofs.Common.{refl}
use Rattle.mx_outcome.specs.declared.outcome.Outcome.TheVariants.{Done}
use Rattle.mx_files.proofs.WrittenLines.{writes-line, writes-lacking}
use Rattle.mx_top.proofs.Dumped.{written-plan}
use Rattle.mx_top.proofs.Caused.{fails-lines, fails-written}
use Rattle.mx_top.proofs.generation.put_summary.Goals as goal

pub returns-in-Err-clause-plan : goal.returns-in-Err-clause-plan
returns-in-Err-clause-plan g c = written-plan _ _ 0 0 (Done 0) _ _ _ (λ e. cc) refl (writes-lacking _ 0 _)

pub returns-in-Ok-write_line-clause-plan : goal.returns-in-Ok-write_line-clause-plan
returns-in-Ok-write_line-clause-plan g c =
    written-plan _ _ _ _ (Done 0) _ _ _ (λ e. cc) refl (writes-line _ _ _ _ _ _ _ (cc (c.as_slice.ensures, c.in-Ok.ensures, c.steps.ensures, c.register.ensures)) c.in-Ok-write_line.ensures)

pub returns-clause-plan : goal.returns-clause-plan
returns-clause-plan g c =
    written-plan _ _ _ _ (Done 0) _ _ _ (λ e. cc) refl (writes-line _ _ _ _ _ _ _ (cc (c.as_slice.ensures, c.in-Ok.ensures, c.steps.ensures, c.register.ensures)) c.in-Err-write_line.ensures)

pub returns-in-Ok-write_line-clause-causes : goal.returns-in-Ok-write_line-clause-causes
returns-in-Ok-write_line-clause-causes g c = fails-written g.H.Host.told g.H.Host.faults _ _ (Done 0) _ (λ e. cc, λ e. cc, refl) (writes-line _ _ _ _ _ _ _ refl c.in-Ok-write_line.ensures)

pub returns-clause-causes : goal.returns-clause-causes
returns-clause-causes g c = fails-lines g.H.Host.told g.H.Host.faults _ _ _ _ (writes-line _ _ _ _ _ _ _ refl c.in-Err-write_line.ensures)
