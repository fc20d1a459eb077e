use Rattle.mx_run.proofs.Areas.{has-window}
use Rattle.mx_back.proofs.running.keep_if_usual.Goals as goal

pub returns-clause-made : goal.returns-clause-made
returns-clause-made c = λ t. record {
  over = has-window _ _ c.machines_keep_the_invariant.ensures c.machines_are_whole.ensures;
  made = c.step_if_usual.ensures.made t;
  kept = c.step_if_usual.ensures.kept t;
  fits = c.step_if_usual.ensures.fits;
}
