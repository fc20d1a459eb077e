use Rattle.std.proofs.Common.{refl, sym, ◌∙◌}
use Rattle.mx_core.specs.Kept.{state_of}
use Rattle.mx_top.proofs.Summed.{undone-lacking, unsummed-plan, done-plan}
use Rattle.mx_top.proofs.Caused.{fails-nowhere}
use Rattle.mx_top.proofs.generation.sum_up.Goals as goal

pub returns-then-not-is_done : goal.returns-then-not-is_done
returns-then-not-is_done g c = record {
  lacked = λ e. (e, refl);
  plan = unsummed-plan _ c.args.blocks c.args.size _ (state_of c.args.machine.now) (sym c.is_done.ensures ∙ c.if-not-is_done.true);
  causes = fails-nowhere g.H.Host.told g.H.Host.faults _ _ c.requires;
}

pub returns : goal.returns
returns g c = record {
  lacked = λ e. absurd (undone-lacking _ e (sym c.is_done.ensures ∙ c.if-not-is_done.false));
  plan = λ ne. done-plan _ _ _ c.args.blocks c.args.size _ (state_of c.args.machine.now) (sym c.is_done.ensures ∙ c.if-not-is_done.false) c.put_summary.ensures.plan;
  causes = c.put_summary.ensures.causes;
}
