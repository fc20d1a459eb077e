use Rattle.std.proofs.Common.{◌∙◌}
use Rattle.mx_top.proofs.Caused.{fails-lacking}
use Rattle.mx_top.proofs.WorkParts.{generated-named}
use Rattle.mx_top.proofs.WorkPlans.{both-lacks}
use Rattle.mx_top.proofs.generation.generate.Goals as goal

pub returns-in-Ok : goal.returns-in-Ok
returns-in-Ok g c = record { both = generated-named _ _ _ c.args.order.now _ _ (c.as_slice.ensures ∙ c.in-Ok.ensures) c.run_text.ensures.both; causes = c.run_text.ensures.causes }

pub returns-in-Err : goal.returns-in-Err
returns-in-Err g c = record { both = both-lacks _ _; causes = fails-lacking g.H.Host.told g.H.Host.faults _ }
