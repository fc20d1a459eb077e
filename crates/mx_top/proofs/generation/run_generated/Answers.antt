use Rattle.std.proofs.Common.{◌∙◌}
use Rattle.mx_top.proofs.Caused.{fails-lacking, fails-unstarted}
use Rattle.mx_top.proofs.WorkParts.{summed-started, summed-unstarted}
use Rattle.mx_top.proofs.WorkPlans.{both-lacks}
use Rattle.mx_top.proofs.generation.run_generated.Goals as goal

pub returns-in-Err : goal.returns-in-Err
returns-in-Err g c = record { both = both-lacks _ _; causes = fails-lacking g.H.Host.told g.H.Host.faults _ }

pub returns-in-Ok-start_machine : goal.returns-in-Ok-start_machine
returns-in-Ok-start_machine g c = record {
  both = summed-started _ _ _ c.args.order.now c.args.size _ _ _ (c.as_slice.ensures.value ∙ c.in-Ok.ensures.value) (c.in-Ok-start_machine.ensures.window (λ e. absurd (cc))) (c.in-Ok-start_machine.ensures.list (λ e. absurd (cc))) c.run_summed.ensures.both;
  causes = c.run_summed.ensures.causes;
}

pub returns : goal.returns
returns g c = record {
  both = summed-unstarted _ _ c.args.order.now c.args.size _ _ (c.as_slice.ensures.value ∙ c.in-Ok.ensures.value) (λ ne. c.in-Err-start_machine.ensures.window (λ e. ne (cc))) (λ ne. c.in-Err-start_machine.ensures.list (λ e. ne (cc)));
  causes = fails-unstarted g.H.Host.told g.H.Host.faults _ _ c.in-Err-start_machine.ensures.no_host_fault c.in-Err-start_machine.ensures.no_missing_file c.in-Err-start_machine.ensures.no_usage;
}
