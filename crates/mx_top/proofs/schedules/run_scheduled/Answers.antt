use Rattle.std.proofs.Common.{Err, ap}
use Rattle.mx_top.proofs.WorkPlans.{both-then, both-ends}
use Rattle.mx_top.proofs.Caused.{fails-after}
use Rattle.mx_top.proofs.WorkParts.{object-of}
use Rattle.mx_top.proofs.schedules.run_scheduled.Goals as goal

pub returns-in-Ok : goal.returns-in-Ok
returns-in-Ok g c = record {
  both = both-then _ _ _ _ _ _ _ c.in-Ok.ensures.causes.3.telling c.in-Ok.ensures.works.told (object-of _ _ _ c.args.order.now _ _ _ c.as_slice.ensures c.object_file.ensures.both);
  causes = fails-after g.H.Host.told g.H.Host.faults _ _ _ _ c.in-Ok.ensures.causes.3 c.object_file.ensures.causes;
}

pub returns-in-Err : goal.returns-in-Err
returns-in-Err g c = record {
  both = both-ends _ _ _ _ _ c.in-Err.ensures.works.told;
  causes = (λ had e. c.in-Err.ensures.causes.0 had (ap Err e), λ n e. c.in-Err.ensures.causes.1 n (ap Err e), c.in-Err.ensures.causes.2, c.in-Err.ensures.causes.3);
}
