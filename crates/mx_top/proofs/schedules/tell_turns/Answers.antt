use Rattle.std.proofs.Common.{refl, ap}
use Rattle.mx_top.specs.Processors.{multi_outcome}
use Rattle.mx_top.proofs.Dumped.{written-plan}
use Rattle.mx_top.proofs.TurnsTold.{turned-well}
use Rattle.mx_top.proofs.Caused.{fails-lacking, fails-lines, fails-written}
use Rattle.mx_top.proofs.schedules.tell_turns.Goals as goal

pub returns-in-OutOfMemory : goal.returns-in-OutOfMemory
returns-in-OutOfMemory g c = record {
  lacked = λ e. (refl, refl);
  plan = λ ne. absurd (ne (ap (multi_outcome c.args.order.now.steps) c.in-OutOfMemory.is));
  causes = fails-lacking g.H.Host.told g.H.Host.faults _;
}

pub returns-in-Ok : goal.returns-in-Ok
returns-in-Ok g c = record {
  lacked = λ e. absurd (turned-well c.args.order.now.steps c.args.end c.in_default.not-OutOfMemory e);
  plan = λ ne. written-plan _ _ _ _ _ _ _ _ ne c.multi_outcome.ensures.value c.in-Ok.ensures;
  causes = fails-written g.H.Host.told g.H.Host.faults _ _ _ _ c.multi_outcome.ensures.machine c.in-Ok.ensures;
}

pub returns-in-Err : goal.returns-in-Err
returns-in-Err g c = record {
  lacked = λ e. absurd (turned-well c.args.order.now.steps c.args.end c.in_default.not-OutOfMemory e);
  plan = λ ne. written-plan _ _ _ _ _ _ _ _ ne refl c.in-Err.ensures;
  causes = fails-lines g.H.Host.told g.H.Host.faults _ _ _ _ c.in-Err.ensures;
}
