use Rattle.std.proofs.Common.{Err, ap, map}
use Rattle.std.specs.Prelude.{string_bytes}
use Rattle.mx_top.proofs.Caused.{fails-after}
use Rattle.mx_top.proofs.Heard.{begun-heard, unbegun-heard}
use Rattle.mx_top.proofs.WorkParts.{begun-both, unbegun-both}
use Rattle.mx_top.proofs.top.run_ordered.Goals as goal

-- ---- a machine has begun

pub returns-in-Ok-clause-part : goal.returns-in-Ok-clause-part
returns-in-Ok-clause-part g c = record {
  both = begun-both _ _ _ _ _ _ _ _ c.in-Ok.ensures.causes.3.telling c.in-Ok.ensures.window c.in-Ok.ensures.list c.run_machine.ensures.part.both;
  causes = fails-after g.H.Host.told g.H.Host.faults _ _ _ _ c.in-Ok.ensures.causes.3 c.run_machine.ensures.part.causes;
}

pub returns-in-Ok-clause-heard : goal.returns-in-Ok-clause-heard
returns-in-Ok-clause-heard g c = begun-heard _ _ _ _ _ _ _ _ _ _ _ c.in-Ok.ensures.causes.3.telling c.in-Ok.ensures.window c.in-Ok.ensures.list c.run_machine.ensures.heard

-- ---- and none has

pub returns-in-Err-clause-part : goal.returns-in-Err-clause-part
returns-in-Err-clause-part g c = record {
  both = unbegun-both _ _ _ (map string_bytes c.args.words.now) c.args.order.now c.args.form c.in-Err.ensures.window c.in-Err.ensures.list;
  causes = (λ had e. c.in-Err.ensures.causes.0 had (ap Err e), λ n e. c.in-Err.ensures.causes.1 n (ap Err e), c.in-Err.ensures.causes.2, c.in-Err.ensures.causes.3);
}

pub returns-in-Err-clause-heard : goal.returns-in-Err-clause-heard
returns-in-Err-clause-heard g c = unbegun-heard _ _ _ _ _ (map string_bytes c.args.words.now) c.args.order.now c.args.form c.in-Err.ensures.window c.in-Err.ensures.list
