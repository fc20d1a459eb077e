use Rattle.std.proofs.Common.{sym, ◌∙◌, arith}
use Rattle.mx_top.proofs.Reported.{saying-then}
use Rattle.mx_top.proofs.Saying.{reports-next, reports-lacking, reports-done}
use Rattle.mx_top.proofs.reports.put_reports.Goals as goal

pub loop-text-preserved : goal.loop-text-preserved
loop-text-preserved g c =
    let was = c.loop-text.invariant in
    record {
      plan = reports-next _ _ _ _ c.args.texts.now c.loop-text.text-index _ _ _ c.loop-text-test.true (c.as_slice.ensures ∙ c.text-item.is) (sym c.is_lacking.ensures ∙ c.if-is_lacking.false) was.keeps.keeps.telling c.put_report.ensures.plan was.plan;
      keeps = saying-then g.H.Host.told g.H.Host.faults _ _ _ was.keeps c.put_report.ensures.keeps;
    }

pub returns-then-is_lacking-clause-plan : goal.returns-then-is_lacking-clause-plan
returns-then-is_lacking-clause-plan g c =
    let was = c.loop-text.invariant in
    reports-lacking _ _ _ _ c.args.texts.now c.loop-text.text-index _ _ _ c.loop-text-test.true (c.as_slice.ensures ∙ c.text-item.is) (sym c.is_lacking.ensures ∙ c.if-is_lacking.true) was.keeps.keeps.telling c.put_report.ensures.plan was.plan

pub returns-then-is_lacking-clause-keeps : goal.returns-then-is_lacking-clause-keeps
returns-then-is_lacking-clause-keeps g c = saying-then g.H.Host.told g.H.Host.faults _ _ _ c.loop-text.invariant.keeps c.put_report.ensures.keeps

pub returns-clause-plan : goal.returns-clause-plan
returns-clause-plan g c = reports-done _ _ _ c.args.texts.now c.loop-text.text-index (omega (arith, c.loop-text-test.false)) c.loop-text.invariant.plan

pub returns-clause-keeps : goal.returns-clause-keeps
returns-clause-keeps g c = c.loop-text.invariant.keeps
