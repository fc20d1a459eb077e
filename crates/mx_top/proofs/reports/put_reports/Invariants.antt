use Rattle.std.proofs.Common.{drop}
use Rattle.std.specs.Prelude.{IsTrue}
use Rattle.mx_host.specs.HostModel.{contents, tells}
use Rattle.mx_plan.specs.Calls.{host}
use Rattle.mx_plan.specs.Plan.{IsRest}
use Rattle.mx_top.specs.Telling.{reports_plan}
use Rattle.mx_top.specs.WorkClauses.{KeepsSaying}
use Rattle.mx_top.proofs.reports.put_reports.Given as goal

abbrev pub invariant-loop-text : goal.invariant-loop-text
invariant-loop-text g l = record {
  plan : IsTrue (tells (g.H.Host.told l.fn.host)) →
      IsRest host (reports_plan l.fn.outcome (drop l.text-index l.texts)) (contents (g.H.Host.told l.host)) (reports_plan l.fn.outcome l.texts) (contents (g.H.Host.told l.fn.host));
  keeps : KeepsSaying g.H.Host.told g.H.Host.faults l.fn.host l.host;
}
