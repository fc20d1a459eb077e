use Rattle.std.proofs.Common.{sym, subst, IsTrue}
use Rattle.mx_top.proofs.Reported.{saying-then}
use Rattle.mx_top.proofs.top.write_all.Goals as goal

pub returns-clause-plan : goal.returns-clause-plan
returns-clause-plan g c = λ t. record {
  between = _;
  spoken = c.write_message-told.result;
  message = c.write_message-told.ensures.plan t;
  following = c.put_reports.ensures.plan (subst IsTrue (sym c.write_message-told.ensures.keeps.keeps.telling) t);
}

pub returns-clause-keeps : goal.returns-clause-keeps
returns-clause-keeps g c = saying-then g.H.Host.told g.H.Host.faults _ _ _ c.write_message-told.ensures.keeps c.put_reports.ensures.keeps
