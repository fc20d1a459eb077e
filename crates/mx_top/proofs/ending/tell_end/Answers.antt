use Rattle.std.proofs.Common.{refl, sym, ◌∙◌}
use Rattle.mx_top.proofs.Dumped.{undumped-lacking, undumped-plan, dumped-plan}
use Rattle.mx_top.proofs.Caused.{fails-lines, fails-nowhere, fails-written}
use Rattle.mx_top.proofs.ending.tell_end.Goals as goal

pub returns-then-not-is_dumped : goal.returns-then-not-is_dumped
returns-then-not-is_dumped g c = record {
  lacked = λ e. (e, refl);
  plan = undumped-plan _ _ _ _ (sym c.is_dumped.ensures ∙ c.if-not-is_dumped.true);
  causes = fails-nowhere g.H.Host.told g.H.Host.faults _ _ c.requires;
}

pub returns-in-Ok : goal.returns-in-Ok
returns-in-Ok g c = record {
  lacked = λ e. absurd (undumped-lacking _ _ e (sym c.is_dumped.ensures ∙ c.if-not-is_dumped.false));
  plan = λ ne. dumped-plan _ _ _ _ _ _ _ _ _ (sym c.is_dumped.ensures ∙ c.if-not-is_dumped.false) ne refl c.in-Ok.ensures;
  causes = fails-written g.H.Host.told g.H.Host.faults _ _ _ _ c.requires c.in-Ok.ensures;
}

pub returns-in-Err : goal.returns-in-Err
returns-in-Err g c = record {
  lacked = λ e. absurd (undumped-lacking _ _ e (sym c.is_dumped.ensures ∙ c.if-not-is_dumped.false));
  plan = λ ne. dumped-plan _ _ _ _ _ _ _ _ _ (sym c.is_dumped.ensures ∙ c.if-not-is_dumped.false) ne refl c.in-Err.ensures;
  causes = fails-lines g.H.Host.told g.H.Host.faults _ _ _ _ c.in-Err.ensures;
}
