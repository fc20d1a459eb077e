use Rattle.std.proofs.Common.{sym, ◌∙◌, ap}
use Rattle.mx_core.specs.Kept.{state_of}
use Rattle.mx_files.proofs.FileClauses.{part-keeps}
use Rattle.mx_top.specs.Runs.{reached}
use Rattle.mx_top.proofs.LastStates.{count-taken, works-taken}
use Rattle.mx_top.proofs.TakenBack.{unbacked-plan, backed-plan, broken-plan, untaken}
use Rattle.mx_top.proofs.Caused.{fails-after, fails-lines}
use Rattle.mx_top.proofs.last.tell_back.Goals as goal

pub returns-then-not-is_taken_back : goal.returns-then-not-is_taken_back
returns-then-not-is_taken_back g c = record {
  lacked = c.tell_end.ensures.lacked;
  plan = λ ne. unbacked-plan _ _ _ _ _ _ _ (sym c.is_taken_back.ensures ∙ c.if-not-is_taken_back.true) (c.tell_end.ensures.plan ne);
  causes = c.tell_end.ensures.causes;
}

pub returns-in-Ok : goal.returns-in-Ok
returns-in-Ok g c =
    let all = count-taken c.args.order.now.last c.least-count.result c.kept.result c.args.back.now (state_of c.args.machine.now) c.least-count.ensures c.kept.ensures.count in
    let taken = sym c.is_taken_back.ensures ∙ c.if-not-is_taken_back.false in
    record {
      lacked = λ e. absurd (untaken _ e taken);
      plan = λ ne.
          backed-plan _ _ _ _ _ _ _ _ _ _ _ taken (c.in-Ok.ensures.reached ∙ ap (reached _) all) (works-taken _ _ _ _ _ _ _ all c.in-Ok.ensures.written) (c.tell_end-in-Ok.ensures.plan ne);
      causes = fails-after g.H.Host.told g.H.Host.faults _ _ _ _ (part-keeps _ _ _ _ _ _ c.in-Ok.ensures.written) c.tell_end-in-Ok.ensures.causes;
    }

pub returns-in-Err : goal.returns-in-Err
returns-in-Err g c =
    let all = count-taken c.args.order.now.last c.least-count.result c.kept.result c.args.back.now (state_of c.args.machine.now) c.least-count.ensures c.kept.ensures.count in
    let taken = sym c.is_taken_back.ensures ∙ c.if-not-is_taken_back.false in
    record {
      lacked = λ e. absurd (untaken _ e taken);
      plan = λ ne. broken-plan _ _ _ _ _ _ _ _ _ taken (works-taken _ _ _ _ _ _ _ all c.in-Err.ensures.written);
      causes = fails-lines g.H.Host.told g.H.Host.faults _ _ _ _ c.in-Err.ensures.written;
    }
