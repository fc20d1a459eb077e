use Rattle.std.proofs.Common.{Err, ap, sym, ◌∙◌}
use Rattle.mx_host.proofs.Keeping.{keeps-all}
use Rattle.mx_outcome.specs.declared.outcome.Outcome.TheVariants.{Usage}
use Rattle.mx_top.proofs.Ordered.{order-heard, usage-heard}
use Rattle.mx_top.proofs.WorkParts.{ordered-work, usage-plan}
use Rattle.mx_top.proofs.Caused.{not-usage, same-words, same-usage}
use Rattle.mx_top.proofs.top.do_command.Goals as goal

pub returns-in-Ok-clause-both : goal.returns-in-Ok-clause-both
returns-in-Ok-clause-both g c = ordered-work _ _ _ _ _ _ c.in-Ok.ensures.value c.carry_order.ensures.part.both

pub returns-in-Ok-clause-heard : goal.returns-in-Ok-clause-heard
returns-in-Ok-clause-heard g c = order-heard _ _ _ _ _ _ _ _ _ c.in-Ok.ensures.value c.carry_order.ensures.heard

pub returns-in-Err-clause-both : goal.returns-in-Err-clause-both
returns-in-Err-clause-both g c = usage-plan _ _ _ _ c.in-Err.ensures.value

pub returns-in-Err-clause-heard : goal.returns-in-Err-clause-heard
returns-in-Err-clause-heard g c = usage-heard _ _ _ _ _ _ _ c.in-Err.ensures.value

pub returns-in-Ok-clause-causes : goal.returns-in-Ok-clause-causes
returns-in-Ok-clause-causes g c =
    let said = c.carry_order.ensures.part.causes in
    record {
      usage = λ fault e ne. absurd (cc (e, c.in-Ok.ensures.value));
      only_usage = λ fault e. absurd (not-usage _ fault said.2 e);
      host_fault = said.0;
      no_file = said.1;
      keeps = said.3;
    }

pub returns-in-Err-clause-causes : goal.returns-in-Err-clause-causes
returns-in-Err-clause-causes g c = record {
  usage = λ fault e ne. ap Usage (same-words _ _ fault (sym c.in-Err.ensures.value) e);
  only_usage = λ fault e. sym c.in-Err.ensures.value ∙ ap Err (same-usage _ fault e);
  host_fault = λ had e. absurd (cc);
  no_file = λ n e. absurd (cc);
  keeps = keeps-all _ _;
}
