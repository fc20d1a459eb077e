use Rattle.std.proofs.Common.{ap, ◌∙◌}
use Rattle.mx_core.specs.Deeds.{onward}
use Rattle.mx_core.specs.State.{State}
use Rattle.mx_core.proofs.machine.Machine.put_link_if_usual.Goals as goal

pub returns-clause-puts : goal.returns-clause-puts
returns-clause-puts c = λ t. record {
  value = c.z_operand.result;
  next = c.next.result;
  is = c.go_to.ensures ∙ ap (λ (u : State). onward u c.next.result) c.put.ensures.state;
}
