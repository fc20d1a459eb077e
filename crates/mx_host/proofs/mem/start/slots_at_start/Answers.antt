use Rattle.std.proofs.Common.{◌∙◌, ap, ◌++◌}
use Rattle.mx_host.specs.HostModel.{standard_streams}
use Rattle.mx_host.proofs.Start.{start_slots-is}
use Rattle.mx_host.proofs.mem.start.slots_at_start.Goals as goal

-- what was added to the empty list, one after another
pub returns : goal.returns
returns c =
    start_slots-is _ _ _ (c.in_ok-add_streams.ensures ∙ ap (λ l. l ++ standard_streams) c.new-slots.ensures.items) (c.in_ok-add_closed.ensures) (c.in_ok-add_streams-2.ensures)
