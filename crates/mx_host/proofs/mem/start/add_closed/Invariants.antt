use Rattle.std.proofs.Common.{◌≡◌, ◌++◌, replicate}
use Rattle.mx_host.specs.declared.slots.Slot.TheVariants.{Closed}
use Rattle.mx_host.proofs.mem.start.add_closed.Given as goal

-- one closed slot is added a turn
abbrev pub invariant-loop-at : goal.invariant-loop-at
invariant-loop-at l = l.slots.items ≡ l.fn.slots.items ++ replicate l._at Closed
