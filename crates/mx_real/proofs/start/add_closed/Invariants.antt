use Rattle.std.proofs.Common.{◌≡◌, ◌++◌, replicate}
use Rattle.mx_real.specs.declared.streams.Stream.TheVariants.{Closed}
use Rattle.mx_real.proofs.start.add_closed.Given as goal

-- one closed slot is added a turn
abbrev pub invariant-loop-at : goal.invariant-loop-at
invariant-loop-at g l = l.streams.items ≡ l.fn.streams.items ++ replicate l._at Closed
