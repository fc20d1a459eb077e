use Rattle.std.proofs.Common.{◌≡◌, map}
use Rattle.std.specs.List.{range_with_len}
use Rattle.mx_ring.specs.Stack.{windowed}
use Rattle.mx_ring.specs.Window.{window_at_start}
use Rattle.mx_core.specs.Bare.{bare}
use Rattle.mx_core.specs.Kept.{state_of}
use Rattle.mx_multi.proofs.multi.bare_machines.Given as goal

abbrev pub invariant-loop-who : goal.invariant-loop-who
invariant-loop-who l = map state_of l.machines.items ≡ map (λ who. bare l.g l.globals l.count who (windowed (window_at_start l.r))) (range_with_len 0 l.who)
