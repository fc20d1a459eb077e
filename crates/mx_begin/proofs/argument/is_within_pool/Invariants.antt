use Rattle.std.proofs.Common.{◌≤◌, ◌<◌, ◌+◌, ◌^◌, take}
use Rattle.std.specs.List.{sum_by}
use Rattle.mx_begin.proofs.Pools.{room}
use Rattle.mx_begin.proofs.argument.is_within_pool.Given as goal

-- the sum so far, if it is below the limit
abbrev pub invariant-loop-argument : goal.invariant-loop-argument
invariant-loop-argument l = l.size < 2 ^ 60 → 16 + sum_by room (take l.argument-index l.arguments) ≤ l.size
