use Rattle.std.proofs.Common.{◌≡◌, ◌-◌, ◌≤◌, max, length, take}
use Rattle.std.specs.Vec.{vec_capacity}
use Rattle.mx_registers.proofs.list.lengthen.Given as goal

abbrev pub decreases-loop-list : goal.decreases-loop-list
decreases-loop-list l = l.n - length l.list.items

abbrev pub invariant-loop-list : goal.invariant-loop-list
invariant-loop-list l = (take (length l.fn.list.items) l.list.items ≡ l.fn.list.items) × (length l.list.items ≤ max l.n (length l.fn.list.items)) × (length l.fn.list.items ≤ length l.list.items) × (vec_capacity l.fn.list ≤ vec_capacity l.list)
