use Rattle.std.proofs.Common.{◌≡◌, drop}
use Rattle.mx_expr.proofs.Words.{trees_of, steps, start, mode_of, all_waiting}
use Rattle.mx_expr.proofs.parsing.read.Given as goal

abbrev pub invariant-loop-b : goal.invariant-loop-b
invariant-loop-b l =
    steps (record { mode = mode_of l.mode; waiting = all_waiting l.reader.waiting; depth = l.reader.depth; done = trees_of l.reader.done }) (drop l.b-index l.field) ≡ steps start l.field
