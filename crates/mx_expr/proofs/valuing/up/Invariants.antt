use Rattle.std.proofs.Common.{◌≡◌, ◌≤◌, Ok, vec_len}
use Rattle.mx_expr.proofs.Words.{Knowledge, value_after, nodes_left, AllHaveDigits}
use Rattle.mx_expr.proofs.valuing.up.Given as goal

abbrev pub invariant-loop-frame : goal.invariant-loop-frame
invariant-loop-frame l = record {
  value : (known : Knowledge) → value_after known l.frames.items (Ok l.value) ≡ value_after known l.fn.frames.items (Ok l.fn.first);
  all : AllHaveDigits l.frames.items;
  left : nodes_left l.frames.items ≤ nodes_left l.fn.frames.items;
}

abbrev pub decreases-loop-frame : goal.decreases-loop-frame
decreases-loop-frame l = vec_len l.frames
