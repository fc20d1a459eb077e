use Rattle.std.proofs.Common.{◌≡◌, ◌+◌}
use Rattle.mx_expr.proofs.Words.{tree_of, HasDigits, value_of, knowledge, value_after, nodes, nodes_left, AllHaveDigits}
use Rattle.mx_expr.proofs.valuing.value.Given as goal

abbrev pub invariant-loop-frames : goal.invariant-loop-frames
invariant-loop-frames g l =
    let known = knowledge (g.E.Known.symbols l.env) (g.E.Known.backs l.env) (g.E.Known.at l.env) in
    record {
      value : value_after known l.frames.items (value_of known (tree_of l.at)) ≡ value_of known (tree_of l.e);
      digits : HasDigits (tree_of l.at);
      all : AllHaveDigits l.frames.items;
    }

abbrev pub decreases-loop-frames : goal.decreases-loop-frames
decreases-loop-frames g l = nodes_left l.frames.items + nodes (tree_of l.at)
