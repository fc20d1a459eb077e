use Rattle.std.proofs.Common.{◌≡◌, ◌+◌, ◌≤◌}
use Rattle.mx_expr.proofs.Words.{tree_of, HasDigits, value_of, knowledge, value_after, nodes, nodes_left, AllHaveDigits}
use Rattle.mx_expr.proofs.valuing.down.Given as goal

abbrev pub invariant-loop-at : goal.invariant-loop-at
invariant-loop-at g l =
    let known = knowledge (g.E.Known.symbols l.env) (g.E.Known.backs l.env) (g.E.Known.at l.env) in
    record {
      value : value_after known l.frames.items (value_of known (tree_of l.at)) ≡ value_after known l.fn.frames.items (value_of known (tree_of l.e));
      digits : HasDigits (tree_of l.at);
      all : AllHaveDigits l.frames.items;
      left : nodes_left l.frames.items + nodes (tree_of l.at) ≤ nodes_left l.fn.frames.items + nodes (tree_of l.e);
    }
