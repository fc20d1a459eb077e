use Rattle.std.proofs.Common.{◌≡◌, drop}
use Rattle.mx_stmt.proofs.Words.{trees_of, data_of, data_form, size_bytes, with_rest, known_of, no_targets}
use Rattle.mx_stmt.proofs.data.data_form.Given as goal

abbrev pub invariant-loop-e : goal.invariant-loop-e
invariant-loop-e l =
    with_rest l.«data» (data_of no_targets (known_of l.env) l.line (size_bytes l.size) l.place (trees_of (drop l.e-index l.operands)))
    ≡ data_form no_targets (known_of l.env) l.line (size_bytes l.size) (trees_of l.operands)
