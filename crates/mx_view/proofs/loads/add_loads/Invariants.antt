use Rattle.std.proofs.Common.{◌≡◌, ◌++◌, length}
use Rattle.mx_line.specs.Lines.{lines_of}
use Rattle.mx_view.specs.Loads.{loads_in_turn}
use Rattle.mx_view.proofs.loads.add_loads.Given as goal

abbrev pub invariant-loop-rest : goal.invariant-loop-rest
invariant-loop-rest l =
    l.fn.loads ++ loads_in_turn 0 l.fn.assembler (lines_of l.source) ≡ l.loads ++ loads_in_turn l.lambda l.assembler (lines_of l.rest)

abbrev pub decreases-loop-rest : goal.decreases-loop-rest
decreases-loop-rest l = length l.rest
