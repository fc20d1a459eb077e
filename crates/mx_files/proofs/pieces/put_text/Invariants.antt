use Rattle.std.proofs.Common.{length}
use Rattle.mx_files.specs.Clauses.{Leaves}
use Rattle.mx_files.specs.FilePlans.{text_plan}
use Rattle.mx_files.proofs.pieces.put_text.Given as goal

-- the text that is left is left to write
abbrev pub invariant-loop-rest : goal.invariant-loop-rest
invariant-loop-rest g l =
    Leaves (g.H.Host.told l.fn.host) (g.H.Host.told l.host) (g.H.Host.faults l.fn.host) (g.H.Host.faults l.host)
    (text_plan l.fn.slot l.rest) (text_plan l.fn.slot l.text)

abbrev pub decreases-loop-rest : goal.decreases-loop-rest
decreases-loop-rest g l = length l.rest
