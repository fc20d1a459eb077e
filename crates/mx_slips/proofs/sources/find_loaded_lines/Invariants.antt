use Rattle.std.proofs.Common.{◌≡◌, ◌++◌, length}
use Rattle.mx_line.specs.Lines.{lines_of}
use Rattle.mx_slips.specs.Sources.{numbered_from}
use Rattle.mx_slips.proofs.sources.find_loaded_lines.Given as goal

abbrev pub invariant-loop-rest : goal.invariant-loop-rest
invariant-loop-rest l =
    numbered_from 1 l.loads (lines_of l.source) ≡ l.lines ++ numbered_from l.number l.left (lines_of l.rest)

abbrev pub decreases-loop-rest : goal.decreases-loop-rest
decreases-loop-rest l = length l.rest
