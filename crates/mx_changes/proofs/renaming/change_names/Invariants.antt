use Rattle.std.proofs.Common.{◌≡◌, ◌++◌, length}
use Rattle.mx_line.specs.Lines.{lines_of}
use Rattle.mx_changes.specs.Changes.{changed_lines}
use Rattle.mx_changes.proofs.renaming.change_names.Given as goal

abbrev pub invariant-loop-rest : goal.invariant-loop-rest
invariant-loop-rest l =
    changed_lines l.names l.named l.name 1 (lines_of l.source) ≡ l.text ++ changed_lines l.names l.named l.name l.number (lines_of l.rest)

abbrev pub decreases-loop-rest : goal.decreases-loop-rest
decreases-loop-rest l = length l.rest
