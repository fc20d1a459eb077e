use Rattle.std.proofs.Common.{◌≡◌, ◌++◌, length}
use Rattle.std.specs.List.{flat_map}
use Rattle.mx_line.specs.Lines.{lines_of}
use Rattle.mx_changes.specs.Layouts.{edits_from, laid_text, with_newline}
use Rattle.mx_changes.proofs.formatting.lay_out.Given as goal

-- the lines that are left are left to lay out
abbrev pub invariant-loop-rest : goal.invariant-loop-rest
invariant-loop-rest l = record {
  text : laid_text l.source ≡ l.text ++ flat_map with_newline (lines_of l.rest);
  edits : edits_from 1 (lines_of l.source) ≡ l.edits ++ edits_from l.number (lines_of l.rest);
}

abbrev pub decreases-loop-rest : goal.decreases-loop-rest
decreases-loop-rest l = length l.rest
