use Rattle.std.proofs.Common.{◌≡◌, fold, length}
use Rattle.mx_asm.specs.Fitting.{AreFit}
use Rattle.mx_asm.specs.Whole.{line_after}
use Rattle.mx_line.specs.Lines.{lines_of}
use Rattle.mx_files.proofs.emit.take_lines.Given as goal

abbrev pub invariant-loop-rest : goal.invariant-loop-rest
invariant-loop-rest l = record {
  taken : fold line_after (l.fn.items, l.fn.assembler) (lines_of l.text) ≡ fold line_after (l.items, l.assembler) (lines_of l.rest);
  fits : AreFit l.fn.items → AreFit l.items;
}

abbrev pub decreases-loop-rest : goal.decreases-loop-rest
decreases-loop-rest l = length l.rest
