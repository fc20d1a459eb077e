use Rattle.std.proofs.Common.{◌≡◌, ◌++◌, true, length}
use Rattle.std.specs.Result.{is_ok}
use Rattle.mx_line.specs.Lines.{lines_of}
use Rattle.mx_view.specs.InTurn.{listed_in_turn, status_after_lines}
use Rattle.mx_view.specs.Rows.{meaning_in}
use Rattle.mx_view.proofs.turns.add_lines.Given as goal

abbrev pub invariant-loop-rest : goal.invariant-loop-rest
invariant-loop-rest l = record {
  open_still : is_ok l.assembler ≡ true;
  listed : l.fn.lines ++ listed_in_turn (meaning_in l.meaning) l.wanted 1 0 l.fn.assembler (lines_of l.source)
      ≡ l.lines ++ listed_in_turn (meaning_in l.meaning) l.wanted l.number l.lambda l.assembler (lines_of l.rest);
  status : status_after_lines l.fn.assembler (lines_of l.source) ≡ status_after_lines l.assembler (lines_of l.rest);
}

abbrev pub decreases-loop-rest : goal.decreases-loop-rest
decreases-loop-rest l = length l.rest
