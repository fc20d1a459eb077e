use Rattle.std.proofs.Common.{◌≡◌, ◌≤◌, ◌-◌, false, length}
use Rattle.mx_asm.proofs.Fronts.{taken_from}
use Rattle.mx_asm.proofs.Words.{line_entries, holds_statement, GrowsFit, entries_taken}
use Rattle.mx_asm.proofs.lines.take_statements.Given as goal

abbrev pub invariant-statements : goal.invariant-statements
invariant-statements l =
    (l.at ≤ length l.text)
    × (taken_from l.line l.text l.at l.out l.assembly ≡ entries_taken (line_entries l.line l.text) l.fn.out l.fn.assembly)
    × (holds_statement l.text ≡ false → l.at ≡ 0)
    × GrowsFit l.fn.out l.out
    × (l.at ≡ 0 → l.assembly ≡ l.fn.assembly)

abbrev pub decreases-statements : goal.decreases-statements
decreases-statements l = length l.text - l.at
