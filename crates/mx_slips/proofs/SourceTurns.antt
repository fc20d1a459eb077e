-- Statements and lines, one after another.
use Rattle.std.proofs.Common.{◌≡◌, ℕ, ◌+◌, List, [], ◌∷◌, ◌++◌, drop, length, arith, append-nil, append_assoc, refl, sym, Ok, Err}
use Rattle.mx_line.specs.Cutting.{cuts_from}
use Rattle.mx_line.specs.Lines.{lines_of}
use Rattle.mx_line.specs.Pieces.{split}
use Rattle.mx_line.specs.declared.cutter.Cut.{Cut}
use Rattle.mx_line.specs.declared.faults.LineFault.{LineFault}
use Rattle.mx_slips.specs.declared.sources.Statement.{Statement}
use Rattle.mx_slips.specs.declared.sources.SourceLine.{SourceLine}
use Rattle.mx_view.specs.declared.cells.Cell.{Cell}
use Rattle.mx_slips.specs.Loads.{first_cells}
use Rattle.mx_slips.specs.Sources.{line_with, numbered_from, statement_at, statements_in}

pub one-more : (statements : List Statement) (line : List ℕ) (place : ℕ) (cut : Cut) → cuts_from line place ≡ Ok cut ∷ cuts_from line cut.next →
    statements ++ statements_in line (cuts_from line place) ≡ (statements ++ statement_at line cut ∷ []) ++ statements_in line (cuts_from line cut.next)
unfolding statements_in
one-more statements line place cut e = rw e (sym (append_assoc statements (statement_at line cut ∷ []) _))

pub none-cut : (statements : List Statement) (line : List ℕ) (place : ℕ) → cuts_from line place ≡ [] →
    statements ++ statements_in line (cuts_from line place) ≡ statements
unfolding statements_in
none-cut statements line place e = rw e (append-nil statements)

pub faulty-cut : (statements : List Statement) (line : List ℕ) (place : ℕ) (why : LineFault) → cuts_from line place ≡ Err why ∷ [] →
    statements ++ statements_in line (cuts_from line place) ≡ statements
unfolding statements_in
faulty-cut statements line place why e = rw e (append-nil statements)

pub ruleset statements = (one-more, none-cut, faulty-cut)

pub line-next : (lines : List SourceLine) (number : ℕ) (loads : List (List Cell)) (source rest line : List ℕ) → lines_of source ≡ line ∷ lines_of rest →
    lines ++ numbered_from number loads (lines_of source)
    ≡ (lines ++ line_with number (first_cells loads) line ∷ []) ++ numbered_from (number + 1) (drop 1 loads) (lines_of rest)
unfolding numbered_from
line-next lines number loads source rest line e = rw e (sym (append_assoc lines (line_with number (first_cells loads) line ∷ []) _))

no-lines : (source : List ℕ) → length source ≡ 0 → lines_of source ≡ []
unfolding lines_of split
no-lines [] e = refl
no-lines (b ∷ bs) e = absurd (omega arith)

pub line-none : (lines : List SourceLine) (number : ℕ) (loads : List (List Cell)) (source : List ℕ) → length source ≡ 0 →
    lines ++ numbered_from number loads (lines_of source) ≡ lines
unfolding numbered_from
line-none lines number loads source e = rw (no-lines source e) (append-nil lines)

pub ruleset lines = (line-next, line-none)
