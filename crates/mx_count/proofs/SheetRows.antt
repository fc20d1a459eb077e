-- The lines of a sheet, one after another, and its text.
use Rattle.std.proofs.Common.{◌≡◌, ℕ, ◌+◌, true, List, [], ◌∷◌, ◌++◌, length, drop, flat_map, append-nil, append_assoc, sym, ap, ◌∙◌}
use Rattle.mx_line.specs.Lines.{lines_of}
use Rattle.mx_view.proofs.LineTurns.{no-lines}
use Rattle.mx_view.specs.declared.cells.Cell.{Cell}
use Rattle.mx_count.specs.Counting.{counts_in, kept_tally}
use Rattle.mx_count.specs.InTurn.{no_sums, sum_at, tally_by, with_entries}
use Rattle.mx_count.specs.Sheets.{LineTally, counted_lines, first_load, heading, last_row, line_row, line_with, sheet_data, sheet_text}
use Rattle.mx_count.specs.declared.counts.Entry.{Entry}
use Rattle.mx_count.specs.declared.lines.CountedLine.{CountedLine}
use Rattle.mx_count.specs.declared.lines.LineSheet.{LineSheet}
use Rattle.mx_count.specs.declared.tally.Tally.{Tally}
use Rattle.mx_count.proofs.Summing.{line-is}

-- ---- as data

pub lines-next : (before : List CountedLine) (tally : LineTally) (n : ℕ) (source rest line : List ℕ) (loads : List (List Cell)) → lines_of source ≡ line ∷ lines_of rest →
    before ++ counted_lines tally n (lines_of source) loads
    ≡ (before ++ line_with n line (first_load loads) (tally (first_load loads)) ∷ []) ++ counted_lines tally (n + 1) (lines_of rest) (drop 1 loads)
unfolding counted_lines
lines-next before tally n source rest line loads e = rw e (sym (append_assoc before (line_with n line (first_load loads) (tally (first_load loads)) ∷ []) _))

pub lines-none : (before : List CountedLine) (tally : LineTally) (n : ℕ) (source : List ℕ) (loads : List (List Cell)) → length source ≡ 0 →
    before ++ counted_lines tally n (lines_of source) loads ≡ before
unfolding counted_lines
lines-none before tally n source loads e = rw (no-lines source e) (append-nil before)

pub ruleset lines = (lines-next, lines-none)

pub data-is : (source : List ℕ) (loads : List (List Cell)) (es : List Entry) (sums : List (ℕ × Tally)) (all : Tally) (none lines : List CountedLine) →
    sum_at sums ≡ with_entries no_sums es → all ≡ kept_tally (λ a. true) es → none ≡ [] → lines ≡ none ++ counted_lines (tally_by (sum_at sums)) 1 (lines_of source) loads →
    ◌≡◌ {A = LineSheet} (record { lines = lines; total = all }) (sheet_data source loads (counts_in es))
data-is source loads es sums all none lines s a begun is =
    λ i. record {
      lines = (is ∙ (λ j. begun j ++ counted_lines ((ap tally_by s ∙ line-is es) j) 1 (lines_of source) loads)) i;
      total = a i;
    }

pub ruleset whole = (data-is)

-- ---- as a text

pub text-is : (s : LineSheet) (head rows last : List ℕ) → head ≡ heading → rows ≡ head ++ flat_map line_row s.lines → last ≡ rows ++ last_row s.total → last ≡ sheet_text s
unfolding sheet_text
text-is s head rows last h r l = l ∙ ap (λ x. x ++ last_row s.total) (r ∙ ap (λ x. x ++ flat_map line_row s.lines) h)
