-- Tetras one after another: the cells of their parts, and their counts.
use Rattle.std.proofs.Common.{◌≡◌, ℕ, true, false, cond, List, [], ◌∷◌, ◌++◌, length, append-nil, append_assoc, arith, sym, ap, ◌∙◌}
use Rattle.mx_view.specs.declared.cells.Cell.{Cell}
use Rattle.mx_count.specs.Counting.{counts_in, kept_tally}
use Rattle.mx_count.specs.InTurn.{no_sums, sum_at, tally_by, with_entries}
use Rattle.mx_count.specs.Sheets.{LineTally}
use Rattle.mx_count.specs.declared.counts.Entry.{Entry}
use Rattle.mx_count.specs.declared.tally.Tally.{Tally}
use Rattle.mx_count.proofs.Summing.{line-is}
use Rattle.mx_object.specs.Counting.{begins_part, cell_of, cells_of, count_of, less, sheet_by}
unfoldable use Rattle.mx_object.specs.Counting.{before_part, counts_of}
use Rattle.mx_object.specs.declared.counting.TetraCount.{TetraCount}
use Rattle.mx_object.specs.declared.tetras.ListedTetra.{ListedTetra}

pub before-more : (cells : List Cell) (t : ListedTetra) (tetras : List ListedTetra) → begins_part t ≡ false →
    cells ++ cells_of (before_part (t ∷ tetras)) ≡ (cells ++ cell_of t ∷ []) ++ cells_of (before_part tetras)
unfolding before_part
before-more cells t tetras e =
    ap (λ b. cells ++ cells_of (cond b [] (t ∷ before_part tetras))) e ∙ sym (append_assoc cells (cell_of t ∷ []) (cells_of (before_part tetras)))

pub before-end : (cells : List Cell) (t : ListedTetra) (tetras : List ListedTetra) → begins_part t ≡ true → cells ++ cells_of (before_part (t ∷ tetras)) ≡ cells
unfolding before_part
before-end cells t tetras e = ap (λ b. cells ++ cells_of (cond b [] (t ∷ before_part tetras))) e ∙ append-nil cells

pub before-none : (cells : List Cell) (rest : List ListedTetra) → length rest ≡ 0 → cells ++ cells_of (before_part rest) ≡ cells
unfolding before_part
before-none cells [] e = append-nil cells
before-none cells (t ∷ rest) e = absurd (omega (arith, e))

pub ruleset parts = (before-more, before-end, before-none)

pub counts-more : (counts : List TetraCount) (tally : LineTally) (t : ListedTetra) (tetras : List ListedTetra) →
    counts ++ counts_of tally (t ∷ tetras) ≡ (counts ++ count_of tally t tetras ∷ []) ++ counts_of tally tetras
unfolding counts_of
counts-more counts tally t tetras = sym (append_assoc counts (count_of tally t tetras ∷ []) (counts_of tally tetras))

pub counts-none : (counts : List TetraCount) (tally : LineTally) (rest : List ListedTetra) → length rest ≡ 0 → counts ++ counts_of tally rest ≡ counts
unfolding counts_of
counts-none counts tally [] e = append-nil counts
counts-none counts tally (t ∷ rest) e = absurd (omega (arith, e))

pub ruleset counts = (counts-more, counts-none)

-- ---- the sheet of tetras

module _ (tetras : List ListedTetra) (es : List Entry) (sums : List (ℕ × Tally)) (same : sum_at sums ≡ with_entries no_sums es) where
  pub counts-are : (counts : List TetraCount) → counts ≡ counts_of (tally_by (sum_at sums)) tetras → counts ≡ (sheet_by (counts_in es) tetras).counts
  counts-are counts is = is ∙ ap (λ (tally : LineTally). counts_of tally tetras) (ap tally_by same ∙ line-is es)

  pub elsewhere-is : (all loaded rest : Tally) → all ≡ kept_tally (λ a. true) es → loaded ≡ tally_by (sum_at sums) (cells_of tetras) → rest ≡ less all loaded → rest ≡ (sheet_by (counts_in es) tetras).elsewhere
  elsewhere-is all loaded rest a l is = is ∙ (λ i. less (a i) ((l ∙ ap (λ (tally : LineTally). tally (cells_of tetras)) (ap tally_by same ∙ line-is es)) i))
