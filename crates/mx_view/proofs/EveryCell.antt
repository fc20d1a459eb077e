-- The tetras that are shown are those that the items of the lines load.
use Rattle.std.proofs.Common.{◌≡◌, ℕ, List, [], ◌∷◌, ◌++◌, append-nil, append_assoc, refl, sym, ap, ◌∙◌}
use Rattle.mx_mmo.specs.declared.items.Item.{Item}
use Rattle.mx_type.specs.Lambda.{lambda_after, lambda_following}
use Rattle.mx_asm.specs.Whole.{Line, lines_items, lines_taken}
use Rattle.mx_asm.proofs.InTurn.{taken-at}
use Rattle.mx_view.specs.declared.cells.Wanted.{Wanted}
use Rattle.mx_view.specs.Cells.{cell_of, cells_of}
use Rattle.mx_view.specs.Listing.{added_items, line_cells, cells_after}
use Rattle.mx_view.proofs.Shown.{grown, added-is}

pub cells-append : (w : Wanted) (lambda : ℕ) (items more : List Item) → cells_of w lambda (items ++ more) ≡ cells_of w lambda items ++ cells_of w (lambda_following lambda items) more
unfolding cells_of lambda_following
cells-append w lambda [] more = refl
cells-append w lambda (item ∷ items) more =
    ap (λ x. cell_of w lambda item ++ x) (cells-append w (lambda_after lambda item) items more)
    ∙ sym (append_assoc (cell_of w lambda item) (cells_of w (lambda_after lambda item) items) (cells_of w (lambda_following (lambda_after lambda item) items) more))

-- the items of lines are those of the lines before the last one, with what that one adds
pub items-grow : (before : List Line) (line : Line) → lines_items (before ++ line ∷ []) ≡ lines_items before ++ added_items before line
items-grow before line =
    let a = (lines_taken before).1 in
    let taken = taken-at before a refl in
    grown before line a taken ∙ ap (λ x. lines_items before ++ x) (sym (added-is before line a taken))

cells-grow : (w : Wanted) (before : List Line) (line : Line) → cells_of w 0 (lines_items (before ++ line ∷ [])) ≡ cells_of w 0 (lines_items before) ++ line_cells w before line
cells-grow w before line = ap (cells_of w 0) (items-grow before line) ∙ cells-append w 0 (lines_items before) (added_items before line)

cells-from : (w : Wanted) (later before : List Line) → cells_of w 0 (lines_items (before ++ later)) ≡ cells_of w 0 (lines_items before) ++ cells_after w before later
unfolding cells_after
cells-from w [] before = ap (λ l. cells_of w 0 (lines_items l)) (append-nil before) ∙ sym (append-nil _)
cells-from w (line ∷ later) before =
    ap (λ l. cells_of w 0 (lines_items l)) (sym (append_assoc before (line ∷ []) later))
    ∙ cells-from w later (before ++ line ∷ [])
    ∙ ap (λ x. x ++ cells_after w (before ++ line ∷ []) later) (cells-grow w before line)
    ∙ append_assoc (cells_of w 0 (lines_items before)) (line_cells w before line) (cells_after w (before ++ line ∷ []) later)

pub every-cell : (w : Wanted) (lines : List Line) → cells_after w [] lines ≡ cells_of w 0 (lines_items lines)
unfolding cells_of
every-cell w lines = sym (cells-from w lines [])

pub ruleset cells = (every-cell, items-grow)
