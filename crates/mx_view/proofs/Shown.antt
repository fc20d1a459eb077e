-- What is listed of a source is what is listed line by line.
use Rattle.std.proofs.Common.{◌≡◌, ℕ, ◌+◌, List, [], ◌∷◌, ◌++◌, length, drop, append-nil, append_assoc, length-append, refl, sym, ap, subst, ◌∙◌, None, Some, Ok, Err}
use Rattle.std.proofs.lemmas.List.{drop_at}
use Rattle.mx_line.specs.Lines.{lines_of}
use Rattle.mx_mmo.specs.declared.items.Item.{Item}
use Rattle.mx_type.specs.Lambda.{lambda_after, lambda_following, lambda_of}
use Rattle.mx_asm.specs.Fronts.{GrowsAlike}
use Rattle.mx_asm.specs.OnePass.{Status, beginning, end_following}
use Rattle.mx_asm.specs.Whole.{Line, HasTaken, assembled_lines, assembled_source, lines_items, lines_refusal}
use Rattle.mx_asm.specs.declared.refused.Refused.{Refused}
use Rattle.mx_asm.proofs.InTurn.{none-taken, one-more-taken, one-more-grows, taken-ends}
use Rattle.mx_files.specs.Sources.{source_meaning}
use Rattle.mx_view.specs.declared.cells.Wanted.{Wanted}
use Rattle.mx_view.specs.Cells.{cells_of}
use Rattle.mx_view.specs.Rows.{Meaning, listed}
use Rattle.mx_view.specs.Listing.{added_items, line_cells, line_listed, listed_unless, listed_after, lines_listed}
use Rattle.mx_view.specs.InTurn.{items_at, status_at, listed_at, listed_in_turn, status_after_lines, all_listed, end_of}
use Rattle.mx_view.proofs.LineTurns.{listed-after}

pub lambda-append : (lambda : ℕ) (items more : List Item) → lambda_following lambda (items ++ more) ≡ lambda_following (lambda_following lambda items) more
unfolding lambda_following
lambda-append lambda [] more = refl
lambda-append lambda (item ∷ items) more = lambda-append (lambda_after lambda item) items more

-- the items that a line adds are those that an assembler gives for it
pub grown : (before : List Line) (line : Line) (a : Status) → HasTaken before a → lines_items (before ++ line ∷ []) ≡ lines_items before ++ items_at a line
grown before line a h = by (one-more-grows before line [] a h)
  where
    by : GrowsAlike (lines_items before) (lines_items (before ++ line ∷ [])) [] (items_at a line) → lines_items (before ++ line ∷ []) ≡ lines_items before ++ items_at a line
    by g = g.due ∙ ap (λ x. lines_items before ++ x) (sym g.added)

pub added-is : (before : List Line) (line : Line) (a : Status) → HasTaken before a → added_items before line ≡ items_at a line
added-is before line a h =
    ap (drop (length (lines_items before))) (grown before line a h) ∙ drop_at (lines_items before) (items_at a line) _ refl

pub lambda-is : (before : List Line) (line : Line) (a : Status) → HasTaken before a → lambda_of (lines_items (before ++ line ∷ [])) ≡ lambda_following (lambda_of (lines_items before)) (items_at a line)
lambda-is before line a h = ap lambda_of (grown before line a h) ∙ lambda-append 0 (lines_items before) (items_at a line)

pub cells-are : (w : Wanted) (before : List Line) (line : Line) (a : Status) → HasTaken before a → line_cells w before line ≡ cells_of w (lambda_of (lines_items before)) (items_at a line)
cells-are w before line a h = ap (cells_of w (lambda_of (lines_items before))) (added-is before line a h)

-- where no line before it is refused, and where one is
open-line : (m : Meaning) (w : Wanted) (before : List Line) (line : Line) (a : Status) → HasTaken before a → lines_refusal before ≡ None →
    line_listed m w before line ≡ listed_at m w (length before + 1) (lambda_of (lines_items before)) a line
open-line m w before line a h e =
    ap (λ r. listed_unless r (listed m w (length before + 1) line (line_cells w before line))) e
    ∙ ap (listed m w (length before + 1) line) (cells-are w before line a h)

closed-line : (m : Meaning) (w : Wanted) (before : List Line) (line : Line) (r : Refused) → lines_refusal before ≡ Some r → line_listed m w before line ≡ []
closed-line m w before line r e = ap (λ q. listed_unless q (listed m w (length before + 1) line (line_cells w before line))) e

more-length : (before : List Line) (line : Line) → length (before ++ line ∷ []) ≡ length before + 1
more-length before line = length-append before (line ∷ [])

lines-are : (m : Meaning) (w : Wanted) (later before : List Line) (a : Status) → HasTaken before a →
    listed_after m w before later ≡ listed_in_turn m w (length before + 1) (lambda_of (lines_items before)) a later
unfolding listed_after listed_in_turn
lines-are m w [] before a h = refl
lines-are m w (line ∷ later) before (Ok a) h =
    (λ i. open-line m w before line (Ok a) h (sym h.refusal) i
    ++ (lines-are m w later (before ++ line ∷ []) (status_at (Ok a) line) (one-more-taken before line [] (Ok a) h)
    ∙ (λ j. listed_in_turn m w (more-length before line j + 1) (lambda-is before line (Ok a) h j) (status_at (Ok a) line) later)) i)
lines-are m w (line ∷ later) before (Err r) h =
    (λ i. closed-line m w before line r (sym h.refusal) i
    ++ (lines-are m w later (before ++ line ∷ []) (Err r) (one-more-taken before line [] (Err r) h) ∙ listed-after m w _ _ (Err r) later refl) i)

all-taken : (later before : List Line) (a : Status) → HasTaken before a → HasTaken (before ++ later) (status_after_lines a later)
unfolding status_after_lines
all-taken [] before a h = subst (λ l. HasTaken l a) (sym (append-nil before)) h
all-taken (line ∷ later) before a h =
    subst (λ l. HasTaken l (status_after_lines (status_at a line) later)) (append_assoc before (line ∷ []) later)
    (all-taken later (before ++ line ∷ []) (status_at a line) (one-more-taken before line [] a h))

ends-are : (lines : List Line) → (end_following [] (status_after_lines (Ok beginning) lines)).1 ≡ (assembled_lines lines).1
ends-are lines = taken-ends lines [] (status_after_lines (Ok beginning) lines) (all-taken lines [] (Ok beginning) none-taken)

pub lines-shown : (m : Meaning) (w : Wanted) (source : List ℕ) → m ≡ source_meaning source → all_listed m w (lines_of source) ≡ lines_listed w source
unfolding lines_of lambda_following
lines-shown m w source e =
    (λ i. listed_in_turn (e i) w 1 0 (Ok beginning) (lines_of source))
    ∙ sym (lines-are (source_meaning source) w (lines_of source) [] (Ok beginning) none-taken)

pub end-is : (source : List ℕ) → end_of (lines_of source) ≡ (assembled_source source).1
end-is source = ends-are (lines_of source)

pub ruleset shown = (lines-shown, end-is)
