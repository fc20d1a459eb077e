-- The tetras of lines, one line after another.
use Rattle.std.proofs.Common.{◌≡◌, ℕ, List, [], ◌∷◌, ◌++◌, length, append-nil, append_assoc, refl, sym, ap, ◌∙◌, Ok}
use Rattle.mx_line.specs.Lines.{lines_of}
use Rattle.mx_type.specs.Lambda.{lambda_following, lambda_of}
use Rattle.mx_asm.specs.OnePass.{Status, beginning}
use Rattle.mx_asm.specs.Whole.{HasTaken, Line, lines_items}
use Rattle.mx_asm.proofs.InTurn.{none-taken, one-more-taken}
use Rattle.mx_view.specs.declared.cells.Cell.{Cell}
use Rattle.mx_view.specs.declared.cells.Wanted.TheVariants.{All}
use Rattle.mx_view.specs.InTurn.{items_at, status_at}
use Rattle.mx_view.specs.Listing.{line_cells}
use Rattle.mx_view.specs.Loads.{load_at, loads_after, loads_in_turn, loads_of}
use Rattle.mx_view.proofs.LineTurns.{no-lines}
use Rattle.mx_view.proofs.Shown.{cells-are, lambda-is}

pub loads-next : (loads : List (List Cell)) (lambda : ℕ) (a : Status) (source rest : List ℕ) (line : Line) → lines_of source ≡ line ∷ lines_of rest →
    loads ++ loads_in_turn lambda a (lines_of source)
    ≡ (loads ++ load_at lambda a line ∷ []) ++ loads_in_turn (lambda_following lambda (items_at a line)) (status_at a line) (lines_of rest)
unfolding loads_in_turn
loads-next loads lambda a source rest line e = rw e (sym (append_assoc loads (load_at lambda a line ∷ []) _))

pub loads-none : (loads : List (List Cell)) (lambda : ℕ) (a : Status) (source : List ℕ) → length source ≡ 0 → loads ++ loads_in_turn lambda a (lines_of source) ≡ loads
unfolding loads_in_turn
loads-none loads lambda a source e = rw (no-lines source e) (append-nil loads)

pub ruleset turns = (loads-next, loads-none)

loads-are : (later before : List Line) (a : Status) → HasTaken before a → loads_in_turn (lambda_of (lines_items before)) a later ≡ loads_after before later
unfolding loads_after loads_in_turn
loads-are [] before a h = refl
loads-are (line ∷ later) before a h =
    (λ i. sym (cells-are All before line a h) i ∷ loads_in_turn (sym (lambda-is before line a h) i) (status_at a line) later)
    ∙ ap (λ l. line_cells All before line ∷ l) (loads-are later (before ++ line ∷ []) (status_at a line) (one-more-taken before line [] a h))

pub all-loads : (source : List ℕ) → loads_in_turn 0 (Ok beginning) (lines_of source) ≡ loads_of source
unfolding lines_of lambda_following
all-loads source = loads-are (lines_of source) [] (Ok beginning) none-taken

pub ruleset whole = (all-loads)
