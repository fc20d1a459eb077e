-- Items that are walked one after another.
use Rattle.std.proofs.Common.{◌≡◌, ℕ, List, [], ◌∷◌, ◌++◌, append_assoc, refl, sym}
use Rattle.mx_mmo.specs.declared.items.Item.{Item}
unfoldable use Rattle.mx_type.specs.Lambda.{lambda_following}
use Rattle.mx_type.specs.Lambda.{lambda_after}
use Rattle.mx_view.specs.declared.cells.Cell.{Cell}
use Rattle.mx_view.specs.declared.cells.Wanted.{Wanted}
use Rattle.mx_view.specs.Cells.{cell_of, cells_of}

pub lambda-next : (lambda : ℕ) (item : Item) (items : List Item) → lambda_following lambda (item ∷ items) ≡ lambda_following (lambda_after lambda item) items
unfolding lambda_following
lambda-next lambda item items = refl

pub lambda-none : (lambda : ℕ) → lambda_following lambda [] ≡ lambda
unfolding lambda_following
lambda-none lambda = refl

pub cells-next : (w : Wanted) (lambda : ℕ) (item : Item) (items : List Item) (cells : List Cell) →
    cells ++ cells_of w lambda (item ∷ items) ≡ (cells ++ cell_of w lambda item) ++ cells_of w (lambda_after lambda item) items
unfolding cells_of
cells-next w lambda item items cells = sym (append_assoc cells (cell_of w lambda item) _)

pub cells-none : (w : Wanted) (lambda : ℕ) → cells_of w lambda [] ≡ []
unfolding cells_of
cells-none w lambda = refl

pub ruleset turns = (lambda-next, lambda-none, cells-next, cells-none)
