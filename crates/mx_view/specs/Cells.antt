-- The cells of a listing: the tetras that the items of a line load, each at the address that lambda leads to. (MMIXware,
-- "MMIX Object Format" in MMIXAL.)
use Rattle.std.specs.Prelude.{ℕ, ◌==◌, Bool, true, List, [], ◌∷◌, ◌++◌, if◌then◌else◌}
use Rattle.mx_mmo.specs.declared.items.Item.{Item}
use Rattle.mx_mmo.specs.declared.items.Item.TheVariants.{Load}
use Rattle.mx_type.specs.Lambda.{lambda_after}
use Rattle.mx_type.specs.Lines.{tetra_address}
use Rattle.mx_view.specs.declared.cells.Cell.{Cell}
use Rattle.mx_view.specs.declared.cells.Wanted.{Wanted}
use Rattle.mx_view.specs.declared.cells.Wanted.TheVariants.{All, Holding}

-- whether the tetra at an address is wanted: all are, or the one that holds an address
abbrev pub is_wanted : Wanted → ℕ → Bool
is_wanted All a = true
is_wanted (Holding b) a = tetra_address b == a

-- a tetra at its address, if it is wanted
abbrev pub cell_at : Wanted → ℕ → ℕ → List Cell
cell_at wanted a t = if is_wanted wanted a then record { address = a; tetra = t } ∷ [] else []

abbrev pub cell_of : Wanted → ℕ → Item → List Cell
cell_of wanted lambda (Load t) = cell_at wanted (tetra_address lambda) t
cell_of wanted lambda item = []

-- the wanted tetras that items load, where lambda is an address before the first of them
unfoldable pub cells_of : Wanted → ℕ → List Item → List Cell
cells_of wanted lambda [] = []
cells_of wanted lambda (item ∷ more) = cell_of wanted lambda item ++ cells_of wanted (lambda_after lambda item) more
