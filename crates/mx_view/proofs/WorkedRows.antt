-- The definitions on worked rows.
use Rattle.std.proofs.Common.{◌≡◌, [], ◌∷◌, refl, codes}
use Rattle.mx_mmo.specs.declared.items.Item.TheVariants.{Load, Loc, Line}
use Rattle.mx_view.specs.declared.cells.Wanted.TheVariants.{All, Holding}
use Rattle.mx_view.specs.Cells.{cells_of}
use Rattle.mx_view.specs.Rows.{padded}

-- lambda leads each tetra to its address, a multiple of 4
two-tetras : cells_of All 0 (Loc 0x102 ∷ Line 3 ∷ Load 7 ∷ Load 8 ∷ []) ≡ record { address = 0x100; tetra = 7 } ∷ record { address = 0x104; tetra = 8 } ∷ []
unfolding cells_of
two-tetras = refl

one-of-two : cells_of (Holding 0x107) 0 (Loc 0x100 ∷ Load 7 ∷ Load 8 ∷ []) ≡ record { address = 0x104; tetra = 8 } ∷ []
unfolding cells_of
one-of-two = refl

padded-number : padded (codes "42") ≡ codes "   42"
padded-number = refl

long-number : padded (codes "123456") ≡ codes "123456"
long-number = refl
