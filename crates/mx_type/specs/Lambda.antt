-- Lambda, the address where the next tetra of an object is loaded (MMIXware, "MMIX Object Format" in MMIXAL).
use Rattle.std.specs.Prelude.{ℕ, ◌+◌, ◌*◌, ◌/◌, ◌%◌, ◌^◌, List, [], ◌∷◌}
use Rattle.mx_mmo.specs.declared.items.Item.{Item}
use Rattle.mx_mmo.specs.declared.items.Item.TheVariants.{Load, Loc, Skip}

-- lambda after one item more: a loaded tetra leads to the next multiple of 4, `loc` and `skip` set and move it, and
-- nothing else does; addresses are modulo 2^64
abbrev pub lambda_after : ℕ → Item → ℕ
lambda_after lambda (Load t) = (4 * (lambda / 4) + 4) % 2 ^ 64
lambda_after lambda (Loc a) = a
lambda_after lambda (Skip n) = (lambda + n) % 2 ^ 64
lambda_after lambda _ = lambda

-- lambda after items, where it was an address before the first of them
unfoldable pub lambda_following : ℕ → List Item → ℕ
lambda_following lambda [] = lambda
lambda_following lambda (item ∷ more) = lambda_following (lambda_after lambda item) more

-- lambda after the items of an object; it starts at 0
abbrev pub lambda_of : List Item → ℕ
lambda_of items = lambda_following 0 items
