-- Lists of bytes, of tetras and of octas: each number is in its range.
use Rattle.std.specs.Prelude.{ℕ, ◌<◌, ◌^◌, List}
use Rattle.std.specs.List.{AllByRecursion}

abbrev pub AreBytes : List ℕ → Type 0
AreBytes bytes = AllByRecursion (λ b. b < 2 ^ 8) bytes

abbrev pub AreTetras : List ℕ → Type 0
AreTetras tetras = AllByRecursion (λ t. t < 2 ^ 32) tetras

abbrev pub AreOctas : List ℕ → Type 0
AreOctas octas = AllByRecursion (λ x. x < 2 ^ 64) octas
