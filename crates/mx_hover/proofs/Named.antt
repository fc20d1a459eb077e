-- What is made of the texts of a table is made of its names.
use Rattle.std.proofs.Common.{◌≡◌, ℕ, List, map, sym, ◌∙◌, ap}
use Rattle.std.specs.List.{flat_map}
use Rattle.std.proofs.lemmas.List.Folds.{flat_map-map}

pub named : {A C : Type 0} (f : List ℕ → List C) (text : A → List ℕ) (xs : List A) (names : List (List ℕ)) → map text xs ≡ names → flat_map (λ x. f (text x)) xs ≡ flat_map f names
named f text xs names e = sym (flat_map-map f text xs) ∙ ap (flat_map f) e
