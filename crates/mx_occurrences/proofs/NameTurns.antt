-- Names that are gathered one after another.
use Rattle.std.proofs.Common.{◌≡◌, List, [], ◌++◌, append-nil, append_assoc}
use Rattle.mx_occurrences.specs.declared.occurrence.Occurrence.{Occurrence}

pub names-join : (xs ys zs : List Occurrence) → (xs ++ ys) ++ zs ≡ xs ++ (ys ++ zs)
names-join xs ys zs = append_assoc xs ys zs

pub names-none : (xs : List Occurrence) → xs ++ [] ≡ xs
names-none xs = append-nil xs

pub ruleset turns = (names-join, names-none)
