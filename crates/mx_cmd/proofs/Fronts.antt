-- Fronts of one kind of bytes.
use Rattle.std.proofs.Common.{◌≡◌, ℕ, ◌≤◌, List, length, take, Bool, arith, ap}
use Rattle.std.specs.List.{prefix_len}
use Rattle.std.proofs.lemmas.List.{length-take}
use Rattle.std.proofs.lemmas.List.Folds.{length-prefix_len}
use Rattle.mx_cmd.specs.Numerals.{front}

pub front-length : (kind : ℕ → Bool) (text : List ℕ) → length (front kind text) ≡ prefix_len kind text
front-length kind text = let most = length-prefix_len kind text in omega (arith, length-take (prefix_len kind text) text)

pub front-few : (kind : ℕ → Bool) (text : List ℕ) → length (front kind text) ≤ length text
front-few kind text = omega (arith, length-take (prefix_len kind text) text)

pub front-take : (kind : ℕ → Bool) (text : List ℕ) → take (length (front kind text)) text ≡ front kind text
front-take kind text = ap (λ n. take n text) (front-length kind text)

pub ruleset fronts = (front-few, front-take)
