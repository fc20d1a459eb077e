-- Words from a place on.
use Rattle.std.proofs.Common.{◌≡◌, ℕ, ◌+◌, ◌≤◌, ◌<◌, List, [], ◌∷◌, map, length, drop, get_or, ◌∙◌, ap, arith}
use Rattle.std.proofs.Math.ListN.{get_or-map}
use Rattle.std.proofs.lemmas.List.{length-map}
use Rattle.std.proofs.lemmas.List.{drop_more}
use Rattle.std.proofs.lemmas.Grind.{common_steps}

module _ {A B : Type 0} (f : A → B) where
  -- the word at a place, and those after it
  pub word-at : (xs : List A) (i : ℕ) (d : A) → i < length xs → drop i (map f xs) ≡ f (get_or xs i d) ∷ drop (i + 1) (map f xs)
  word-at xs i d lt =
      drop_more (map f xs) i (f d) (omega (arith, lt, length-map xs f)) ∙ ap (λ w. w ∷ drop (i + 1) (map f xs)) (get_or-map f xs i d)

  pub no-word : (xs : List A) (i : ℕ) → length xs ≤ i → drop i (map f xs) ≡ []
  no-word xs i lt = let same : length (map f xs) ≡ length xs = length-map xs f in grind (arith, common_steps)

pub ruleset places = (word-at, no-word)
