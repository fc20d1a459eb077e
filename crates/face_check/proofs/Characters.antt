-- The first bytes of a text.
use Rattle.std.proofs.Common.{◌≡◌, ◌≤◌, ℕ, List, length, take, sym}
use Rattle.std.proofs.lemmas.List.{take_all}

pub front-whole : (count : ℕ) (text : List ℕ) → length text ≤ count → text ≡ take count text
front-whole count text le = sym (take_all count text le)

pub ruleset fronts = (front-whole)
