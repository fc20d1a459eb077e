-- Answers that are alike.
use Rattle.std.proofs.Common.{◌≡◌, Ok, Err, refl, rules}
use Rattle.mx_stmt.proofs.Words.{StmtFault, Answer, AreAlike, and_then}

module _ {B : Type 0} (R : B → B → Type 0) where
  pub alike-fault : (fault : StmtFault) → AreAlike R (Err fault) (Err fault)
  unfolding AreAlike
  alike-fault fault = refl

  pub alike-values : (x y : B) → R x y → AreAlike R (Ok x) (Ok y)
  unfolding AreAlike
  alike-values x y h = h

  -- the same step, and then others
  pub alike-then : {A : Type 0} (a : Answer A) (f g : A → Answer B) → ((x : A) → a ≡ Ok x → AreAlike R (f x) (g x)) → AreAlike R (and_then a f) (and_then a g)
  unfolding AreAlike
  alike-then a f g h = search rules

  -- steps that are alike, and then others
  pub alike-after : {A : Type 0} (S : A → A → Type 0) (a b : Answer A) (f g : A → Answer B) → AreAlike S a b → ((x y : A) → S x y → AreAlike R (f x) (g y)) → AreAlike R (and_then a f) (and_then b g)
  unfolding AreAlike
  alike-after S a b f g same h = search rules
