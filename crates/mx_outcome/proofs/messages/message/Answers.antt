use Rattle.std.proofs.Common.{◌≡◌, ◌≢◌, ℕ, List, [], ◌∷◌, ◌++◌, OnErr, Ok, Err, codes, decimal}
use Rattle.std.specs.Prelude.{Result}
use Rattle.mx_outcome.proofs.messages.message.Goals as goal

never-empty : (xs : List ℕ) (y : ℕ) (ys : List ℕ) → xs ++ (y ∷ ys) ≢ []
never-empty [] y ys = λ e. absurd (cc)
never-empty (x ∷ xs) y ys = λ e. absurd (cc)

on-err : {A E : Type 0} (r : Result A E) (P : Type 0) → P → OnErr r P
on-err (Ok x) P p = tt
on-err (Err e) P p = p

pub returns-in-StepsSpent-clause-memory : goal.returns-in-StepsSpent-clause-memory
returns-in-StepsSpent-clause-memory c = rw c.in-StepsSpent.is (on-err c.format_spent.result (decimal c.in-StepsSpent.steps ++ codes " steps spent\n" ≢ []) (never-empty (decimal c.in-StepsSpent.steps) 32 (codes "steps spent\n")))
