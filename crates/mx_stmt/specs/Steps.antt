-- One step after another: the first fault counts.
use Rattle.std.specs.Prelude.{◌≡◌, ◌≢◌, Result, Ok, Err}
use Rattle.mx_stmt.specs.declared.faults.StmtFault.{StmtFault}
use Rattle.mx_stmt.specs.declared.faults.StmtFault.TheVariants.{OutOfMemory}

abbrev pub Answer : Type 0 → Type 0
Answer A = Result A StmtFault

-- The answer is this one, unless there was no memory.
abbrev pub Answers : {A : Type 0} → Answer A → Answer A → Type 0
Answers result answer = result ≢ Err OutOfMemory → result ≡ answer

-- a step, and a later one with its value
abbrev pub and_then : {A B : Type 0} → Answer A → (A → Answer B) → Answer B
and_then (Err fault) next = Err fault
and_then (Ok x) next = next x

-- Two answers are alike where they are one fault, or two values that are related.
unfoldable pub AreAlike : {A : Type 0} → (A → A → Type 0) → Answer A → Answer A → Type 0
AreAlike R (Ok x) (Ok y) = R x y
AreAlike R (Err f) (Err g) = f ≡ g
AreAlike R (Ok x) (Err g) = ⊥
AreAlike R (Err f) (Ok y) = ⊥
