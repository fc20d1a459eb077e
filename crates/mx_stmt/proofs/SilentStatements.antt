-- Statements that place no bytes: where what is known is sound, so are their labels and the registers of GREGs.
use Rattle.std.proofs.Common.{◌≡◌, ◌≤◌, ℕ, List, [], Option, Ok, Err, refl, arith, rules}
use Rattle.mx_stmt.proofs.Words.{IfSome, Value, Tree, Pseudo, Label, Placed, StmtFault, Answer, and_then, IsAllocable, lowest_of, Known, IsPossible, greg_register, label_value, without_bytes, prefix_form, one_form, one_operand, HasRegisterNumber, IsSound}
use Rattle.mx_stmt.specs.declared.placed.Effect.{Effect}
use Rattle.mx_stmt.proofs.RegisterNumbers.{operand-fits}

-- the register of a GREG

allocable : (k : Known) (value reg : ℕ) → 32 ≤ lowest_of k.gregs → greg_register k value ≡ Ok reg → IsAllocable k.gregs reg
allocable k value reg low is = grind arith

-- a label and an effect that are sound
pub record IsFine (gregs : List ℕ) (p : Placed) : Type 0 where
  pub label : IfSome p.label HasRegisterNumber
  pub effect : IsPossible gregs p.effect

pub record IsSilent (k : Known) (p : Placed) : Type 0 where
  pub bytes : p.bytes ≡ []
  pub waits : p.waits ≡ []
  pub fine : IsSound k → IsFine k.gregs p

unfoldable pub AreSilent : Known → Answer Placed → Type 0
AreSilent k (Err fault) = Unit {0}
AreSilent k (Ok p) = IsSilent k p

silent-fault : (k : Known) (fault : StmtFault) → AreSilent k (Err fault)
unfolding AreSilent
silent-fault k fault = tt

silent-then : (k : Known) {A : Type 0} (a : Answer A) (next : A → Answer Placed) → ((x : A) → a ≡ Ok x → AreSilent k (next x)) → AreSilent k (and_then a next)
unfolding AreSilent
silent-then k a next h = grind arith

pub label-fits : (label : Option Label) (value : Value) → HasRegisterNumber value → IfSome (label_value label value) HasRegisterNumber
label-fits label value h = grind arith

silent : (k : Known) (label : Option Label) (value : Value) (effect : Effect) (next : ℕ) → (IsSound k → HasRegisterNumber value) → (IsSound k → IsPossible k.gregs effect) → AreSilent k (without_bytes k label value effect next)
unfolding AreSilent
silent k label value effect next fits possible = record { bytes = refl; waits = refl; fine = λ sound. record { label = label-fits label value (fits sound); effect = possible sound } }

silent-prefix : (k : Known) (label : Option Label) (e : Tree) → AreSilent k (prefix_form k label e)
silent-prefix k label e = search (rules, silent-then, silent, silent-fault)

silent-one : (k : Known) (label : Option Label) (p : Pseudo) (e : Tree) → AreSilent k (one_form k label p e)
silent-one k label p e = search (rules, silent-then, silent, operand-fits, silent-prefix, allocable, silent-fault)

pub silent-operand : (k : Known) (label : Option Label) (p : Pseudo) (operands : List Tree) → AreSilent k (one_operand k label p operands)
silent-operand k label p operands = search (rules, silent-one, silent-fault)
