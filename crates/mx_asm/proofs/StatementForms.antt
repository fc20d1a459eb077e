-- What a statement that is placed comes to, by its operation, and what always holds of it.
use Rattle.std.proofs.Common.{◌≡◌, ◌≤◌, ℕ, ◌+◌, cond, nat_lt, List, [], ◌∷◌, length, Option, Ok, Err, None, Some, rules, Result, arith}
use Rattle.mx_asm.proofs.Words.{cond_both, ltb-false, Value, Pure, Reg, Wait, Tree, name, Op, Pseudo, Label, Effect, Placed, Answer, and_then, greg_register, Known, Targets, operand_value, pure_at, register_at, StatementTree, alignment, known_at_place, label_value, complete_symbol, one_form, one_operand, pseudo_form, op_form, encoding, IfPlaced, nat_tests, NameFault, AreNames, IsFullName, symbol_answer, IsPlaced, common_steps}
use Rattle.mx_ops.specs.declared.op.Pseudo.TheVariants as pseudo
use Rattle.mx_stmt.specs.declared.placed.Effect.TheVariants as effect
use Rattle.mx_stmt.specs.declared.faults.StmtFault.TheVariants.{BadPlace}

-- ---- what a statement that is placed comes to, by its operation: bytes at the place, or a label and an effect

abbrev pub laid : Known → Option Label → List ℕ → List Wait → Placed
laid k label bytes waits = record { start = k.at; bytes = bytes; waits = waits; label = label_value label (Pure k.at); effect = effect.Plain; after = k.at + length bytes }

abbrev pub silent : Known → Option Label → Value → Effect → ℕ → Placed
silent k label value e next = record { start = k.at; bytes = []; waits = []; label = label_value label value; effect = e; after = next }

pub data Comes (k : Known) (label : Option Label) (operands : List Tree) : Placed → Type 0 where
  placed : (bytes : List ℕ) (waits : List Wait) → k.at + length bytes ≤ 0x6000_0000_0000_0000 → Comes k label operands (laid k label bytes waits)
  by_is : (e : Tree) (value : Value) → operands ≡ e ∷ [] → operand_value k e ≡ Ok value → Comes k label operands (silent k label value effect.Plain k.at)
  by_loc : (e : Tree) (next : ℕ) → operands ≡ e ∷ [] → pure_at k e ≡ Ok next → Comes k label operands (silent k label (Pure k.at) effect.Plain next)
  by_prefix : (text full : List ℕ) → operands ≡ name text ∷ [] → complete_symbol k text ≡ Ok full → Comes k label operands (silent k label (Pure k.at) (effect.Prefix full) k.at)
  by_greg : (e : Tree) (value reg : ℕ) → operands ≡ e ∷ [] → pure_at k e ≡ Ok value → greg_register k value ≡ Ok reg → Comes k label operands (silent k label (Reg reg) (effect.Greg reg value) k.at)
  by_local : (e : Tree) (reg : ℕ) → operands ≡ e ∷ [] → register_at k e ≡ Ok reg → Comes k label operands (silent k label (Pure k.at) (effect.Local reg) k.at)

module _ (k : Known) (label : Option Label) (operands : List Tree) where
  abbrev Come : Answer Placed → Type 0
  Come r = IfPlaced (Comes k label operands) r

  then-comes : {A : Type 0} (r : Answer A) (next : A → Answer Placed) → ((x : A) → r ≡ Ok x → Come (next x)) → Come (and_then r next)
  then-comes r next h = search rules

  bytes-come : (bytes : List ℕ) (waits : List Wait) → Come (cond (nat_lt 0x6000_0000_0000_0000 (k.at + length bytes)) (Err BadPlace) (Ok (laid k label bytes waits)))
  bytes-come bytes waits = cond_both (nat_lt 0x6000_0000_0000_0000 (k.at + length bytes)) _ _ Come (λ _. tt) (λ e. placed bytes waits (ltb-false _ _ e))

  one-comes : (p : Pseudo) (e : Tree) → operands ≡ e ∷ [] → Come (one_form k label p e)
  one-comes pseudo.Is e o = then-comes (operand_value k e) _ (λ value is. by_is e value o is)
  one-comes pseudo.Loc e o = then-comes (pure_at k e) _ (λ next is. by_loc e next o is)
  one-comes pseudo.Prefix (name text) o = then-comes (complete_symbol k text) _ (λ full is. by_prefix text full o is)
  one-comes pseudo.Greg e o = then-comes (pure_at k e) _ (λ value is. then-comes (greg_register k value) _ (λ reg found. by_greg e value reg o is found))
  one-comes pseudo.Local e o = then-comes (register_at k e) _ (λ reg is. by_local e reg o is)
  one-comes p e o = tt

  operand-comes : (p : Pseudo) (l : List Tree) → operands ≡ l → Come (one_operand k label p l)
  operand-comes p l o = grind (arith, one-comes)

  pseudo-comes : (t : Targets) (line : ℕ) (p : Pseudo) → Come (pseudo_form t k line label p operands)
  pseudo-comes t line p = grind (arith, then-comes, bytes-come, operand-comes)

  op-comes : (t : Targets) (line : ℕ) (op : Op) → Come (op_form t k line label op operands)
  op-comes t line op = grind (arith, pseudo-comes, then-comes, bytes-come)

pub if-placed : (P : Placed → Type 0) (r : Answer Placed) (p : Placed) → IfPlaced P r → r ≡ Ok p → P p
if-placed P r p h is = search rules

-- what is known where a statement lies
abbrev pub at_place : Known → StatementTree → Known
at_place k s = known_at_place (alignment s.op) k

pub encoding-comes : (t : Targets) (k : Known) (s : StatementTree) (p : Placed) → encoding t k s ≡ Ok p → Comes (at_place k s) s.label s.operands p
encoding-comes t k s p is = if-placed (Comes (at_place k s) s.label s.operands) (encoding t k s) p (op-comes (at_place k s) s.label s.operands t s.line s.op) is

-- ---- a statement that is placed has a value for its label exactly where it has a label

abbrev pub HasLabel : Option Label → Option Value → Type 0
HasLabel None None = Unit {0}
HasLabel None (Some value) = ⊥
HasLabel (Some label) None = ⊥
HasLabel (Some label) (Some value) = Unit {0}

has-value : (label : Option Label) (value : Value) → HasLabel label (label_value label value)
has-value label value = search rules

has-label : (k : Known) (label : Option Label) (operands : List Tree) (p : Placed) → Comes k label operands p → HasLabel label p.label
has-label k label operands p h = search (rules, has-value)

pub encoding-label : (t : Targets) (k : Known) (s : StatementTree) (p : Placed) → encoding t k s ≡ Ok p → HasLabel s.label p.label
encoding-label t k s p is = has-label _ s.label s.operands p (encoding-comes t k s p is)

-- ---- what always holds of a statement that is placed

-- ---- PREFIX

pub answer-full : (r : Result (List ℕ) NameFault) (full : List ℕ) → symbol_answer r ≡ Ok full → r ≡ Ok full
answer-full r full h = grind (arith, nat_tests)

-- ---- each operation

placed-well : (k : Known) (label : Option Label) (operands : List Tree) (p : Placed) → IsFullName k.names.prefix → length k.gregs ≤ 223 → Comes k label operands p → IsPlaced k.gregs p
placed-well k label operands _ prefix few (placed bytes waits low) = record { effect = tt; low = λ some. omega (arith, low) }
placed-well k label operands _ prefix few (by_prefix text full o is) = grind (arith, common_steps, nat_tests)
placed-well k label operands _ prefix few (by_greg e value reg o is found) = grind (arith, nat_tests)
placed-well k label operands _ prefix few c = record { effect = tt; low = λ some. absurd (omega (arith, some)) }

-- only the prefix of the names counts
pub encoding-prefixed : (t : Targets) (k : Known) (s : StatementTree) (p : Placed) → IsFullName k.names.prefix → length k.gregs ≤ 223 → encoding t k s ≡ Ok p → IsPlaced k.gregs p
encoding-prefixed t k s p prefix few is = placed-well (at_place k s) s.label s.operands p prefix few (encoding-comes t k s p is)

pub encoding-placed : (t : Targets) (k : Known) (s : StatementTree) (p : Placed) → AreNames k.names → length k.gregs ≤ 223 → encoding t k s ≡ Ok p → IsPlaced k.gregs p
encoding-placed t k s p names few is = encoding-prefixed t k s p names.prefix few is
