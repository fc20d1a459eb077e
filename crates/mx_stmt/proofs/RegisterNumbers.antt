-- A value of an operand that is a register has a byte as its number.
use Rattle.std.proofs.Common.{◌≡◌, ◌<◌, ℕ, ◌^◌, IfOk, Ok, arith}
use Rattle.mx_stmt.proofs.Words.{Value, Tree, name, back, unary, binary, Valued, value_of, and_then, Known, knowledge_of, answer_of, operand_value, register_number, register_at, HasRegisterNumber, IsSound, nat_tests}

abbrev IsNumbered : Valued → Type 0
IsNumbered value = IfOk value HasRegisterNumber

pub value-numbered : (k : Known) (e : Tree) → IsSound k → IsNumbered (value_of (knowledge_of k) e)
value-numbered k (name text) sound = grind arith
value-numbered k (back d) sound = sound.backs d
value-numbered k (unary op e) sound = grind (arith, nat_tests, value-numbered k e sound)
value-numbered k (binary op l r) sound = grind arith
value-numbered k e sound = tt

number-fits : (value : Valued) (r : ℕ) → IsNumbered value → and_then (answer_of value) register_number ≡ Ok r → r < 2 ^ 8
number-fits value r h1 h2 = grind arith

pub register-fits : (k : Known) (e : Tree) (r : ℕ) → IsSound k → register_at k e ≡ Ok r → r < 2 ^ 8
register-fits k e r sound is = number-fits (value_of (knowledge_of k) e) r (value-numbered k e sound) is

-- the value of an operand
numbered-answer : (value : Valued) (v : Value) → IsNumbered value → answer_of value ≡ Ok v → HasRegisterNumber v
numbered-answer value v h1 h2 = grind arith

pub operand-fits : (k : Known) (e : Tree) (v : Value) → IsSound k → operand_value k e ≡ Ok v → HasRegisterNumber v
operand-fits k e v sound is = numbered-answer (value_of (knowledge_of k) e) v (value-numbered k e sound) is
