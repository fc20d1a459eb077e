-- The value of an expression, by whole numbers modulo 2^64. (MMIXware, "MMIXAL", expressions.)
use Rattle.std.specs.Prelude.{ℕ, ◌+◌, ◌-◌, ◌*◌, ◌/◌, ◌%◌, ◌^◌, ◌==◌, nat_lt, nat_le, if◌then◌else◌, List, Option, None, Some, Result, Ok, Err, bit_and, bit_or, bit_xor}
use Rattle.mx_word.specs.Words.{difference}
use Rattle.mx_word.specs.declared.symbols.Value.{Value}
use Rattle.mx_word.specs.declared.symbols.Value.TheVariants.{Pure, Reg}
use Rattle.mx_expr.specs.declared.faults.ExprFault.{ExprFault}
use Rattle.mx_expr.specs.declared.faults.ExprFault.TheVariants.{DivZero, FractionTooBig, PureOnly, TwoRegisters, RegisterFromPure, Future, RegisterNumber}
use Rattle.mx_expr.specs.declared.tree.UnOp.{UnOp}
use Rattle.mx_expr.specs.declared.tree.UnOp.TheVariants.{Plus, Minus, Not, Register}
use Rattle.mx_expr.specs.declared.tree.BinOp.{BinOp}
use Rattle.mx_expr.specs.declared.tree.BinOp.TheVariants.{Mul, Div, Fraction, Rem, Left, Right, And, Add, Sub, Or, Xor}
use Rattle.mx_expr.specs.Tree.{Tree, number, name, back, ahead, here, unary, binary}

abbrev pub Valued : Type 0
Valued = Result Value ExprFault

-- what is known: the value of each symbol as it is written, that of each `dB`, and the place
pub record Knowledge : Type 0 where
  pub symbols : List ℕ → Result (Option Value) ExprFault
  pub backs : ℕ → Value
  pub at : ℕ

abbrev pub knowledge : (List ℕ → Result (Option Value) ExprFault) → (ℕ → Value) → ℕ → Knowledge
knowledge symbols backs at = record { symbols = symbols; backs = backs; at = at }

-- what one knows who tells these
abbrev pub known_by : {E : Type 0} → (E → List ℕ → Result (Option Value) ExprFault) → (E → ℕ → Value) → (E → ℕ) → E → Knowledge
known_by symbols backs at who = knowledge (symbols who) (backs who) (at who)

-- A register has a number of 0 to 255.
abbrev pub register : ℕ → Valued
register n = if nat_le n 255 then Ok (Reg n) else Err RegisterNumber

-- A shift by 64 or more gives 0.
abbrev pub left_shift : ℕ → ℕ → ℕ
left_shift x y = if nat_lt y 64 then x * 2 ^ y % 2 ^ 64 else 0

abbrev pub right_shift : ℕ → ℕ → ℕ
right_shift x y = if nat_lt y 64 then x / 2 ^ y else 0

-- an operator on a value: `+` takes any, the others only a pure one
abbrev pub unary_value : UnOp → Value → Valued
unary_value Plus x = Ok x
unary_value Minus (Pure x) = Ok (Pure (difference 0 x))
unary_value Not (Pure x) = Ok (Pure (2 ^ 64 - 1 - x))
unary_value Register (Pure x) = register x
unary_value Minus (Reg x) = Err PureOnly
unary_value Not (Reg x) = Err PureOnly
unary_value Register (Reg x) = Err PureOnly

-- an operator on two pure values, modulo 2^64
abbrev pub pure_value : BinOp → ℕ → ℕ → Valued
pure_value Mul x y = Ok (Pure (x * y % 2 ^ 64))
pure_value Div x y = if y == 0 then Err DivZero else Ok (Pure (x / y))
pure_value Fraction x y = if nat_le y x then Err FractionTooBig else Ok (Pure (2 ^ 64 * x / y))
pure_value Rem x y = if y == 0 then Err DivZero else Ok (Pure (x % y))
pure_value Left x y = Ok (Pure (left_shift x y))
pure_value Right x y = Ok (Pure (right_shift x y))
pure_value And x y = Ok (Pure (bit_and x y))
pure_value Add x y = Ok (Pure ((x + y) % 2 ^ 64))
pure_value Sub x y = Ok (Pure (difference x y))
pure_value Or x y = Ok (Pure (bit_or x y))
pure_value Xor x y = Ok (Pure (bit_xor x y))

-- Register plus or minus pure and pure plus register are registers, register minus register is
-- pure, and every other operator takes pure values alone.
abbrev pub binary_value : BinOp → Value → Value → Valued
binary_value op (Pure x) (Pure y) = pure_value op x y
binary_value Add (Reg x) (Pure y) = register ((x + y) % 2 ^ 64)
binary_value Add (Pure x) (Reg y) = register ((x + y) % 2 ^ 64)
binary_value Add (Reg x) (Reg y) = Err TwoRegisters
binary_value Sub (Reg x) (Pure y) = register (difference x y)
binary_value Sub (Reg x) (Reg y) = Ok (Pure (difference x y))
binary_value Sub (Pure x) (Reg y) = Err RegisterFromPure
binary_value op x y = Err PureOnly

-- The left side's fault comes first, then the right side's, then the operator's.
abbrev pub after_operand : UnOp → Valued → Valued
after_operand op (Err fault) = Err fault
after_operand op (Ok x) = unary_value op x

abbrev pub after_right : BinOp → Value → Valued → Valued
after_right op x (Err fault) = Err fault
after_right op x (Ok y) = binary_value op x y

abbrev pub after_both : BinOp → Valued → Valued → Valued
after_both op (Err fault) right = Err fault
after_both op (Ok x) right = after_right op x right

-- A symbol that is not known has no value yet.
abbrev pub of_symbol : Result (Option Value) ExprFault → Valued
of_symbol (Err fault) = Err fault
of_symbol (Ok None) = Err Future
of_symbol (Ok (Some x)) = Ok x

abbrev pub value_of : Knowledge → Tree → Valued
value_of known (number n) = Ok (Pure n)
value_of known (name text) = of_symbol (known.symbols text)
value_of known (back d) = Ok (known.backs d)
value_of known (ahead d) = Err Future
value_of known here = Ok (Pure known.at)
value_of known (unary op e) = after_operand op (value_of known e)
value_of known (binary op l r) = after_both op (value_of known l) (value_of known r)
