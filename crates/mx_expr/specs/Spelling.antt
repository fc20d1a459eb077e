-- How lists of expressions are spelled: a grammar by cases on the bytes of an operand field. It knows no bound on constants
-- and on open parentheses. Then the faults of a field, with the bounds. (MMIXware, "MMIXAL", expressions; TAOCP 1, Fascicle 1,
-- 1.3.2'.)
use Rattle.std.specs.Prelude.{◌≡◌, ℕ, ◌+◌, ◌*◌, ◌^◌, ◌<◌, ◌≤◌, List, [], ◌∷◌, ◌++◌, length, map, fold, true, ◌⊎◌}
use Rattle.std.specs.List.{list_all}
use Rattle.mx_expr.specs.declared.faults.ExprFault.{ExprFault}
use Rattle.mx_expr.specs.declared.faults.ExprFault.TheVariants.{Syntax, TooWide, TooDeep, EmptyString}
use Rattle.mx_expr.specs.declared.tree.UnOp.{UnOp}
use Rattle.mx_expr.specs.declared.tree.UnOp.TheVariants.{Plus, Minus, Not, Register}
use Rattle.mx_expr.specs.declared.tree.BinOp.{BinOp}
use Rattle.mx_expr.specs.declared.tree.BinOp.TheVariants.{Mul, Div, Fraction, Rem, Left, Right, And, Add, Sub, Or, Xor}
use Rattle.mx_expr.specs.Tree.{Tree, number, name, back, ahead, here, unary, binary}
use Rattle.mx_expr.specs.Bytes.{is_digit, is_hexadecimal, is_letter, is_name_byte, digit_value, is_no_quote}

-- the value of digits to a base
abbrev pub digits_value : ℕ → List ℕ → ℕ
digits_value base digits = fold (λ value digit. value * base + digit_value digit) 0 digits

-- A constant is decimal digits, or `#` with hexadecimal digits; a character constant has no bound.
pub data Constant : List ℕ → ℕ → Type 0 where
  decimal : (digits : List ℕ) → 0 < length digits → list_all is_digit digits ≡ true → Constant digits (digits_value 10 digits)
  hexadecimal : (digits : List ℕ) → 0 < length digits → list_all is_hexadecimal digits ≡ true → Constant (35 ∷ digits) (digits_value 16 digits)

pub data Sign : ℕ → UnOp → Type 0 where
  plus : Sign 43 Plus
  minus : Sign 45 Minus
  not : Sign 126 Not
  register : Sign 36 Register

pub data StrongOperator : List ℕ → BinOp → Type 0 where
  mul : StrongOperator (42 ∷ []) Mul
  div : StrongOperator (47 ∷ []) Div
  fraction : StrongOperator (47 ∷ 47 ∷ []) Fraction
  rem : StrongOperator (37 ∷ []) Rem
  left : StrongOperator (60 ∷ 60 ∷ []) Left
  right : StrongOperator (62 ∷ 62 ∷ []) Right
  and : StrongOperator (38 ∷ []) And

pub data WeakOperator : ℕ → BinOp → Type 0 where
  add : WeakOperator 43 Add
  sub : WeakOperator 45 Sub
  or : WeakOperator 124 Or
  xor : WeakOperator 94 Xor

mutual
  -- A primary is a constant, a symbol, a local label, `@`, an expression in parentheses, or a
  -- unary operator before a primary.
  pub data Primary : List ℕ → Tree → Type 0 where
    constant : (text : List ℕ) (n : ℕ) → Constant text n → Primary text (number n)
    character : (c : ℕ) → Primary (39 ∷ c ∷ 39 ∷ []) (number c)
    symbol : (b : ℕ) (text : List ℕ) → is_letter b ≡ true → list_all is_name_byte text ≡ true → Primary (b ∷ text) (name (b ∷ text))
    last_label : (b : ℕ) → is_digit b ≡ true → Primary (b ∷ 66 ∷ []) (back (digit_value b))
    next_label : (b : ℕ) → is_digit b ≡ true → Primary (b ∷ 70 ∷ []) (ahead (digit_value b))
    place : Primary (64 ∷ []) here
    enclosed : (text : List ℕ) (e : Tree) → Sum text e → Primary (40 ∷ (text ++ 41 ∷ [])) e
    signed : (b : ℕ) (op : UnOp) (text : List ℕ) (e : Tree) → Sign b op → Primary text e → Primary (b ∷ text) (unary op e)

  -- Strong operators bind tighter than weak ones; equal strength goes left to right.
  pub data Product : List ℕ → Tree → Type 0 where
    primary : (text : List ℕ) (e : Tree) → Primary text e → Product text e
    times : (text word part : List ℕ) (op : BinOp) (l r : Tree) → Product text l → StrongOperator word op → Primary part r → Product (text ++ (word ++ part)) (binary op l r)

  pub data Sum : List ℕ → Tree → Type 0 where
    product : (text : List ℕ) (e : Tree) → Product text e → Sum text e
    plus : (text : List ℕ) (b : ℕ) (part : List ℕ) (op : BinOp) (l r : Tree) → Sum text l → WeakOperator b op → Product part r → Sum (text ++ b ∷ part) (binary op l r)

-- An operand is an expression, or a string, which means its bytes as separate operands.
pub data Operand : List ℕ → List Tree → Type 0 where
  expression : (text : List ℕ) (e : Tree) → Sum text e → Operand text (e ∷ [])
  string : (bytes : List ℕ) → list_all is_no_quote bytes ≡ true → Operand (34 ∷ (bytes ++ 34 ∷ [])) (map number bytes)

-- operands with a comma after each
pub data Operands : List ℕ → List Tree → Type 0 where
  none : Operands [] []
  more : (text part : List ℕ) (es fs : List Tree) → Operands text es → Operand part fs → Operands (text ++ (part ++ 44 ∷ [])) (es ++ fs)

-- A field is operands with a comma between each two; an empty one counts as `0`.
pub data Spells : List ℕ → List Tree → Type 0 where
  empty : Spells [] (number 0 ∷ [])
  operands : (text part : List ℕ) (es fs : List Tree) → Operands text es → Operand part fs → Spells (text ++ part) (es ++ fs)

-- what is before a primary, and how many parentheses are open there
pub data Before : ℕ → List ℕ → Type 0 where
  first : (text : List ℕ) (es : List Tree) → Operands text es → Before 0 text
  sign : (depth : ℕ) (text : List ℕ) (b : ℕ) (op : UnOp) → Before depth text → Sign b op → Before depth (text ++ b ∷ [])
  parenthesis : (depth : ℕ) (text : List ℕ) → Before depth text → Before (depth + 1) (text ++ 40 ∷ [])
  strong : (depth : ℕ) (text part word : List ℕ) (e : Tree) (op : BinOp) → Before depth text → Primary part e → StrongOperator word op → Before depth (text ++ (part ++ word))
  weak : (depth : ℕ) (text part : List ℕ) (b : ℕ) (e : Tree) (op : BinOp) → Before depth text → Primary part e → WeakOperator b op → Before depth (text ++ (part ++ b ∷ []))

-- the faults of a field, each with its place: the last byte of a front that begins no spelled
-- field, or the end of a field that is not spelled; and the first byte of a constant of 2^64 or
-- more, of a parenthesis where 255 are open, and of a string with no byte
abbrev pub Begins : List ℕ → Type 0
Begins front = (rest : List ℕ) × (list : List Tree) × Spells (front ++ rest) list

pub data FaultAt : List ℕ → ExprFault → ℕ → Type 0 where
  no_front : (front rest : List ℕ) (b : ℕ) → (Begins (front ++ b ∷ []) → ⊥) → FaultAt (front ++ b ∷ rest) Syntax (length front)
  no_list : (field : List ℕ) → ((list : List Tree) → Spells field list → ⊥) → FaultAt field Syntax (length field)
  too_wide : (front text rest : List ℕ) (depth n : ℕ) → Before depth front → Constant text n → 2 ^ 64 ≤ n → FaultAt (front ++ (text ++ rest)) TooWide (length front)
  too_deep : (front rest : List ℕ) (depth : ℕ) → Before depth front → 255 ≤ depth → FaultAt (front ++ 40 ∷ rest) TooDeep (length front)
  empty_string : (front rest : List ℕ) (es : List Tree) → Operands front es → FaultAt (front ++ 34 ∷ 34 ∷ rest) EmptyString (length front)

-- The least place counts, and at one place a field that is not spelled comes before the others.
pub record IsFirst (field : List ℕ) (fault : ExprFault) : Type 0 where
  pub place : ℕ
  pub is_there : FaultAt field fault place
  pub least : (other : ExprFault) (there : ℕ) → FaultAt field other there → place ≤ there
  pub only : (other : ExprFault) → FaultAt field other place → (fault ≡ Syntax) ⊎ (other ≡ fault)

-- there is no fault
abbrev pub Faultless : List ℕ → Type 0
Faultless field = (fault : ExprFault) (place : ℕ) → FaultAt field fault place → ⊥

-- The list is that of the field: the field spells it, and has no fault.
abbrev pub IsList : List ℕ → List Tree → Type 0
IsList field list = Spells field list × Faultless field
