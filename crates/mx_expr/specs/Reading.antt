-- How the code reads an operand field, byte by byte. That it reads what `Spelling` says is the law
-- `fields_are_read_as_spelled`.
-- (MMIXware, the part on MMIXAL: expressions; TAOCP 1, Fascicle 1, section 1.3.2'.) How many parentheses and which
-- constants are taken: a rule of this program.
use Rattle.std.specs.Prelude.{ℕ, ◌+◌, ◌-◌, ◌*◌, ◌^◌, List, [], ◌∷◌, ◌++◌, Bool, true, false, ◌==◌, ◌&&◌, nat_le, if◌then◌else◌, Option, None, Some, Result, Ok, Err}
use Rattle.mx_expr.specs.declared.faults.ExprFault.{ExprFault}
use Rattle.mx_expr.specs.declared.faults.ExprFault.TheVariants.{Syntax, TooWide, TooDeep, EmptyString}
use Rattle.mx_expr.specs.declared.tree.UnOp.{UnOp}
use Rattle.mx_expr.specs.declared.tree.UnOp.TheVariants.{Plus, Minus, Not, Register}
use Rattle.mx_expr.specs.declared.tree.BinOp.{BinOp}
use Rattle.mx_expr.specs.declared.tree.BinOp.TheVariants.{Mul, Div, Fraction, Rem, Left, Right, And, Add, Sub, Or, Xor}
use Rattle.mx_expr.specs.Tree.{Tree, number, name, back, ahead, here, unary, binary}
use Rattle.mx_expr.specs.Bytes.{is_digit, is_hexadecimal, is_letter, is_name_byte, digit_value}

-- what waits for the expression that is being read, the last first
pub data Waiting : Type 0 where
  sign : (op : UnOp) → Waiting
  strong : (op : BinOp) (left : Tree) → Waiting
  weak : (op : BinOp) (left : Tree) → Waiting
  parenthesis : Waiting

-- how far reading has come
pub data Mode : Type 0 where
  operand : Mode  -- a primary comes next
  whole : (e : Tree) → Mode  -- after a primary, which is joined with the strong operators before it
  digit : (n : ℕ) → Mode  -- after the first decimal digit
  decimal : (n : ℕ) → Mode
  hash : Mode  -- after `#`
  hexadecimal : (n : ℕ) → Mode
  quote : Mode  -- after an apostrophe
  character : (c : ℕ) → Mode  -- after an apostrophe and a byte
  symbol : (text : List ℕ) → Mode
  slash : (e : Tree) → Mode  -- after `/`, `<` and `>`, the first byte of an operator
  less : (e : Tree) → Mode
  greater : (e : Tree) → Mode
  string : (empty : Bool) → Mode  -- in a string
  closed : Mode  -- after a string

pub record State : Type 0 where
  pub mode : Mode
  pub waiting : List Waiting
  pub depth : ℕ
  pub done : List Tree

abbrev pub Read : Type 0
Read = Result State ExprFault

-- A primary takes the unary operators that wait for it, and the strong operator.
abbrev pub with_strong : List Waiting → Tree → Tree × List Waiting
with_strong [] e = (e, [])
with_strong (sign op ∷ k) e = with_strong k (unary op e)
with_strong (strong op left ∷ k) e = (binary op left e, k)
with_strong (weak op left ∷ k) e = (e, weak op left ∷ k)
with_strong (parenthesis ∷ k) e = (e, parenthesis ∷ k)

-- A product takes the weak operator that waits for it.
abbrev pub with_weak : List Waiting → Tree → Tree × List Waiting
with_weak [] e = (e, [])
with_weak (sign op ∷ k) e = (e, sign op ∷ k)
with_weak (strong op left ∷ k) e = (e, strong op left ∷ k)
with_weak (weak op left ∷ k) e = (binary op left e, k)
with_weak (parenthesis ∷ k) e = (e, parenthesis ∷ k)

abbrev pub at : Mode → List Waiting → ℕ → List Tree → Read
at mode k depth done = Ok (record { mode = mode; waiting = k; depth = depth; done = done })

-- after a primary
abbrev pub after_primary : Tree × List Waiting → ℕ → List Tree → Read
after_primary (e, k) depth done = at (whole e) k depth done

abbrev pub primary_end : Tree → List Waiting → ℕ → List Tree → Read
primary_end e k depth done = after_primary (with_strong k e) depth done

-- A string is an operand: nothing waits for it.
abbrev pub string_start : List Waiting → ℕ → List Tree → Read
string_start [] depth done = at (string true) [] depth done
string_start (w ∷ k) depth done = Err Syntax

-- 43 is `+`, 45 `-`, 126 `~` and 36 `$`
abbrev pub sign_of : ℕ → Option UnOp
sign_of b = if b == 43 then Some Plus else if b == 45 then Some Minus else if b == 126 then Some Not else if b == 36 then Some Register else None

abbrev pub signed : Option UnOp → List Waiting → ℕ → List Tree → Read
signed None k depth done = Err Syntax
signed (Some op) k depth done = at operand (sign op ∷ k) depth done

-- A byte where a primary comes next: 35 is `#`, 39 an apostrophe, 64 `@`, 40 `(` and 34 a double quote.
abbrev pub mark_start : ℕ → List Waiting → ℕ → List Tree → Read
mark_start b k depth done =
    if b == 35 then at hash k depth done
    else if b == 39 then at quote k depth done
    else if b == 64 then primary_end here k depth done
    else if b == 40 then at operand (parenthesis ∷ k) (depth + 1) done
    else if b == 34 then string_start k depth done
    else signed (sign_of b) k depth done

abbrev pub primary_start : ℕ → List Waiting → ℕ → List Tree → Read
primary_start b k depth done =
    if is_digit b then at (digit (b - 48)) k depth done
    else if is_letter b then at (symbol (b ∷ [])) k depth done
    else mark_start b k depth done

-- Operators of one byte: 42 is `*`, 37 `%`, 38 `&`; 43 `+`, 45 `-`, 124 `|` and 94 `^`.
abbrev pub strong_of : ℕ → Option BinOp
strong_of b = if b == 42 then Some Mul else if b == 37 then Some Rem else if b == 38 then Some And else None

abbrev pub weak_of : ℕ → Option BinOp
weak_of b = if b == 43 then Some Add else if b == 45 then Some Sub else if b == 124 then Some Or else if b == 94 then Some Xor else None

-- the end of a sum: a weak operator, `)` or `,`
abbrev pub weakly : BinOp → Tree × List Waiting → ℕ → List Tree → Read
weakly op (e, k) depth done = at operand (weak op e ∷ k) depth done

abbrev pub enclosed : Tree × List Waiting → ℕ → List Tree → Read
enclosed (e, []) depth done = Err Syntax
enclosed (e, sign op ∷ k) depth done = Err Syntax
enclosed (e, strong op left ∷ k) depth done = Err Syntax
enclosed (e, weak op left ∷ k) depth done = Err Syntax
enclosed (e, parenthesis ∷ k) depth done = primary_end e k (depth - 1) done

abbrev pub listed : Tree × List Waiting → List Tree → Result (List Tree) ExprFault
listed (e, []) done = Ok (done ++ e ∷ [])
listed (e, w ∷ k) done = Err Syntax

abbrev pub next_operand : ℕ → Result (List Tree) ExprFault → Read
next_operand depth (Ok done) = at operand [] depth done
next_operand depth (Err fault) = Err fault

-- 41 is `)` and 44 a comma
abbrev pub sum_end : ℕ → Tree × List Waiting → ℕ → List Tree → Read
sum_end b sum depth done =
    if b == 41 then enclosed sum depth done
    else if b == 44 then next_operand depth (listed sum done)
    else Err Syntax

abbrev pub weakly_or_end : Option BinOp → ℕ → Tree × List Waiting → ℕ → List Tree → Read
weakly_or_end (Some op) b sum depth done = weakly op sum depth done
weakly_or_end None b sum depth done = sum_end b sum depth done

-- 47 is `/`, 60 `<` and 62 `>`
abbrev pub strongly : Option BinOp → ℕ → Tree → List Waiting → ℕ → List Tree → Read
strongly (Some op) b e k depth done = at operand (strong op e ∷ k) depth done
strongly None b e k depth done =
    if b == 47 then at (slash e) k depth done
    else if b == 60 then at (less e) k depth done
    else if b == 62 then at (greater e) k depth done
    else weakly_or_end (weak_of b) b (with_weak k e) depth done

-- a byte after a product
abbrev pub after : ℕ → Tree × List Waiting → ℕ → List Tree → Read
after b (e, k) depth done = strongly (strong_of b) b e k depth done

-- a byte after a primary that it does not go on
abbrev pub beyond : ℕ → Tree → List Waiting → ℕ → List Tree → Read
beyond b e k depth done = after b (with_strong k e) depth done

-- a byte in a string: each is an operand
abbrev pub in_string : ℕ → List Waiting → ℕ → List Tree → Read
in_string b k depth done = if b == 34 then at closed k depth done else at (string false) k depth (done ++ number b ∷ [])

-- What a byte leads to, where constants and parentheses have no bound: 66 is `B`, 70 `F`.
abbrev pub next_reading : Mode → List Waiting → ℕ → List Tree → ℕ → Read
next_reading operand k depth done b = primary_start b k depth done
next_reading (whole e) k depth done b = after b (e, k) depth done
next_reading (digit n) k depth done b =
    if is_digit b then at (decimal (n * 10 + (b - 48))) k depth done
    else if b == 66 then primary_end (back n) k depth done
    else if b == 70 then primary_end (ahead n) k depth done
    else beyond b (number n) k depth done
next_reading (decimal n) k depth done b =
    if is_digit b then at (decimal (n * 10 + (b - 48))) k depth done else beyond b (number n) k depth done
next_reading hash k depth done b = if is_hexadecimal b then at (hexadecimal (digit_value b)) k depth done else Err Syntax
next_reading (hexadecimal n) k depth done b =
    if is_hexadecimal b then at (hexadecimal (n * 16 + digit_value b)) k depth done else beyond b (number n) k depth done
next_reading quote k depth done b = at (character b) k depth done
next_reading (character c) k depth done b = if b == 39 then primary_end (number c) k depth done else Err Syntax
next_reading (symbol text) k depth done b =
    if is_name_byte b then at (symbol (text ++ b ∷ [])) k depth done else beyond b (name text) k depth done
next_reading (slash e) k depth done b =
    if b == 47 then at operand (strong Fraction e ∷ k) depth done else primary_start b (strong Div e ∷ k) depth done
next_reading (less e) k depth done b = if b == 60 then at operand (strong Left e ∷ k) depth done else Err Syntax
next_reading (greater e) k depth done b = if b == 62 then at operand (strong Right e ∷ k) depth done else Err Syntax
next_reading (string empty) k depth done b = in_string b k depth done
next_reading closed k depth done b = if b == 44 then at operand k depth done else Err Syntax

-- the bounds that a byte would pass
abbrev pub too_wide : ℕ → Option ExprFault
too_wide n = if nat_le (2 ^ 64) n then Some TooWide else None

abbrev pub too_deep : ℕ → ℕ → Option ExprFault
too_deep depth b = if b == 40 && nat_le 255 depth then Some TooDeep else None

abbrev pub passed_bound : Mode → ℕ → ℕ → Option ExprFault
passed_bound operand depth b = too_deep depth b
passed_bound (whole e) depth b = None
passed_bound (digit n) depth b = None
passed_bound (decimal n) depth b = if is_digit b then too_wide (n * 10 + (b - 48)) else None
passed_bound hash depth b = None
passed_bound (hexadecimal n) depth b = if is_hexadecimal b then too_wide (n * 16 + digit_value b) else None
passed_bound quote depth b = None
passed_bound (character c) depth b = None
passed_bound (symbol text) depth b = None
passed_bound (slash e) depth b = too_deep depth b
passed_bound (less e) depth b = None
passed_bound (greater e) depth b = None
passed_bound (string true) depth b = if b == 34 then Some EmptyString else None
passed_bound (string false) depth b = None
passed_bound closed depth b = None

-- one byte
abbrev pub within : Option ExprFault → Read → Read
within (Some fault) read = Err fault
within None read = read

abbrev pub bounded_step : Mode → List Waiting → ℕ → List Tree → ℕ → Read
bounded_step mode k depth done b = within (passed_bound mode depth b) (next_reading mode k depth done b)

abbrev pub step : State → ℕ → Read
step s b = bounded_step s.mode s.waiting s.depth s.done b

-- the bytes one after another
abbrev pub and_then : Read → (State → Read) → Read
and_then (Err fault) f = Err fault
and_then (Ok s) f = f s

unfoldable pub steps : State → List ℕ → Read
steps s [] = Ok s
steps s (b ∷ bs) = and_then (step s b) (λ t. steps t bs)

-- the list, at the end of the field
abbrev pub field_end : Mode → List Waiting → List Tree → Result (List Tree) ExprFault
field_end operand k done = Err Syntax
field_end (whole e) k done = listed (with_weak k e) done
field_end (digit n) k done = let p = with_strong k (number n) in listed (with_weak p.1 p.0) done
field_end (decimal n) k done = let p = with_strong k (number n) in listed (with_weak p.1 p.0) done
field_end hash k done = Err Syntax
field_end (hexadecimal n) k done = let p = with_strong k (number n) in listed (with_weak p.1 p.0) done
field_end quote k done = Err Syntax
field_end (character c) k done = Err Syntax
field_end (symbol text) k done = let p = with_strong k (name text) in listed (with_weak p.1 p.0) done
field_end (slash e) k done = Err Syntax
field_end (less e) k done = Err Syntax
field_end (greater e) k done = Err Syntax
field_end (string empty) k done = Err Syntax
field_end closed k done = Ok done

abbrev pub reading_end : Read → Result (List Tree) ExprFault
reading_end (Err fault) = Err fault
reading_end (Ok s) = field_end s.mode s.waiting s.done

abbrev pub start : State
start = record { mode = operand; waiting = []; depth = 0; done = [] }

-- An empty field counts as `0`.
abbrev pub reading : List ℕ → Result (List Tree) ExprFault
reading [] = Ok (number 0 ∷ [])
reading (b ∷ bs) = reading_end (steps start (b ∷ bs))
