-- Expressions, without where they lie in memory.
-- (MMIXware, the part on MMIXAL: expressions; TAOCP 1, Fascicle 1, section 1.3.2'.)
use Rattle.std.specs.Prelude.{◌≡◌, ◌≢◌, ℕ, ◌+◌, ◌≤◌, List, map, Result, Err}
use Rattle.mx_word.specs.Results.{map_ok}
use Rattle.mx_expr.specs.declared.faults.ExprFault.{ExprFault}
use Rattle.mx_expr.specs.declared.faults.ExprFault.TheVariants.{OutOfMemory}
use Rattle.mx_expr.specs.declared.tree.UnOp.{UnOp}
use Rattle.mx_expr.specs.declared.tree.BinOp.{BinOp}
use Rattle.mx_expr.specs.declared.tree.Expr.{Expr}
use Rattle.mx_expr.specs.declared.tree.Expr.TheVariants.{Number, Name, Back, Ahead, Here, Unary', Binary'}

pub data Tree : Type 0 where
  number : (n : ℕ) → Tree
  name : (text : List ℕ) → Tree
  back : (d : ℕ) → Tree
  ahead : (d : ℕ) → Tree
  here : Tree
  unary : (op : UnOp) (operand : Tree) → Tree
  binary : (op : BinOp) (left right : Tree) → Tree

abbrev pub tree_of : Expr → Tree
tree_of (Number n) = number n
tree_of (Name text) = name text
tree_of (Back d) = back d
tree_of (Ahead d) = ahead d
tree_of Here = here
tree_of (Unary' op p e) = unary op (tree_of e)
tree_of (Binary' op p l q r) = binary op (tree_of l) (tree_of r)

abbrev pub trees_of : List Expr → List Tree
trees_of es = map tree_of es

-- unless there was no memory, the list that was read, or its fault, is this
abbrev pub ReadsAs : Result (List Expr) ExprFault → Result (List Tree) ExprFault → Type 0
ReadsAs result answer = result ≢ Err OutOfMemory → map_ok trees_of result ≡ answer

-- The digit of each local label is one of 0 to 9.
abbrev pub HasDigits : Tree → Type 0
HasDigits (number n) = Unit {0}
HasDigits (name text) = Unit {0}
HasDigits (back d) = d ≤ 9
HasDigits (ahead d) = d ≤ 9
HasDigits here = Unit {0}
HasDigits (unary op e) = HasDigits e
HasDigits (binary op l r) = HasDigits l × HasDigits r

-- what a drop has left to do: each turn makes it less
abbrev pub weight : Tree → ℕ
weight (number n) = 1
weight (name text) = 1
weight (back d) = 1
weight (ahead d) = 1
weight here = 1
weight (unary op e) = 1 + weight e
weight (binary op l r) = 1 + (weight l + weight l) + weight r
