-- What holds of each statement that was read from a source.
use Rattle.std.specs.Prelude.{◌<◌, ◌^◌}
use Rattle.std.specs.List.{AllByRecursion}
use Rattle.mx_expr.specs.Tree.{Tree, number, name, back, ahead, here, unary, binary}
use Rattle.mx_stmt.specs.Encoding.{StatementTree}
use Rattle.mx_stmt.specs.Fixes.{IsOperation}

-- the numbers of an operand are octas
abbrev pub HasOctas : Tree → Type 0
HasOctas (number n) = n < 2 ^ 64
HasOctas (name text) = Unit {0}
HasOctas (back d) = Unit {0}
HasOctas (ahead d) = Unit {0}
HasOctas here = Unit {0}
HasOctas (unary op e) = HasOctas e
HasOctas (binary op l r) = HasOctas l × HasOctas r

-- Lines are counted from 1, the operation is that of a name, and the numbers of the operands are octas.
pub record IsStatement (s : StatementTree) : Type 0 where
  pub line : 0 < s.line
  pub operation : IsOperation s.op
  pub operands : AllByRecursion HasOctas s.operands
