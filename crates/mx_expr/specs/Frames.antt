-- What is left to do while an expression is valued, from what comes last to what comes next.
use Rattle.std.specs.Prelude.{◌≡◌, ◌≢◌, ℕ, ◌+◌, ◌≤◌, List, [], ◌∷◌, Result, Ok, Err}
use Rattle.mx_expr.specs.declared.faults.ExprFault.{ExprFault}
use Rattle.mx_expr.specs.declared.faults.ExprFault.TheVariants.{OutOfMemory}
use Rattle.mx_expr.specs.declared.valuing.Frame.{Frame}
use Rattle.mx_expr.specs.declared.valuing.Frame.TheVariants.{Operand, Left, Right}
use Rattle.mx_expr.specs.declared.valuing.Next.{Next}
use Rattle.mx_expr.specs.declared.valuing.Next.TheVariants as next
use Rattle.mx_expr.specs.Tree.{Tree, number, name, back, ahead, here, unary, binary, tree_of, HasDigits}
use Rattle.mx_expr.specs.Value.{Valued, Knowledge, value_of, after_operand, after_both, after_right}

-- a value that is passed on
abbrev pub value_through : Knowledge → Frame → Valued → Valued
value_through known (Operand op) x = after_operand op x
value_through known (Left op right) x = after_both op x (value_of known (tree_of right.now))
value_through known (Right op left) x = after_right op left x

-- the value of the whole expression, where its part has this value
abbrev pub value_after : Knowledge → List Frame → Valued → Valued
value_after known [] x = x
value_after known (f ∷ fs) x = value_through known f (value_after known fs x)

-- Unless there was no memory, the whole expression has the value that it has with its part valued.
abbrev pub GoesDown : Knowledge → List Frame → List Frame → Tree → Valued → Type 0
GoesDown known old new part result =
    result ≢ Err OutOfMemory → value_after known new result ≡ value_after known old (value_of known part)

-- how many nodes there are, and how many are left
abbrev pub nodes : Tree → ℕ
nodes (number n) = 1
nodes (name text) = 1
nodes (back d) = 1
nodes (ahead d) = 1
nodes here = 1
nodes (unary op e) = 1 + nodes e
nodes (binary op l r) = 1 + nodes l + nodes r

abbrev pub nodes_of : Frame → ℕ
nodes_of (Operand op) = 0
nodes_of (Left op right) = nodes (tree_of right.now)
nodes_of (Right op left) = 0

abbrev pub nodes_left : List Frame → ℕ
nodes_left [] = 0
nodes_left (f ∷ fs) = nodes_of f + nodes_left fs

abbrev pub FrameHasDigits : Frame → Type 0
FrameHasDigits (Operand op) = Unit {0}
FrameHasDigits (Left op right) = HasDigits (tree_of right.now)
FrameHasDigits (Right op left) = Unit {0}

abbrev pub AllHaveDigits : List Frame → Type 0
AllHaveDigits [] = Unit {0}
AllHaveDigits (f ∷ fs) = FrameHasDigits f × AllHaveDigits fs

-- What comes next finishes to this value; so does a fault, but out of memory.
abbrev pub Goes : Knowledge → List Frame → Result Next ExprFault → Valued → Type 0
Goes known frames (Ok (next.Done x)) whole = Ok x ≡ whole
Goes known frames (Ok (next.Right right)) whole = value_after known frames (value_of known (tree_of right.now)) ≡ whole
Goes known frames (Err fault) whole = fault ≢ OutOfMemory → Err fault ≡ whole

-- the nodes of what comes next, with those that are left after it
abbrev pub LeftBy : List Frame → Result Next ExprFault → ℕ → Type 0
LeftBy frames (Ok (next.Done x)) before = Unit {0}
LeftBy frames (Ok (next.Right right)) before = nodes_left frames + nodes (tree_of right.now) ≤ before
LeftBy frames (Err fault) before = Unit {0}

abbrev pub NextHasDigits : Result Next ExprFault → Type 0
NextHasDigits (Ok (next.Done x)) = Unit {0}
NextHasDigits (Ok (next.Right right)) = HasDigits (tree_of right.now)
NextHasDigits (Err fault) = Unit {0}
