-- What is kept while a field is read, without where it lies in memory.
use Rattle.std.specs.Prelude.{◌≡◌, ◌≢◌, ℕ, List, [], ◌∷◌, map, Bool, true, false, Option, None, Some, Result, Ok, Err}
use Rattle.mx_expr.specs.declared.faults.ExprFault.{ExprFault}
use Rattle.mx_expr.specs.declared.faults.ExprFault.TheVariants.{OutOfMemory}
use Rattle.mx_expr.specs.declared.tree.Expr.{Expr}
use Rattle.mx_expr.specs.declared.tree.UnOp.{UnOp}
use Rattle.mx_expr.specs.declared.tree.BinOp.{BinOp}
use Rattle.mx_expr.specs.declared.waiting.Waiting as held
use Rattle.mx_expr.specs.declared.waiting.Waiting.TheVariants.{Sign, Strong, Weak, Parenthesis}
use Rattle.mx_expr.specs.declared.reader.Mode as held_mode
use Rattle.mx_expr.specs.declared.reader.Mode.TheVariants.{Operand, Whole, Digit, Decimal, Hash, Hexadecimal, Quote, Character, Symbol, Slash, Less, Greater, String, Closed}
use Rattle.mx_expr.specs.declared.reader.Reader.{Reader}
use Rattle.mx_expr.specs.Tree.{Tree, tree_of, trees_of}
use Rattle.mx_expr.specs.Reading.{Waiting, sign, strong, weak, parenthesis, Mode, operand, whole, digit, decimal, hash, hexadecimal, quote, character, symbol, slash, less, greater, string, closed, Read, at, next_reading}

abbrev pub waiting_of : held.Waiting → Waiting
waiting_of (Sign op) = sign op
waiting_of (Strong op left) = strong op (tree_of left)
waiting_of (Weak op left) = weak op (tree_of left)
waiting_of Parenthesis = parenthesis

abbrev pub all_waiting : List held.Waiting → List Waiting
all_waiting k = map waiting_of k

-- an expression with what waits after it
abbrev pub settled_as : Result Expr ExprFault → List held.Waiting → Result (Tree × List Waiting) ExprFault
settled_as (Err fault) k = Err fault
settled_as (Ok e) k = Ok (tree_of e, all_waiting k)

-- what waits last, if it is of a kind, and what waits before it
abbrev pub last_sign : List held.Waiting → Option UnOp × List held.Waiting
last_sign [] = (None, [])
last_sign (Sign op ∷ k) = (Some op, k)
last_sign (Strong op left ∷ k) = (None, Strong op left ∷ k)
last_sign (Weak op left ∷ k) = (None, Weak op left ∷ k)
last_sign (Parenthesis ∷ k) = (None, Parenthesis ∷ k)

abbrev pub last_strong : List held.Waiting → Option (BinOp × Expr) × List held.Waiting
last_strong [] = (None, [])
last_strong (Sign op ∷ k) = (None, Sign op ∷ k)
last_strong (Strong op left ∷ k) = (Some (op, left), k)
last_strong (Weak op left ∷ k) = (None, Weak op left ∷ k)
last_strong (Parenthesis ∷ k) = (None, Parenthesis ∷ k)

abbrev pub last_weak : List held.Waiting → Option (BinOp × Expr) × List held.Waiting
last_weak [] = (None, [])
last_weak (Sign op ∷ k) = (None, Sign op ∷ k)
last_weak (Strong op left ∷ k) = (None, Strong op left ∷ k)
last_weak (Weak op left ∷ k) = (Some (op, left), k)
last_weak (Parenthesis ∷ k) = (None, Parenthesis ∷ k)

abbrev pub last_parenthesis : List held.Waiting → Bool × List held.Waiting
last_parenthesis [] = (false, [])
last_parenthesis (Sign op ∷ k) = (false, Sign op ∷ k)
last_parenthesis (Strong op left ∷ k) = (false, Strong op left ∷ k)
last_parenthesis (Weak op left ∷ k) = (false, Weak op left ∷ k)
last_parenthesis (Parenthesis ∷ k) = (true, k)

abbrev pub mode_of : held_mode.Mode → Mode
mode_of Operand = operand
mode_of (Whole e) = whole (tree_of e)
mode_of (Digit n) = digit n
mode_of (Decimal n) = decimal n
mode_of Hash = hash
mode_of (Hexadecimal n) = hexadecimal n
mode_of Quote = quote
mode_of (Character c) = character c
mode_of (Symbol text) = symbol text
mode_of (Slash e) = slash (tree_of e)
mode_of (Less e) = less (tree_of e)
mode_of (Greater e) = greater (tree_of e)
mode_of (String empty) = string empty
mode_of Closed = closed

abbrev pub reading_of : Result held_mode.Mode ExprFault → Reader → Read
reading_of (Err fault) r = Err fault
reading_of (Ok mode) r = at (mode_of mode) (all_waiting r.waiting) r.depth (trees_of r.done)

-- Unless there was no memory, what is kept and the answer are what `next` gives for what waited, the open parentheses and the
-- operands before it.
abbrev pub GoesOn : Result held_mode.Mode ExprFault → Reader → Reader → (List Waiting → ℕ → List Tree → Read) → Type 0
GoesOn result old new next =
    result ≢ Err OutOfMemory → reading_of result new ≡ next (all_waiting old.waiting) old.depth (trees_of old.done)

-- the same of a byte after this mode
abbrev pub TakesByte : Result held_mode.Mode ExprFault → Reader → Reader → Mode → ℕ → Type 0
TakesByte result old new mode b = GoesOn result old new (λ k depth done. next_reading mode k depth done b)

abbrev pub listing_of : Result (Unit {0}) ExprFault → List Expr → Result (List Tree) ExprFault
listing_of (Err fault) done = Err fault
listing_of (Ok u) done = Ok (trees_of done)
