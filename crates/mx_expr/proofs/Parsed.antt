-- What a list or a fault that was read says of the field.
use Rattle.std.proofs.Common.{◌≡◌, ◌≢◌, ℕ, List, [], ◌∷◌, ◌++◌, map, Result, Ok, Err, IfOk, sym, ◌∙◌, arith, IfErr, rules}
use Rattle.mx_expr.proofs.Words.{All, AllByRecursion, ExprFault, OutOfMemory, Tree, number, tree_of, trees_of, HasDigits, reading, Primary, Product, Sum, Operand, Operands, Spells, IsFirst, Faultless, last_label, next_label, enclosed, signed, primary, times, product, expression, none, more}
use Rattle.std.proofs.lemmas.List.Elements.{All-from_recursion}
use Rattle.mx_word.specs.Results.{map_ok}
use Rattle.mx_expr.specs.declared.tree.Expr.{Expr}
use Rattle.mx_expr.specs.Spelling.Sum.{plus}
use Rattle.mx_expr.specs.Spelling.Operand.{string}
use Rattle.mx_expr.proofs.Marks.{digit-small}
use Rattle.mx_expr.proofs.Exact.{reading-ok, reading-err, list-read, fault-read}

-- The digits of local labels are 0 to 9.
mutual
  primary-digits : {text : List ℕ} {e : Tree} → Primary text e → HasDigits e
  primary-digits (last_label b h) = omega (arith, digit-small b h)
  primary-digits (next_label b h) = omega (arith, digit-small b h)
  primary-digits (enclosed t e h) = sum-digits h
  primary-digits (signed b op t e s h) = primary-digits h
  primary-digits _ = tt

  product-digits : {text : List ℕ} {e : Tree} → Product text e → HasDigits e
  product-digits (primary t e h) = primary-digits h
  product-digits (times t word part op l r h w g) = (product-digits h, primary-digits g)

  sum-digits : {text : List ℕ} {e : Tree} → Sum text e → HasDigits e
  sum-digits (product t e h) = product-digits h
  sum-digits (plus t b part op l r h w g) = (sum-digits h, product-digits g)

both-digits : (es fs : List Tree) → AllByRecursion HasDigits es → AllByRecursion HasDigits fs → AllByRecursion HasDigits (es ++ fs)
both-digits [] fs h k = k
both-digits (e ∷ es) fs h k = (h.0, both-digits es fs h.1 k)

bytes-digits : (bytes : List ℕ) → AllByRecursion HasDigits (map number bytes)
bytes-digits [] = tt
bytes-digits (b ∷ bs) = (tt, bytes-digits bs)

operand-digits : {text : List ℕ} {es : List Tree} → Operand text es → AllByRecursion HasDigits es
operand-digits (expression t e h) = (sum-digits h, tt)
operand-digits (string bytes h) = bytes-digits bytes

operands-digits : {text : List ℕ} {es : List Tree} → Operands text es → AllByRecursion HasDigits es
operands-digits none = tt
operands-digits (more t part es fs h o) = both-digits es fs (operands-digits h) (operand-digits o)

spelled-digits : {field : List ℕ} {list : List Tree} → Spells field list → AllByRecursion HasDigits list
spelled-digits h = search (rules, both-digits, operands-digits, operand-digits)

-- a result that is what was read
abbrev pub IsReading : Result (List Expr) ExprFault → List ℕ → Type 0
IsReading r field = r ≢ Err OutOfMemory → map_ok trees_of r ≡ reading field

pub parsed-list : (r : Result (List Expr) ExprFault) (field : List ℕ) → IsReading r field → IfOk r (λ es. Spells field (trees_of es) × Faultless field)
parsed-list r field h = search (rules, reading-ok)

pub parsed-fault : (r : Result (List Expr) ExprFault) (field : List ℕ) → IsReading r field → IfErr r (λ f. f ≢ OutOfMemory → IsFirst field f)
parsed-fault r field h = search (rules, reading-err)

same-digits : (es : List Expr) → AllByRecursion HasDigits (trees_of es) → AllByRecursion (λ e. HasDigits (tree_of e)) es
same-digits [] h = tt
same-digits (e ∷ es) h = (h.0, same-digits es h.1)

pub parsed-digits : (r : Result (List Expr) ExprFault) (field : List ℕ) → IsReading r field → IfOk r (λ es. All (λ e. HasDigits (tree_of e)) es)
parsed-digits (Ok es) field h =
    All-from_recursion (λ e. HasDigits (tree_of e)) es (same-digits es (spelled-digits (reading-ok field (trees_of es) (sym (h (λ e. cc)))).0))
parsed-digits (Err f) field h = tt

pub parsed-spelled : (r : Result (List Expr) ExprFault) (field : List ℕ) → IsReading r field → (list : List Tree) → Spells field list → Faultless field → r ≢ Err OutOfMemory → map_ok trees_of r ≡ Ok list
parsed-spelled r field h list s n m = h m ∙ (list-read field list).1 (s, n)

pub parsed-first : (r : Result (List Expr) ExprFault) (field : List ℕ) → IsReading r field → (f : ExprFault) → IsFirst field f → r ≢ Err OutOfMemory → map_ok trees_of r ≡ Err f
parsed-first r field h f w m = h m ∙ (fault-read field f).1 w
