-- What is spelled is read: operands, fields, and what is before a primary.
use Rattle.std.proofs.Common.{◌≡◌, ℕ, ◌+◌, ◌<◌, List, [], ◌∷◌, ◌++◌, length, map, Bool, true, false, Some, Result, Ok, refl, sym, ap, ◌∙◌, arith, append_assoc, append-nil, length-append, ◌==◌, rules}
use Rattle.mx_expr.proofs.Words.{and_parts, not-true, list_all, ExprFault, BinOp, Div, Tree, number, is_no_quote, with_strong, Waiting, sign, strong, weak, parenthesis, Mode, operand, slash, closed, State, with_weak, field_end, reading_end, start, listed, next_operand, StrongOperator, Product, Sum, Operand, Operands, Spells, Before, mul, div, fraction, rem, left, right, and, primary, times, expression, none, more, empty, operands, first}
use Rattle.mx_expr.specs.Reading as reading
use Rattle.mx_expr.specs.Spelling.Operand.{string}
use Rattle.mx_expr.specs.Spelling.Before.{sign as before_sign, parenthesis as before_parenthesis, strong as before_strong, weak as before_weak}
use Rattle.mx_expr.proofs.Moves.{st, move, moves, moves-on, moves-first, moves-none, moves-one, ends, goes-beyond, finish-ends}
use Rattle.mx_expr.proofs.Forward.{Headed, primary-ended, sum-ended, primary-headed, sign-step, sign-other, slash-move, weak-step}

in-string : (t : Bool) (bytes : List ℕ) (es : List Tree) → list_all is_no_quote bytes ≡ true →
    (u : Bool) × (moves (st (reading.string t) [] 0 es) bytes ≡ Ok (st (reading.string u) [] 0 (es ++ map number bytes)))
in-string t [] es h = (t, moves-none _ ∙ ap (λ fs. Ok (st (reading.string t) [] 0 fs)) (sym (append-nil es)))
in-string t (b ∷ bs) es h =
    let other : (b == 34) ≡ false = not-true _ (and_parts _ _ h).0 in
    let step : move (st (reading.string t) [] 0 es) b ≡ Ok (st (reading.string false) [] 0 (es ++ number b ∷ [])) = rw other refl in
    let later = in-string false bs (es ++ number b ∷ []) (and_parts _ _ h).1 in
    (later.0, moves-first _ _ b bs step ∙ later.1 ∙ ap (λ fs. Ok (st (reading.string later.0) [] 0 fs)) (append_assoc es (number b ∷ []) (map number bs)))

-- An operand is read, and the field or the operand may end there.
pub record OperandRead (es : List Tree) (part : List ℕ) (fs : List Tree) : Type 0 where
  pub mode : Mode
  pub rest : List Waiting
  pub done : List Tree
  pub read : moves (st operand [] 0 es) part ≡ Ok (st mode rest 0 done)
  pub list : field_end mode rest done ≡ Ok (es ++ fs)
  pub comma : move (st mode rest 0 done) 44 ≡ Ok (st operand [] 0 (es ++ fs))

pub operand-read : {part : List ℕ} {fs : List Tree} → Operand part fs → (es : List Tree) → OperandRead es part fs
operand-read (expression text e h) es =
    let s = sum-ended h [] 0 es tt in
    record {
      mode = s.mode;
      rest = s.rest;
      done = es;
      read = s.read;
      list = finish-ends s.mode s.rest s.p es s.ending ∙ ap (λ q. listed q es) s.sum;
      comma = goes-beyond s.mode s.rest s.p 0 es 44 s.ending refl ∙ ap (λ q. next_operand 0 (listed q es)) s.sum;
    }
operand-read (string bytes h) es =
    let inner = in-string true bytes es h in
    record {
      mode = closed;
      rest = [];
      done = es ++ map number bytes;
      read = moves-first _ _ 34 (bytes ++ 34 ∷ []) refl ∙ moves-on _ _ bytes (34 ∷ []) inner.1 ∙ moves-one _ 34;
      list = refl;
      comma = refl;
    }

pub operands-read : {text : List ℕ} {es : List Tree} → Operands text es → moves start text ≡ Ok (st operand [] 0 es)
operands-read none = moves-none _
operands-read (more text part es fs h o) =
    let q = operand-read o es in
    moves-on _ _ text (part ++ 44 ∷ []) (operands-read h) ∙ moves-on _ _ part (44 ∷ []) q.read ∙ moves-one _ 44 ∙ q.comma

-- a field, where constants and parentheses have no bound
abbrev pub free : List ℕ → Result (List Tree) ExprFault
free [] = Ok (number 0 ∷ [])
free (b ∷ bs) = reading_end (moves start (b ∷ bs))

pub free-some : (xs : List ℕ) → 0 < length xs → free xs ≡ reading_end (moves start xs)
free-some xs h = grind arith

product-some : {text : List ℕ} {e : Tree} → Product text e → 0 < length text
product-some (primary t e h) = let head = primary-headed t e h in omega (arith, ap length head.spelled)
product-some (times t word part op l r h w g) = let some = product-some h in omega (arith, length-append t (word ++ part))

pub sum-some : {text : List ℕ} {e : Tree} → Sum text e → 0 < length text
sum-some h = search (rules, product-some, length-append)

operand-some : {part : List ℕ} {fs : List Tree} → Operand part fs → 0 < length part
operand-some h = search (rules, sum-some)

pub spelled-free : {field : List ℕ} {list : List Tree} → Spells field list → free field ≡ Ok list
spelled-free empty = refl
spelled-free (operands text part es fs h o) =
    let q = operand-read o es in
    let some = operand-some o in
    free-some (text ++ part) (omega (arith, length-append text part)) ∙ ap reading_end (moves-on _ _ text part (operands-read h) ∙ q.read) ∙ q.list

-- A field spells one list at most.
same-ok : (x y : List Tree) (r : Result (List Tree) ExprFault) → r ≡ Ok x → r ≡ Ok y → x ≡ y
same-ok x y r h k = cc

pub one-list : (field : List ℕ) (a b : List Tree) → Spells field a → Spells field b → a ≡ b
one-list field a b h k = same-ok a b (free field) (spelled-free h) (spelled-free k)

-- A state in which a primary is wanted; after `/` it may also be one more `/`.
pub data Wants : State → List Waiting → ℕ → List Tree → Type 0 where
  at_operand : (k : List Waiting) (d : ℕ) (es : List Tree) → Wants (st operand k d es) k d es
  at_slash : (l : Tree) (k : List Waiting) (d : ℕ) (es : List Tree) → Wants (st (slash l) k d es) (strong Div l ∷ k) d es

pub wants-move : {s : State} {k : List Waiting} {d : ℕ} {es : List Tree} → Wants s k d es → (b : ℕ) → (b == 47) ≡ false → move s b ≡ move (st operand k d es) b
wants-move (at_operand k d es) b h = refl
wants-move (at_slash l k d es) b h = slash-move l k d es b h

pub wants-moves : {s : State} {k : List Waiting} {d : ℕ} {es : List Tree} → Wants s k d es → (text : List ℕ) → Headed text → moves s text ≡ moves (st operand k d es) text
unfolding moves
wants-moves {s = s} {k = k} {d = d} {es = es} w text h = cc (wants-move w h.b h.other)

-- what is before a primary is read
pub record Stood (depth : ℕ) (front : List ℕ) : Type 0 where
  pub state : State
  pub k : List Waiting
  pub es : List Tree
  pub read : moves start front ≡ Ok state
  pub wants : Wants state k depth es

after-word : (word : List ℕ) (op : BinOp) (mode : Mode) (rest k : List Waiting) (l : Tree) (d : ℕ) (es : List Tree) → StrongOperator word op → ends mode rest ≡ Some (l, k) →
    (s : State) × (moves (st mode rest d es) word ≡ Ok s) × Wants s (strong op l ∷ k) d es
after-word word op mode rest k l d es mul e = (_, moves-one _ 42 ∙ goes-beyond mode rest (l, k) d es 42 e refl, at_operand _ d es)
after-word word op mode rest k l d es div e = (_, moves-one _ 47 ∙ goes-beyond mode rest (l, k) d es 47 e refl, at_slash l k d es)
after-word word op mode rest k l d es fraction e = (_, moves-first _ _ 47 (47 ∷ []) (goes-beyond mode rest (l, k) d es 47 e refl) ∙ moves-one _ 47, at_operand _ d es)
after-word word op mode rest k l d es rem e = (_, moves-one _ 37 ∙ goes-beyond mode rest (l, k) d es 37 e refl, at_operand _ d es)
after-word word op mode rest k l d es left e = (_, moves-first _ _ 60 (60 ∷ []) (goes-beyond mode rest (l, k) d es 60 e refl) ∙ moves-one _ 60, at_operand _ d es)
after-word word op mode rest k l d es right e = (_, moves-first _ _ 62 (62 ∷ []) (goes-beyond mode rest (l, k) d es 62 e refl) ∙ moves-one _ 62, at_operand _ d es)
after-word word op mode rest k l d es and e = (_, moves-one _ 38 ∙ goes-beyond mode rest (l, k) d es 38 e refl, at_operand _ d es)

headed-on : (part word : List ℕ) → Headed part → Headed (part ++ word)
headed-on part word h = record { b = h.b; bs = h.bs ++ word; spelled = ap (λ x. x ++ word) h.spelled; other = h.other }

pub before-stood : {depth : ℕ} {front : List ℕ} → Before depth front → Stood depth front
before-stood (first text es h) = record { state = st operand [] 0 es; k = []; es = es; read = operands-read h; wants = at_operand [] 0 es }
before-stood (before_sign depth text b op h s) =
    let q = before-stood h in
    record {
      state = st operand (sign op ∷ q.k) depth q.es;
      k = sign op ∷ q.k;
      es = q.es;
      read = moves-on _ _ text (b ∷ []) q.read ∙ moves-one _ b ∙ wants-move q.wants b (sign-other b op s) ∙ sign-step b op q.k depth q.es s;
      wants = at_operand _ depth q.es;
    }
before-stood (before_parenthesis depth text h) =
    let q = before-stood h in
    record {
      state = st operand (parenthesis ∷ q.k) (depth + 1) q.es;
      k = parenthesis ∷ q.k;
      es = q.es;
      read = moves-on _ _ text (40 ∷ []) q.read ∙ moves-one _ 40 ∙ wants-move q.wants 40 refl;
      wants = at_operand _ (depth + 1) q.es;
    }
before-stood (before_strong depth text part word e op h g w) =
    let q = before-stood h in
    let p = primary-ended g q.k depth q.es in
    let a = after-word word op p.mode p.rest (with_strong q.k e).1 (with_strong q.k e).0 depth q.es w p.ending in
    record {
      state = a.0;
      k = strong op (with_strong q.k e).0 ∷ (with_strong q.k e).1;
      es = q.es;
      read = moves-on _ _ text (part ++ word) q.read ∙ wants-moves q.wants (part ++ word) (headed-on part word (primary-headed part e g)) ∙ moves-on _ _ part word p.read ∙ a.1;
      wants = a.2;
    }
before-stood (before_weak depth text part b e op h g w) =
    let q = before-stood h in
    let p = primary-ended g q.k depth q.es in
    let s = with_weak (with_strong q.k e).1 (with_strong q.k e).0 in
    record {
      state = st operand (weak op s.0 ∷ s.1) depth q.es;
      k = weak op s.0 ∷ s.1;
      es = q.es;
      read = moves-on _ _ text (part ++ b ∷ []) q.read ∙ wants-moves q.wants (part ++ b ∷ []) (headed-on part (b ∷ []) (primary-headed part e g)) ∙ moves-on _ _ part (b ∷ []) p.read
          ∙ moves-one _ b ∙ weak-step b op p.mode p.rest (with_strong q.k e) depth q.es w p.ending;
      wants = at_operand _ depth q.es;
    }
