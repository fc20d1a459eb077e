-- What was read of an operand, by what waits.
use Rattle.std.proofs.Common.{◌≡◌, ℕ, ◌+◌, List, [], ◌∷◌, ◌++◌, refl, sym, ap, ◌∙◌, append_assoc, append-nil, subst, rules, arith}
use Rattle.mx_expr.proofs.Words.{UnOp, BinOp, Tree, unary, binary, with_strong, with_weak, Waiting, sign, strong, weak, parenthesis, Sign, StrongOperator, WeakOperator, Primary, Product, Sum, Operands, Before, enclosed, signed, primary, times, product, first}
use Rattle.mx_expr.specs.Spelling.Sum.{plus as sum_plus}
use Rattle.mx_expr.specs.Spelling.Before.{sign as before_sign, parenthesis as before_parenthesis, strong as before_strong, weak as before_weak}
use Rattle.mx_expr.proofs.Forward.{Plain, Level}

pub record SignBy (op : UnOp) (P : List ℕ → Type 0) (text : List ℕ) : Type 0 where
  pub front : List ℕ
  pub b : ℕ
  pub operator : Sign b op
  pub before : P front
  pub spelled : text ≡ front ++ b ∷ []

pub record StrongBy (k : List Waiting) (op : BinOp) (l : Tree) (P : List ℕ → Type 0) (text : List ℕ) : Type 0 where
  pub plain : Plain k
  pub front : List ℕ
  pub part : List ℕ
  pub word : List ℕ
  pub whole : Product part l
  pub operator : StrongOperator word op
  pub before : P front
  pub spelled : text ≡ front ++ (part ++ word)

pub record WeakBy (k : List Waiting) (op : BinOp) (l : Tree) (P : List ℕ → Type 0) (text : List ℕ) : Type 0 where
  pub level : Level k
  pub front : List ℕ
  pub part : List ℕ
  pub b : ℕ
  pub whole : Sum part l
  pub operator : WeakOperator b op
  pub before : P front
  pub spelled : text ≡ front ++ (part ++ b ∷ [])

pub record OpenBy (P : ℕ → List ℕ → Type 0) (depth : ℕ) (text : List ℕ) : Type 0 where
  pub below : ℕ
  pub deeper : depth ≡ below + 1
  pub front : List ℕ
  pub before : P below front
  pub spelled : text ≡ front ++ 40 ∷ []

abbrev pub Partial : List Waiting → ℕ → List ℕ → Type 0
Partial [] d text = (d ≡ 0) × (text ≡ [])
Partial (sign op ∷ k) d text = SignBy op (Partial k d) text
Partial (strong op l ∷ k) d text = StrongBy k op l (Partial k d) text
Partial (weak op l ∷ k) d text = WeakBy k op l (Partial k d) text
Partial (parenthesis ∷ k) d text = OpenBy (λ n. Partial k n) d text

-- a product after what waits; a sum after what waits
pub record Settled (d : ℕ) (text : List ℕ) (p : Tree × List Waiting) : Type 0 where
  pub front : List ℕ
  pub part : List ℕ
  pub before : Partial p.1 d front
  pub plain : Plain p.1
  pub whole : Product part p.0
  pub spelled : text ≡ front ++ part

pub record SumIs (d : ℕ) (text : List ℕ) (p : Tree × List Waiting) : Type 0 where
  pub front : List ℕ
  pub part : List ℕ
  pub before : Partial p.1 d front
  pub level : Level p.1
  pub whole : Sum part p.0
  pub spelled : text ≡ front ++ part

around : (front : List ℕ) (b : ℕ) (part text : List ℕ) → text ≡ front ++ b ∷ [] → front ++ b ∷ part ≡ text ++ part
around front b part text e = sym (ap (λ t. t ++ part) e ∙ append_assoc front (b ∷ []) part)

regroup : (a b c q : List ℕ) → (a ++ (b ++ c)) ++ q ≡ a ++ (b ++ (c ++ q))
regroup a b c q = append_assoc a (b ++ c) q ∙ ap (λ t. a ++ t) (append_assoc b c q)

pub settle-is : (k : List Waiting) (d : ℕ) (front part : List ℕ) (e : Tree) → Partial k d front → Primary part e → Settled d (front ++ part) (with_strong k e)
settle-is [] d front part e h g = record { front = []; part = part; before = (h.0, refl); plain = tt; whole = primary part e g; spelled = ap (λ t. t ++ part) h.1 }
settle-is (sign op ∷ k) d front part e h g =
    subst (λ t. Settled d t (with_strong k (unary op e))) (around h.front h.b part front h.spelled) (settle-is k d h.front (h.b ∷ part) (unary op e) h.before (signed h.b op part e h.operator g))
settle-is (strong op l ∷ k) d front part e h g =
    record {
      front = h.front;
      part = h.part ++ (h.word ++ part);
      before = h.before;
      plain = h.plain;
      whole = times h.part h.word part op l e h.whole h.operator g;
      spelled = ap (λ t. t ++ part) h.spelled ∙ regroup h.front h.part h.word part;
    }
settle-is k d front part e h g = record { front = front; part = part; before = h; plain = tt; whole = primary part e g; spelled = refl }

pub sum-is : (k : List Waiting) (d : ℕ) (front part : List ℕ) (e : Tree) → Partial k d front → Plain k → Product part e → SumIs d (front ++ part) (with_weak k e)
sum-is (sign op ∷ k) d front part e h p g = absurd p
sum-is (strong op l ∷ k) d front part e h p g = absurd p
sum-is (weak op l ∷ k) d front part e h p g =
    record {
      front = h.front;
      part = h.part ++ h.b ∷ part;
      before = h.before;
      level = h.level;
      whole = sum_plus h.part h.b part op l e h.whole h.operator g;
      spelled = ap (λ t. t ++ part) h.spelled ∙ regroup h.front h.part (h.b ∷ []) part;
    }
sum-is k d front part e h p g = record { front = front; part = part; before = h; level = tt; whole = product part e g; spelled = refl }

-- What waits closes to a sum: some text goes on what was read to an expression.
pub data Piece (k : List Waiting) (part : List ℕ) (e : Tree) : Type 0 where
  a_primary : Primary part e → Piece k part e
  a_product : Plain k → Product part e → Piece k part e
  a_sum : Level k → Sum part e → Piece k part e

piece-sum : (k : List Waiting) (part : List ℕ) (e : Tree) → Piece k part e → Sum part e
piece-sum k part e (a_primary h) = product part e (primary part e h)
piece-sum k part e (a_product p h) = product part e h
piece-sum k part e (a_sum l h) = h

pub record Closed (text : List ℕ) : Type 0 where
  pub rest : List ℕ
  pub e : Tree
  pub whole : Sum (text ++ rest) e

pub closed-by : (text longer : List ℕ) (more : List ℕ) → longer ≡ text ++ more → Closed longer → Closed text
closed-by text longer more e c = record { rest = more ++ c.rest; e = c.e; whole = subst (λ t. Sum t c.e) (ap (λ t. t ++ c.rest) e ∙ append_assoc text more c.rest) c.whole }

pub same-closed : (text other : List ℕ) → other ≡ text → Closed other → Closed text
same-closed text other e c = subst Closed e c

weak-piece : (k : List Waiting) (op : BinOp) (l : Tree) (part : List ℕ) (e : Tree) → Piece (weak op l ∷ k) part e → Product part e
weak-piece k op l part e (a_primary h) = primary part e h
weak-piece k op l part e (a_product p h) = h
weak-piece k op l part e (a_sum v h) = absurd v

strong-piece : (k : List Waiting) (op : BinOp) (l : Tree) (part : List ℕ) (e : Tree) → Piece (strong op l ∷ k) part e → Primary part e
strong-piece k op l part e h = search rules

sign-piece : (k : List Waiting) (op : UnOp) (part : List ℕ) (e : Tree) → Piece (sign op ∷ k) part e → Primary part e
sign-piece k op part e h = search rules

pub closes : (k : List Waiting) (d : ℕ) (front part : List ℕ) (e : Tree) → Partial k d front → Piece k part e → Closed (front ++ part)
closes [] d front part e h g =
    record { rest = []; e = e; whole = subst (λ t. Sum t e) (sym (append-nil (front ++ part) ∙ ap (λ t. t ++ part) h.1)) (piece-sum [] part e g) }
closes (sign op ∷ k) d front part e h g =
    same-closed (front ++ part) _ (around h.front h.b part front h.spelled) (closes k d h.front (h.b ∷ part) (unary op e) h.before (a_primary (signed h.b op part e h.operator (sign-piece k op part e g))))
closes (strong op l ∷ k) d front part e h g =
    same-closed (front ++ part) _ (sym (ap (λ t. t ++ part) h.spelled ∙ regroup h.front h.part h.word part))
    (closes k d h.front (h.part ++ (h.word ++ part)) (binary op l e) h.before (a_product h.plain (times h.part h.word part op l e h.whole h.operator (strong-piece k op l part e g))))
closes (weak op l ∷ k) d front part e h g =
    same-closed (front ++ part) _ (sym (ap (λ t. t ++ part) h.spelled ∙ regroup h.front h.part (h.b ∷ []) part))
    (closes k d h.front (h.part ++ h.b ∷ part) (binary op l e) h.before (a_sum h.level (sum_plus h.part h.b part op l e h.whole h.operator (weak-piece k op l part e g))))
closes (parenthesis ∷ k) d front part e h g =
    closed-by (front ++ part) (h.front ++ 40 ∷ (part ++ 41 ∷ [])) (41 ∷ [])
    (around h.front 40 (part ++ 41 ∷ []) front h.spelled ∙ sym (append_assoc front part (41 ∷ [])))
    (closes k h.below h.front (40 ∷ (part ++ 41 ∷ [])) e h.before (a_primary (enclosed part e (piece-sum (parenthesis ∷ k) part e g))))

-- what is before a primary, with operands before it
pub before-product : (d : ℕ) (text : List ℕ) {part : List ℕ} {e : Tree} → Product part e → Before d text → (word : List ℕ) (op : BinOp) → StrongOperator word op → Before d (text ++ (part ++ word))
before-product d text (primary part e h) t word op w = before_strong d text part word e op t h w
before-product d text (times left word1 right op1 l r h w1 g) t word op w =
    let e : (text ++ (left ++ word1)) ++ (right ++ word) ≡ text ++ ((left ++ (word1 ++ right)) ++ word) = simp append_assoc refl in
    subst (Before d) e (before_strong d (text ++ (left ++ word1)) right word r op (before-product d text h t word1 op1 w1) g w)

before-last : (d : ℕ) (text : List ℕ) {part : List ℕ} {e : Tree} → Product part e → Before d text → (b : ℕ) (op : BinOp) → WeakOperator b op → Before d (text ++ (part ++ b ∷ []))
before-last d text (primary part e h) t b op w = before_weak d text part b e op t h w
before-last d text (times left word1 right op1 l r h w1 g) t b op w =
    let e : (text ++ (left ++ word1)) ++ (right ++ b ∷ []) ≡ text ++ ((left ++ (word1 ++ right)) ++ b ∷ []) = simp append_assoc refl in
    subst (Before d) e (before_weak d (text ++ (left ++ word1)) right b r op (before-product d text h t word1 op1 w1) g w)

pub before-sum : (d : ℕ) (text : List ℕ) {part : List ℕ} {e : Tree} → Sum part e → Before d text → (b : ℕ) (op : BinOp) → WeakOperator b op → Before d (text ++ (part ++ b ∷ []))
before-sum d text (product part e h) t b op w = before-last d text h t b op w
before-sum d text (sum_plus left c right op1 l r h w1 g) t b op w =
    let e : (text ++ (left ++ c ∷ [])) ++ (right ++ b ∷ []) ≡ text ++ ((left ++ c ∷ right) ++ b ∷ []) = simp append_assoc refl in
    subst (Before d) e (before-last d (text ++ (left ++ c ∷ [])) g (before-sum d text h t c op1 w1) b op w)

pub partial-before : (text : List ℕ) (es : List Tree) → Operands text es → (k : List Waiting) (d : ℕ) (part : List ℕ) → Partial k d part → Before d (text ++ part)
partial-before text es o [] d part h =
    subst (λ n. Before n (text ++ part)) (sym h.0) (subst (Before 0) (sym (ap (λ t. text ++ t) h.1 ∙ append-nil text)) (first text es o))
partial-before text es o (sign op ∷ k) d part h =
    subst (Before d) (append_assoc text h.front (h.b ∷ []) ∙ ap (λ t. text ++ t) (sym h.spelled)) (before_sign d (text ++ h.front) h.b op (partial-before text es o k d h.front h.before) h.operator)
partial-before text es o (strong op l ∷ k) d part h = grind (arith, append_assoc, before-product, partial-before text es o k d h.front h.before)
partial-before text es o (weak op l ∷ k) d part h = grind (arith, append_assoc, before-sum, partial-before text es o k d h.front h.before)
partial-before text es o (parenthesis ∷ k) d part h =
    subst (λ n. Before n (text ++ part)) (sym h.deeper)
    (subst (Before (h.below + 1)) (append_assoc text h.front (40 ∷ []) ∙ ap (λ t. text ++ t) (sym h.spelled)) (before_parenthesis h.below (text ++ h.front) (partial-before text es o k h.below h.front h.before)))
