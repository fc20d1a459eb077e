-- What a state that was reached says of the field: its list, a spelled field that begins so, and a
-- bound that is passed.
use Rattle.std.proofs.Common.{◌≡◌, ℕ, List, [], ◌∷◌, ◌++◌, map, Result, Ok, Err, refl, sym, ◌∙◌, arith, append-nil, subst, rules}
use Rattle.mx_expr.proofs.Words.{ExprFault, Syntax, Div, Left, Right, Tree, number, name, here, binary, is_digit, Waiting, Mode, operand, whole, digit, decimal, hash, hexadecimal, quote, character, symbol, slash, less, greater, string, closed, State, with_strong, with_weak, listed, field_end, Primary, Product, Operand, Spells, Begins, div, left, right, constant, place, times, expression, operands}
use Rattle.mx_expr.specs.Spelling.Constant.{hexadecimal as hexadecimal_digits}
use Rattle.mx_expr.specs.Spelling.Primary.{character as spelled_character}
use Rattle.mx_expr.specs.Spelling.Operand.{string as spelled_string}
use Rattle.mx_expr.proofs.Forward.{Plain}
use Rattle.mx_expr.proofs.Partial.{Partial, SumIs, settle-is, sum-is, Piece, Closed, closes, closed-by, same-closed}
use Rattle.mx_expr.proofs.Partial.Piece.{a_primary, a_product}
use Rattle.mx_expr.proofs.Holds.{After, Digits, Hashed, OneDigit, Letters, Operating, At, Holds, Place, grown, whole-sum}
use Rattle.mx_expr.proofs.Steps.{one-digit, decimal-primary, hexadecimal-primary, symbol-primary, reshaped}

-- the list at the end
abbrev pub GoodList : Result (List Tree) ExprFault → List ℕ → Type 0
GoodList (Err f) front = f ≡ Syntax
GoodList (Ok list) front = Spells front list

listed-good : (front text part : List ℕ) (es : List Tree) (d : ℕ) (x : Tree) (k : List Waiting) → Place front text part es → SumIs d part (x, k) → GoodList (listed (x, k) es) front
listed-good front text part es d x [] p s = subst (λ t. Spells t (es ++ x ∷ [])) (sym p.spelled) (operands text part es (x ∷ []) p.before (expression part x (whole-sum d part x s)))
listed-good front text part es d x (w ∷ k) p s = refl

product-list : (front text part : List ℕ) (es : List Tree) (k : List Waiting) (d : ℕ) (e : Tree) → Place front text part es → Plain k → After k d (λ t. Product t e) part → GoodList (listed (with_weak k e) es) front
product-list front text part es k d e p n a = search (rules, listed-good, sum-is)

primary-list : (front text part : List ℕ) (es : List Tree) (k : List Waiting) (d : ℕ) (e : Tree) → Place front text part es → After k d (λ t. Primary t e) part → GoodList (listed (with_weak (with_strong k e).1 (with_strong k e).0) es) front
primary-list front text part es k d e p a =
    let s = settle-is k d a.front a.part e a.before a.shape in
    product-list front text part es (with_strong k e).1 d (with_strong k e).0 p s.plain (record { front = s.front; part = s.part; before = s.before; shape = s.whole; spelled = a.spelled ∙ s.spelled })

list-good : (mode : Mode) (front text part : List ℕ) (es done : List Tree) (k : List Waiting) (d : ℕ) → Place front text part es → At mode k d done es part → GoodList (field_end mode k done) front
list-good (whole e) front text part es done k d p a = subst (λ x. GoodList (listed (with_weak k e) x) front) (sym a.0) (product-list front text part es k d e p a.1 a.2)
list-good (digit n) front text part es done k d p a =
    subst (λ x. GoodList (field_end (digit n) k x) front) (sym a.0) (primary-list front text part es k d (number n) p (reshaped k d (OneDigit n) (λ x. Primary x (number n)) part (λ x h. decimal-primary n x (one-digit n x h)) a.1))
list-good (decimal n) front text part es done k d p a =
    subst (λ x. GoodList (field_end (decimal n) k x) front) (sym a.0) (primary-list front text part es k d (number n) p (reshaped k d (Digits is_digit 10 n) (λ x. Primary x (number n)) part (λ x h. decimal-primary n x h) a.1))
list-good (hexadecimal n) front text part es done k d p a =
    subst (λ x. GoodList (field_end (hexadecimal n) k x) front) (sym a.0) (primary-list front text part es k d (number n) p (reshaped k d (Hashed n) (λ x. Primary x (number n)) part (λ x h. hexadecimal-primary n x h) a.1))
list-good (symbol word) front text part es done k d p a =
    subst (λ x. GoodList (field_end (symbol word) k x) front) (sym a.0) (primary-list front text part es k d (name word) p (reshaped k d (Letters word) (λ x. Primary x (name word)) part (λ x h. symbol-primary word x h) a.1))
list-good closed front text part es done k d p a =
    subst (λ x. Spells front x) (sym a.listed) (subst (λ t. Spells t (es ++ map number a.bytes)) (sym p.spelled)
    (operands text part es (map number a.bytes) p.before (subst (λ t. Operand t (map number a.bytes)) (sym a.shape) (spelled_string a.bytes a.all))))
list-good mode front text part es done k d p a = refl

placed : (s : State) (front : List ℕ) (h : Holds s front) → Place front h.text h.part h.es
placed s front h = record { before = h.before; spelled = h.spelled }

pub finish-good : (s : State) (front : List ℕ) → Holds s front → GoodList (field_end s.mode s.waiting s.done) front
finish-good s front h = list-good s.mode front h.text h.part h.es s.done s.waiting s.depth (placed s front h) h.is_there

-- Some spelled field begins with what was read.
from-closed : (front text part : List ℕ) (es : List Tree) → Place front text part es → Closed part → Begins front
from-closed front text part es p c = (
  c.rest,
  es ++ c.e ∷ [],
  subst (λ t. Spells t (es ++ c.e ∷ [])) (sym (grown text part c.rest front p.spelled)) (operands text (part ++ c.rest) es (c.e ∷ []) p.before (expression (part ++ c.rest) c.e c.whole)),
)

closed-with : (k : List Waiting) (d : ℕ) (part f q tail : List ℕ) (e : Tree) → part ≡ f ++ q → Partial k d f → Piece k (q ++ tail) e → Closed part
closed-with k d part f q tail e s h g = closed-by part (f ++ (q ++ tail)) tail (sym (grown f q tail part s)) (closes k d f (q ++ tail) e h g)

closed-as : (k : List Waiting) (d : ℕ) (part f q : List ℕ) (e : Tree) → part ≡ f ++ q → Partial k d f → Piece k q e → Closed part
closed-as k d part f q e s h g = same-closed part (f ++ q) (sym s) (closes k d f q e h g)

two-times : (k : List Waiting) (d : ℕ) (part : List ℕ) (e : Tree) (b : ℕ) (tail : List ℕ) (x : Tree) → Plain k → (a : After k d (Operating e b) part) → Product (a.shape.part ++ (b ∷ tail)) x → Closed part
two-times k d part e b tail x n a g =
    let o = a.shape in
    closed-with k d part a.front a.part tail x a.spelled a.before
    (a_product n (subst (λ t. Product t x) (sym (grown o.part (b ∷ []) tail a.part o.spelled)) g))

begun-closed : (mode : Mode) (part : List ℕ) (es done : List Tree) (k : List Waiting) (d : ℕ) → At mode k d done es part → (text front : List ℕ) → Place front text part es → Begins front
begun-closed operand part es done k d a text front p = from-closed front text part es p (closed-by part (part ++ 64 ∷ []) (64 ∷ []) refl (closes k d part (64 ∷ []) here a.1 (a_primary place)))
begun-closed (whole e) part es done k d a text front p = let w = a.2 in from-closed front text part es p (closed-as k d part w.front w.part e w.spelled w.before (a_product a.1 w.shape))
begun-closed (digit n) part es done k d a text front p = let w = a.1 in from-closed front text part es p (closed-as k d part w.front w.part (number n) w.spelled w.before (a_primary (decimal-primary n w.part (one-digit n w.part w.shape))))
begun-closed (decimal n) part es done k d a text front p = let w = a.1 in from-closed front text part es p (closed-as k d part w.front w.part (number n) w.spelled w.before (a_primary (decimal-primary n w.part w.shape)))
begun-closed hash part es done k d a text front p =
    let w = a.1 in
    from-closed front text part es p (closed-with k d part w.front w.part (48 ∷ []) (number 0) w.spelled w.before (a_primary (subst (λ t. Primary (t ++ 48 ∷ []) (number 0)) (sym w.shape) (constant (35 ∷ 48 ∷ []) 0 (hexadecimal_digits (48 ∷ []) (omega arith) refl)))))
begun-closed (hexadecimal n) part es done k d a text front p = let w = a.1 in from-closed front text part es p (closed-as k d part w.front w.part (number n) w.spelled w.before (a_primary (hexadecimal-primary n w.part w.shape)))
begun-closed quote part es done k d a text front p =
    let w = a.1 in
    from-closed front text part es p (closed-with k d part w.front w.part (0 ∷ 39 ∷ []) (number 0) w.spelled w.before (a_primary (subst (λ t. Primary (t ++ 0 ∷ 39 ∷ []) (number 0)) (sym w.shape) (spelled_character 0))))
begun-closed (character c) part es done k d a text front p =
    let w = a.1 in
    from-closed front text part es p (closed-with k d part w.front w.part (39 ∷ []) (number c) w.spelled w.before (a_primary (subst (λ t. Primary (t ++ 39 ∷ []) (number c)) (sym w.shape) (spelled_character c))))
begun-closed (symbol word) part es done k d a text front p = let w = a.1 in from-closed front text part es p (closed-as k d part w.front w.part (name word) w.spelled w.before (a_primary (symbol-primary word w.part w.shape)))
begun-closed (slash e) part es done k d a text front p =
    from-closed front text part es p (two-times k d part e 47 (64 ∷ []) (binary Div e here) a.1 a.2 (times a.2.shape.part (47 ∷ []) (64 ∷ []) Div e here a.2.shape.whole div place))
begun-closed (less e) part es done k d a text front p =
    from-closed front text part es p (two-times k d part e 60 (60 ∷ 64 ∷ []) (binary Left e here) a.1 a.2 (times a.2.shape.part (60 ∷ 60 ∷ []) (64 ∷ []) Left e here a.2.shape.whole left place))
begun-closed (greater e) part es done k d a text front p =
    from-closed front text part es p (two-times k d part e 62 (62 ∷ 64 ∷ []) (binary Right e here) a.1 a.2 (times a.2.shape.part (62 ∷ 62 ∷ []) (64 ∷ []) Right e here a.2.shape.whole right place))
begun-closed (string fresh) part es done k d a text front p = (
  34 ∷ [],
  es ++ map number a.bytes,
  subst (λ t. Spells t (es ++ map number a.bytes)) (sym (grown text part (34 ∷ []) front p.spelled))
      (operands text (part ++ 34 ∷ []) es (map number a.bytes) p.before (subst (λ t. Operand (t ++ 34 ∷ []) (map number a.bytes)) (sym a.shape.0) (spelled_string a.bytes a.all))),
)
begun-closed closed part es done k d a text front p = (
  [],
  es ++ map number a.bytes,
  subst (λ t. Spells t (es ++ map number a.bytes)) (sym (append-nil front ∙ p.spelled))
      (operands text part es (map number a.bytes) p.before (subst (λ t. Operand t (map number a.bytes)) (sym a.shape) (spelled_string a.bytes a.all))),
)

pub begins : (s : State) (front : List ℕ) → Holds s front → Begins front
begins s front h = begun-closed s.mode h.part h.es s.done s.waiting s.depth h.is_there h.text front (placed s front h)
