-- What was read up to a state.
use Rattle.std.proofs.Common.{◌≡◌, ℕ, ◌+◌, ◌-◌, ◌<◌, List, [], ◌∷◌, ◌++◌, length, map, Bool, true, false, Option, Some, Ok, Err, refl, sym, ap, ◌∙◌, arith, append_assoc, append-nil, subst, ◌==◌}
use Rattle.mx_expr.proofs.Words.{list_all, cond_both, eqb-true, Syntax, UnOp, BinOp, Mul, Rem, And, Add, Sub, Or, Xor, Tree, number, here, is_digit, is_hexadecimal, is_letter, is_name_byte, is_no_quote, digit_value, with_strong, with_weak, Waiting, strong, parenthesis, Mode, operand, whole, digit, decimal, hash, hexadecimal, quote, character, symbol, slash, less, greater, string, closed, State, Read, primary_start, mark_start, string_start, primary_end, weakly, listed, next_operand, weakly_or_end, strongly, after, beyond, digits_value, Sign, StrongOperator, WeakOperator, Primary, Product, Sum, Operands, plus, minus, register, mul, rem, and, add, sub, or, xor, place, expression, nat_tests, common_steps}
use Rattle.mx_expr.specs.declared.tree.UnOp.TheVariants.{Plus, Minus, Not, Register}
use Rattle.mx_expr.specs.Reading.{signed, enclosed}
use Rattle.mx_expr.specs.Spelling.Sign.{not as not_sign}
use Rattle.mx_expr.specs.Spelling.Primary.{enclosed as spelled_enclosed}
use Rattle.mx_expr.specs.Spelling.Operands.{more as one_more}
use Rattle.mx_expr.proofs.Moves.{st}
use Rattle.mx_expr.proofs.Forward.{Plain}
use Rattle.mx_expr.proofs.Partial.{Partial, SumIs, settle-is, sum-is}

-- a text of a shape after what waits
pub record After (k : List Waiting) (d : ℕ) (Shape : List ℕ → Type 0) (text : List ℕ) : Type 0 where
  pub front : List ℕ
  pub part : List ℕ
  pub before : Partial k d front
  pub shape : Shape part
  pub spelled : text ≡ front ++ part

-- digits to a base
pub record Digits (kind : ℕ → Bool) (base n : ℕ) (text : List ℕ) : Type 0 where
  pub some : 0 < length text
  pub all : list_all kind text ≡ true
  pub value : n ≡ digits_value base text

pub record Hashed (n : ℕ) (text : List ℕ) : Type 0 where
  pub digits : List ℕ
  pub are : Digits is_hexadecimal 16 n digits
  pub spelled : text ≡ 35 ∷ digits

pub record OneDigit (n : ℕ) (text : List ℕ) : Type 0 where
  pub b : ℕ
  pub is : is_digit b ≡ true
  pub value : n ≡ digit_value b
  pub spelled : text ≡ b ∷ []

pub record Letters (word text : List ℕ) : Type 0 where
  pub b : ℕ
  pub bs : List ℕ
  pub is : is_letter b ≡ true
  pub all : list_all is_name_byte bs ≡ true
  pub value : word ≡ b ∷ bs
  pub spelled : text ≡ b ∷ bs

pub record Operating (e : Tree) (b : ℕ) (text : List ℕ) : Type 0 where
  pub part : List ℕ
  pub whole : Product part e
  pub spelled : text ≡ part ++ b ∷ []

-- whether a text has no byte
abbrev pub is_empty : List ℕ → Bool
is_empty [] = true
is_empty (b ∷ bs) = false

pub record Quoted (k : List Waiting) (d : ℕ) (done es : List Tree) (Shape : List ℕ → List ℕ → Type 0) (text : List ℕ) : Type 0 where
  pub nothing : k ≡ []
  pub shallow : d ≡ 0
  pub bytes : List ℕ
  pub all : list_all is_no_quote bytes ≡ true
  pub listed : done ≡ es ++ map number bytes
  pub shape : Shape bytes text

abbrev pub At : Mode → List Waiting → ℕ → List Tree → List Tree → List ℕ → Type 0
At operand k d done es text = (done ≡ es) × Partial k d text
At (whole e) k d done es text = (done ≡ es) × Plain k × After k d (λ t. Product t e) text
At (digit n) k d done es text = (done ≡ es) × After k d (OneDigit n) text
At (decimal n) k d done es text = (done ≡ es) × After k d (Digits is_digit 10 n) text
At hash k d done es text = (done ≡ es) × After k d (λ t. t ≡ 35 ∷ []) text
At (hexadecimal n) k d done es text = (done ≡ es) × After k d (Hashed n) text
At quote k d done es text = (done ≡ es) × After k d (λ t. t ≡ 39 ∷ []) text
At (character c) k d done es text = (done ≡ es) × After k d (λ t. t ≡ 39 ∷ c ∷ []) text
At (symbol word) k d done es text = (done ≡ es) × After k d (Letters word) text
At (slash e) k d done es text = (done ≡ es) × Plain k × After k d (Operating e 47) text
At (less e) k d done es text = (done ≡ es) × Plain k × After k d (Operating e 60) text
At (greater e) k d done es text = (done ≡ es) × Plain k × After k d (Operating e 62) text
At (string fresh) k d done es text = Quoted k d done es (λ bytes t. (t ≡ 34 ∷ bytes) × (fresh ≡ is_empty bytes)) text
At closed k d done es text = Quoted k d done es (λ bytes t. t ≡ 34 ∷ (bytes ++ 34 ∷ [])) text

pub record Holds (s : State) (front : List ℕ) : Type 0 where
  pub text : List ℕ
  pub es : List Tree
  pub part : List ℕ
  pub before : Operands text es
  pub is_there : At s.mode s.waiting s.depth s.done es part
  pub spelled : front ≡ text ++ part

abbrev pub Good : Read → List ℕ → Type 0
Good (Err f) front = f ≡ Syntax
Good (Ok s) front = Holds s front

-- operands, and the text of the last one
pub record Place (front : List ℕ) (text part : List ℕ) (es : List Tree) : Type 0 where
  pub before : Operands text es
  pub spelled : front ≡ text ++ part

pub holds : (front text part : List ℕ) (es done : List Tree) (mode : Mode) (k : List Waiting) (d : ℕ) → Place front text part es → At mode k d done es part → Holds (st mode k d done) front
holds front text part es done mode k d p a = record { text = text; es = es; part = part; before = p.before; is_there = a; spelled = p.spelled }

pub grown : (f q tail text : List ℕ) → text ≡ f ++ q → text ++ tail ≡ f ++ (q ++ tail)
grown f q tail text e = ap (λ t. t ++ tail) e ∙ append_assoc f q tail

-- one more byte of a token
pub longer : (k : List Waiting) (d : ℕ) (Shape Other : List ℕ → Type 0) (text : List ℕ) (b : ℕ) (h : After k d Shape text) → Other (h.part ++ b ∷ []) → After k d Other (text ++ b ∷ [])
longer k d Shape Other text b h o = record { front = h.front; part = h.part ++ b ∷ []; before = h.before; shape = o; spelled = grown h.front h.part (b ∷ []) text h.spelled }

begun : (k : List Waiting) (d : ℕ) (Shape : List ℕ → Type 0) (text : List ℕ) (b : ℕ) → Partial k d text → Shape (b ∷ []) → After k d Shape (text ++ b ∷ [])
begun k d Shape text b h o = record { front = text; part = b ∷ []; before = h; shape = o; spelled = refl }

-- a primary that is complete
pub completes : (front text part : List ℕ) (es : List Tree) (k : List Waiting) (d : ℕ) (e : Tree) → Place front text part es → After k d (λ t. Primary t e) part → Good (primary_end e k d es) front
completes front text part es k d e p a = grind (arith, nat_tests, settle-is)

-- where a primary is wanted
sign-good : (front text part : List ℕ) (es : List Tree) (k : List Waiting) (d b : ℕ) (op : UnOp) → Place front text (part ++ b ∷ []) es → Partial k d part → Sign b op → Good (signed (Some op) k d es) front
sign-good front text part es k d b op p h s = grind arith

quoted-good : (front text part : List ℕ) (es : List Tree) (k : List Waiting) (d : ℕ) → Place front text (part ++ 34 ∷ []) es → Partial k d part → Good (string_start k d es) front
quoted-good front text part es k d h1 h2 = grind (arith, common_steps, nat_tests)

pub at-byte : (front text part : List ℕ) (es : List Tree) (b c : ℕ) → (b == c) ≡ true → Place front text (part ++ b ∷ []) es → Place front text (part ++ c ∷ []) es
at-byte front text part es b c h p = subst (λ x. Place front text (part ++ x ∷ []) es) (eqb-true b c h) p

mark-good : (front text part : List ℕ) (es : List Tree) (k : List Waiting) (d b : ℕ) → Place front text (part ++ b ∷ []) es → Partial k d part → Good (mark_start b k d es) front
mark-good front text part es k d b p h =
    let P : Read → Type 0 = λ r. Good r front in
    let Q : Option UnOp → Type 0 = λ o. Good (signed o k d es) front in
    cond_both (b == 35) _ _ P (λ t. holds front text (part ++ 35 ∷ []) es es hash k d (at-byte front text part es b 35 t p) (refl, begun k d (λ t. t ≡ 35 ∷ []) part 35 h refl)) (λ _.
    cond_both (b == 39) _ _ P (λ t. holds front text (part ++ 39 ∷ []) es es quote k d (at-byte front text part es b 39 t p) (refl, begun k d (λ t. t ≡ 39 ∷ []) part 39 h refl)) (λ _.
    cond_both (b == 64) _ _ P (λ t. completes front text (part ++ 64 ∷ []) es k d here (at-byte front text part es b 64 t p) (begun k d (λ t. Primary t here) part 64 h place)) (λ _.
    cond_both (b == 40) _ _ P (λ t. holds front text (part ++ 40 ∷ []) es es operand (parenthesis ∷ k) (d + 1) (at-byte front text part es b 40 t p) (refl, record { below = d; deeper = refl; front = part; before = h; spelled = refl })) (λ _.
    cond_both (b == 34) _ _ P (λ t. quoted-good front text part es k d (at-byte front text part es b 34 t p) h) (λ _.
    cond_both (b == 43) _ _ Q (λ t. sign-good front text part es k d 43 Plus (at-byte front text part es b 43 t p) h plus) (λ _.
    cond_both (b == 45) _ _ Q (λ t. sign-good front text part es k d 45 Minus (at-byte front text part es b 45 t p) h minus) (λ _.
    cond_both (b == 126) _ _ Q (λ t. sign-good front text part es k d 126 Not (at-byte front text part es b 126 t p) h not_sign) (λ _.
    cond_both (b == 36) _ _ Q (λ t. sign-good front text part es k d 36 Register (at-byte front text part es b 36 t p) h register) (λ _. refl)))))))))

pub value-of-digit : (b : ℕ) → is_digit b ≡ true → b - 48 ≡ digit_value b
value-of-digit b h = rw h refl

pub wanted-good : (front text part : List ℕ) (es : List Tree) (k : List Waiting) (d b : ℕ) → Place front text (part ++ b ∷ []) es → Partial k d part → Good (primary_start b k d es) front
wanted-good front text part es k d b p h = grind (arith, nat_tests, holds, begun, value-of-digit, mark-good)

-- after a product
strong-good : (front text part : List ℕ) (es : List Tree) (k : List Waiting) (d b : ℕ) (e : Tree) (op : BinOp) → Place front text (part ++ b ∷ []) es → Plain k → After k d (λ t. Product t e) part → StrongOperator (b ∷ []) op →
    Holds (st operand (strong op e ∷ k) d es) front
strong-good front text part es k d b e op p n a w = grind (arith, common_steps, nat_tests)

operating : (k : List Waiting) (d b : ℕ) (e : Tree) (part : List ℕ) → After k d (λ t. Product t e) part → After k d (Operating e b) (part ++ b ∷ [])
operating k d b e part a = longer k d (λ t. Product t e) (Operating e b) part b a (record { part = a.part; whole = a.shape; spelled = refl })

weakly-good : (front text part : List ℕ) (es : List Tree) (d b : ℕ) (op : BinOp) (q : Tree × List Waiting) → Place front text (part ++ b ∷ []) es → SumIs d part q → WeakOperator b op → Good (weakly op q d es) front
weakly-good front text part es d b op q p s w = grind (arith, common_steps, nat_tests)

enclosed-good : (front text part : List ℕ) (es : List Tree) (d : ℕ) (x : Tree) (k : List Waiting) → Place front text (part ++ 41 ∷ []) es → SumIs d part (x, k) → Good (enclosed (x, k) d es) front
enclosed-good front text part es d x (parenthesis ∷ k) p s =
    let o = s.before in
    let less : d - 1 ≡ o.below = omega (arith, o.deeper) in
    subst (λ n. Good (primary_end x k n es) front) (sym less)
    (completes front text (part ++ 41 ∷ []) es k o.below x p
    (record {
      front = o.front;
      part = 40 ∷ (s.part ++ 41 ∷ []);
      before = o.before;
      shape = spelled_enclosed s.part x s.whole;
      spelled = grown s.front s.part (41 ∷ []) part s.spelled ∙ ap (λ t. t ++ (s.part ++ 41 ∷ [])) o.spelled ∙ append_assoc o.front (40 ∷ []) (s.part ++ 41 ∷ []);
    }))
enclosed-good front text part es d x k p s = refl

pub whole-sum : (d : ℕ) (part : List ℕ) (x : Tree) → SumIs d part (x, []) → Sum part x
whole-sum d part x s = subst (λ t. Sum t x) (sym (s.spelled ∙ ap (λ t. t ++ s.part) s.before.1)) s.whole

next-good : (front text part : List ℕ) (es : List Tree) (d : ℕ) (x : Tree) (k : List Waiting) → Place front text (part ++ 44 ∷ []) es → SumIs d part (x, k) → Good (next_operand d (listed (x, k) es)) front
next-good front text part es d x [] p s =
    record {
      text = text ++ (part ++ 44 ∷ []);
      es = es ++ x ∷ [];
      part = [];
      before = one_more text part es (x ∷ []) p.before (expression part x (whole-sum d part x s));
      is_there = (refl, (s.before.0, refl));
      spelled = p.spelled ∙ sym (append-nil (text ++ (part ++ 44 ∷ [])));
    }
next-good front text part es d x (w ∷ k) p s = refl

pub after-good : (front text part : List ℕ) (es : List Tree) (k : List Waiting) (d b : ℕ) (e : Tree) → Place front text (part ++ b ∷ []) es → Plain k → After k d (λ t. Product t e) part → Good (after b (e, k) d es) front
after-good front text part es k d b e p n a =
    let P : Read → Type 0 = λ r. Good r front in
    let S : Option BinOp → Type 0 = λ o. Good (strongly o b e k d es) front in
    let q : Tree × List Waiting = with_weak k e in
    let W : Option BinOp → Type 0 = λ o. Good (weakly_or_end o b q d es) front in
    let s : SumIs d part q = subst (λ t. SumIs d t q) (sym a.spelled) (sum-is k d a.front a.part e a.before n a.shape) in
    cond_both (b == 42) _ _ S (λ t. strong-good front text part es k d 42 e Mul (at-byte front text part es b 42 t p) n a mul) (λ _.
    cond_both (b == 37) _ _ S (λ t. strong-good front text part es k d 37 e Rem (at-byte front text part es b 37 t p) n a rem) (λ _.
    cond_both (b == 38) _ _ S (λ t. strong-good front text part es k d 38 e And (at-byte front text part es b 38 t p) n a and) (λ _.
    cond_both (b == 47) _ _ P (λ t. holds front text (part ++ 47 ∷ []) es es (slash e) k d (at-byte front text part es b 47 t p) (refl, n, operating k d 47 e part a)) (λ _.
    cond_both (b == 60) _ _ P (λ t. holds front text (part ++ 60 ∷ []) es es (less e) k d (at-byte front text part es b 60 t p) (refl, n, operating k d 60 e part a)) (λ _.
    cond_both (b == 62) _ _ P (λ t. holds front text (part ++ 62 ∷ []) es es (greater e) k d (at-byte front text part es b 62 t p) (refl, n, operating k d 62 e part a)) (λ _.
    cond_both (b == 43) _ _ W (λ t. weakly-good front text part es d 43 Add q (at-byte front text part es b 43 t p) s add) (λ _.
    cond_both (b == 45) _ _ W (λ t. weakly-good front text part es d 45 Sub q (at-byte front text part es b 45 t p) s sub) (λ _.
    cond_both (b == 124) _ _ W (λ t. weakly-good front text part es d 124 Or q (at-byte front text part es b 124 t p) s or) (λ _.
    cond_both (b == 94) _ _ W (λ t. weakly-good front text part es d 94 Xor q (at-byte front text part es b 94 t p) s xor) (λ _.
    cond_both (b == 41) _ _ P (λ t. enclosed-good front text part es d q.0 q.1 (at-byte front text part es b 41 t p) s) (λ _.
    cond_both (b == 44) _ _ P (λ t. next-good front text part es d q.0 q.1 (at-byte front text part es b 44 t p) s) (λ _. refl))))))))))))

pub beyond-good : (front text part : List ℕ) (es : List Tree) (k : List Waiting) (d b : ℕ) (e : Tree) → Place front text (part ++ b ∷ []) es → After k d (λ t. Primary t e) part → Good (beyond b e k d es) front
beyond-good front text part es k d b e p a =
    let s = settle-is k d a.front a.part e a.before a.shape in
    after-good front text part es (with_strong k e).1 d b (with_strong k e).0 p s.plain (record { front = s.front; part = s.part; before = s.before; shape = s.whole; spelled = a.spelled ∙ s.spelled })
