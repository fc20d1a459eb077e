-- The bounds: where one is passed, and what it does to reading.
use Rattle.std.proofs.Common.{◌≡◌, ℕ, ◌+◌, ◌-◌, ◌*◌, ◌^◌, ◌≤◌, List, [], ◌∷◌, ◌++◌, length, Bool, true, cond, Option, Some, None, Ok, refl, sym, ap, ◌∙◌, arith, append_assoc, subst, length-append, ◌==◌, ◌&&◌, nat_le}
use Rattle.mx_expr.proofs.Words.{and_parts, eqb-true, leb-true, ExprFault, TooWide, TooDeep, EmptyString, Div, Tree, is_digit, is_hexadecimal, digit_value, Waiting, strong, parenthesis, Mode, operand, decimal, hexadecimal, slash, string, closed, State, passed_bound, too_wide, too_deep, digits_value, Constant, Before, FaultAt, div}
use Rattle.mx_expr.specs.Spelling.Constant.{decimal as decimal_digits, hexadecimal as hexadecimal_digits}
use Rattle.mx_expr.specs.Spelling.FaultAt.{too_wide as wide_there, too_deep as deep_there, empty_string as empty_there}
use Rattle.mx_expr.proofs.Moves.{st, move}
use Rattle.mx_expr.proofs.Partial.{Partial, partial-before}
use Rattle.mx_expr.proofs.Holds.{Digits, Hashed, is_empty, At, Holds, Place, value-of-digit}
use Rattle.mx_expr.proofs.Steps.{digits-longer}

-- where a bound is passed
pub record Passed (field front : List ℕ) (f : ExprFault) : Type 0 where
  pub place : ℕ
  pub is_there : FaultAt field f place
  pub near : place ≤ length front
  pub before_quote : f ≡ EmptyString → place + 1 ≤ length front
  pub wide : f ≡ TooWide → (d : ℕ) × (before : List ℕ) × (text : List ℕ) × Before d before × (front ≡ before ++ text) × (place ≡ length before)

some-when : (c : Bool) (x y : ExprFault) → cond c (Some x) None ≡ Some y → (c ≡ true) × (x ≡ y)
some-when c x y h = grind arith

deep-passed : (front rest : List ℕ) (d b : ℕ) (f : ExprFault) → Before d front → too_deep d b ≡ Some f → Passed (front ++ b ∷ rest) front f
deep-passed front rest d b f h e =
    let w = some-when (b == 40 && nat_le 255 d) TooDeep f e in
    let byte : b ≡ 40 = eqb-true b 40 (and_parts (b == 40) (nat_le 255 d) w.0).0 in
    let deep : 255 ≤ d = leb-true 255 d (and_parts (b == 40) (nat_le 255 d) w.0).1 in
    let same : TooDeep ≡ f = w.1 in
    subst (λ x. Passed (front ++ b ∷ rest) front x) same
    (record {
      place = length front;
      is_there = subst (λ x. FaultAt (front ++ x ∷ rest) TooDeep (length front)) (sym byte) (deep_there front rest d h deep);
      near = omega arith;
      before_quote = λ q. absurd (cc);
      wide = λ q. absurd (cc);
    })

wide-passed : (front text f q rest : List ℕ) (es : List Tree) (k : List Waiting) (d b n : ℕ) (fault : ExprFault) (part : List ℕ) → Place front text part es → Partial k d f → part ≡ f ++ q → Constant (q ++ b ∷ []) n → too_wide n ≡ Some fault →
    Passed (front ++ b ∷ rest) front fault
wide-passed front text f q rest es k d b n fault part p h s c e =
    let w = some-when (nat_le (2 ^ 64) n) TooWide fault e in
    let wide : 2 ^ 64 ≤ n = leb-true (2 ^ 64) n w.0 in
    let whole : front ≡ (text ++ f) ++ q = p.spelled ∙ ap (λ t. text ++ t) s ∙ sym (append_assoc text f q) in
    let field : (text ++ f) ++ ((q ++ b ∷ []) ++ rest) ≡ front ++ b ∷ rest = ap (λ t. (text ++ f) ++ t) (append_assoc q (b ∷ []) rest) ∙ sym (append_assoc (text ++ f) q (b ∷ rest)) ∙ ap (λ t. t ++ b ∷ rest) (sym whole) in
    let before : Before d (text ++ f) = partial-before text es p.before k d f h in
    subst (λ x. Passed (front ++ b ∷ rest) front x) w.1
    (record {
      place = length (text ++ f);
      is_there = subst (λ x. FaultAt x TooWide (length (text ++ f))) field (wide_there (text ++ f) (q ++ b ∷ []) rest d n before c wide);
      near = omega (arith, ap length whole, length-append (text ++ f) q);
      before_quote = λ u. absurd (cc);
      wide = λ u. (d, text ++ f, q, before, whole, refl);
    })

decimal-constant : (n b : ℕ) (q : List ℕ) → Digits is_digit 10 n q → is_digit b ≡ true → Constant (q ++ b ∷ []) (n * 10 + (b - 48))
decimal-constant n b q h k =
    let l = digits-longer is_digit 10 n b q h k in
    let e : digits_value 10 (q ++ b ∷ []) ≡ n * 10 + (b - 48) = sym l.value ∙ ap (λ v. n * 10 + v) (sym (value-of-digit b k)) in
    subst (Constant (q ++ b ∷ [])) e (decimal_digits (q ++ b ∷ []) l.some l.all)

hexadecimal-constant : (n b : ℕ) (q : List ℕ) → Hashed n q → is_hexadecimal b ≡ true → Constant (q ++ b ∷ []) (n * 16 + digit_value b)
hexadecimal-constant n b q h k =
    let l = digits-longer is_hexadecimal 16 n b h.digits h.are k in
    subst (λ t. Constant (t ++ b ∷ []) (n * 16 + digit_value b)) (sym h.spelled) (subst (Constant (35 ∷ (h.digits ++ b ∷ []))) (sym l.value) (hexadecimal_digits (h.digits ++ b ∷ []) l.some l.all))

quote-passed : (front text rest bytes : List ℕ) (es : List Tree) (b : ℕ) (f : ExprFault) (part : List ℕ) → Place front text part es → part ≡ 34 ∷ bytes → true ≡ is_empty bytes → cond (b == 34) (Some EmptyString) None ≡ Some f → Passed (front ++ b ∷ rest) front f
quote-passed front text rest [] es b f part p s e h =
    let w = some-when (b == 34) EmptyString f h in
    let byte : b ≡ 34 = eqb-true b 34 w.0 in
    let whole : front ≡ text ++ 34 ∷ [] = p.spelled ∙ ap (λ t. text ++ t) s in
    let field : text ++ 34 ∷ 34 ∷ rest ≡ front ++ b ∷ rest = sym (append_assoc text (34 ∷ []) (34 ∷ rest)) ∙ ap (λ t. t ++ 34 ∷ rest) (sym whole) ∙ ap (λ x. front ++ x ∷ rest) (sym byte) in
    subst (λ x. Passed (front ++ b ∷ rest) front x) w.1
    (record {
      place = length text;
      is_there = subst (λ x. FaultAt x EmptyString (length text)) field (empty_there text rest es p.before);
      near = omega (arith, ap length whole, length-append text (34 ∷ []));
      before_quote = λ q. omega (arith, ap length whole, length-append text (34 ∷ []));
      wide = λ q. absurd (cc);
    })
quote-passed front text rest (x ∷ xs) es b f part p s e h = absurd (cc)

chosen-some : (c : Bool) (o : Option ExprFault) (f : ExprFault) → cond c o None ≡ Some f → (c ≡ true) × (o ≡ Some f)
chosen-some c o f h = grind arith

passed-at : (mode : Mode) (front text part rest : List ℕ) (es done : List Tree) (k : List Waiting) (d b : ℕ) (f : ExprFault) → Place front text part es → At mode k d done es part → passed_bound mode d b ≡ Some f → Passed (front ++ b ∷ rest) front f
passed-at operand front text part rest es done k d b f p a e = deep-passed front rest d b f (subst (Before d) (sym p.spelled) (partial-before text es p.before k d part a.1)) e
passed-at (decimal n) front text part rest es done k d b f p a e =
    let w = chosen-some (is_digit b) (too_wide (n * 10 + (b - 48))) f e in
    let o = a.1 in
    wide-passed front text o.front o.part rest es k d b (n * 10 + (b - 48)) f part p o.before o.spelled (decimal-constant n b o.part o.shape w.0) w.1
passed-at (hexadecimal n) front text part rest es done k d b f p a e =
    let w = chosen-some (is_hexadecimal b) (too_wide (n * 16 + digit_value b)) f e in
    let o = a.1 in
    wide-passed front text o.front o.part rest es k d b (n * 16 + digit_value b) f part p o.before o.spelled (hexadecimal-constant n b o.part o.shape w.0) w.1
passed-at (slash x) front text part rest es done k d b f p a e =
    let o = a.2 in
    let before : Before d (text ++ part) =
    partial-before text es p.before (strong Div x ∷ k) d part
    (record { plain = a.1; front = o.front; part = o.shape.part; word = 47 ∷ []; whole = o.shape.whole; operator = div; before = o.before; spelled = o.spelled ∙ ap (λ t. o.front ++ t) o.shape.spelled }) in
    deep-passed front rest d b f (subst (Before d) (sym p.spelled) before) e
passed-at (string true) front text part rest es done k d b f p a e = quote-passed front text rest a.bytes es b f part p a.shape.0 a.shape.1 e
passed-at mode front text part rest es done k d b f p a e = absurd (cc)

pub passed : (s : State) (front rest : List ℕ) (b : ℕ) (f : ExprFault) → Holds s front → passed_bound s.mode s.depth b ≡ Some f → Passed (front ++ b ∷ rest) front f
passed s front rest b f h e = passed-at s.mode front h.text h.part rest h.es s.done s.waiting s.depth b f (record { before = h.before; spelled = h.spelled }) h.is_there e

deep-byte : (d b : ℕ) (f : ExprFault) → too_deep d b ≡ Some f → b ≡ 40
deep-byte d b f e = let w = some-when (b == 40 && nat_le 255 d) TooDeep f e in eqb-true b 40 (and_parts (b == 40) (nat_le 255 d) w.0).0

deep-moves : (mode : Mode) (k : List Waiting) (d b : ℕ) (es : List Tree) (t : State) → b ≡ 40 → move (st mode k d es) 40 ≡ Ok t → (u : State) × (move (st mode k d es) b ≡ Ok u)
deep-moves mode k d b es t e h = (t, ap (move (st mode k d es)) e ∙ h)

-- A byte that passes a bound would be read without it.
pub passes-moves : (mode : Mode) (k : List Waiting) (d : ℕ) (es : List Tree) (b : ℕ) (f : ExprFault) → passed_bound mode d b ≡ Some f → (t : State) × (move (st mode k d es) b ≡ Ok t)
passes-moves operand k d es b f e = deep-moves operand k d b es (st operand (parenthesis ∷ k) (d + 1) es) (deep-byte d b f e) refl
passes-moves (decimal n) k d es b f e = let w = chosen-some (is_digit b) (too_wide (n * 10 + (b - 48))) f e in let h : is_digit b ≡ true = w.0 in (st (decimal (n * 10 + (b - 48))) k d es, rw h refl)
passes-moves (hexadecimal n) k d es b f e = let w = chosen-some (is_hexadecimal b) (too_wide (n * 16 + digit_value b)) f e in let h : is_hexadecimal b ≡ true = w.0 in (st (hexadecimal (n * 16 + digit_value b)) k d es, rw h refl)
passes-moves (slash x) k d es b f e = deep-moves (slash x) k d b es (st operand (parenthesis ∷ strong Div x ∷ k) (d + 1) es) (deep-byte d b f e) refl
passes-moves (string true) k d es b f e = let w = some-when (b == 34) EmptyString f e in let h : (b == 34) ≡ true = w.0 in (st closed k d es, rw h refl)
passes-moves mode k d es b f e = absurd (cc)
