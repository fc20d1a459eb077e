-- What was read up to a state, with one more byte.
use Rattle.std.proofs.Common.{◌≡◌, ℕ, ◌+◌, ◌-◌, ◌*◌, List, [], ◌∷◌, ◌++◌, map, Bool, true, false, Ok, refl, sym, ap, ◌∙◌, arith, append_assoc, append-nil, subst, ◌==◌, rules}
use Rattle.mx_expr.proofs.Words.{cond_both, list_all, BinOp, Div, Fraction, Left, Right, Tree, number, name, back, ahead, is_digit, is_hexadecimal, is_name_byte, is_no_quote, digit_value, Waiting, strong, Mode, operand, whole, digit, decimal, hash, hexadecimal, quote, character, symbol, slash, less, greater, string, closed, State, Read, primary_start, next_reading, in_string, start, and_then, digits_value, StrongOperator, Primary, Operand, div, fraction, left, right, constant, last_label, next_label, nat_tests, common_steps}
use Rattle.mx_expr.specs.Spelling.Constant.{decimal as decimal_digits, hexadecimal as hexadecimal_digits}
use Rattle.mx_expr.specs.Spelling.Primary.{character as spelled_character, symbol as spelled_symbol}
use Rattle.mx_expr.specs.Spelling.Operand.{string as spelled_string}
use Rattle.mx_expr.specs.Spelling.Operands.{none as no_operands, more as one_more}
use Rattle.mx_expr.proofs.Moves.{st, move, moves}
use Rattle.mx_expr.proofs.Forward.{Plain}
use Rattle.mx_expr.proofs.Partial.{Partial}
use Rattle.mx_expr.proofs.Holds.{After, Digits, Hashed, OneDigit, Letters, Operating, is_empty, At, Holds, Good, Place, holds, grown, longer, completes, wanted-good, after-good, beyond-good, at-byte, value-of-digit}

-- one more byte of a kind
pub all-longer : (kind : ℕ → Bool) (t : List ℕ) (b : ℕ) → list_all kind t ≡ true → kind b ≡ true → list_all kind (t ++ b ∷ []) ≡ true
all-longer kind [] b h k = rw k refl
all-longer kind (x ∷ xs) b h k = grind (arith, common_steps, nat_tests)

pub digits-longer : (kind : ℕ → Bool) (base n b : ℕ) (t : List ℕ) → Digits kind base n t → kind b ≡ true → Digits kind base (n * base + digit_value b) (t ++ b ∷ [])
digits-longer kind base n b t h k = grind (arith, common_steps, nat_tests)

pub one-digit : (n : ℕ) (t : List ℕ) → OneDigit n t → Digits is_digit 10 n t
one-digit n t h = grind arith

pub decimal-primary : (n : ℕ) (t : List ℕ) → Digits is_digit 10 n t → Primary t (number n)
decimal-primary n t h = subst (λ m. Primary t (number m)) (sym h.value) (constant t (digits_value 10 t) (decimal_digits t h.some h.all))

pub hexadecimal-primary : (n : ℕ) (t : List ℕ) → Hashed n t → Primary t (number n)
hexadecimal-primary n t h =
    subst (λ x. Primary x (number n)) (sym h.spelled) (subst (λ m. Primary (35 ∷ h.digits) (number m)) (sym h.are.value) (constant (35 ∷ h.digits) (digits_value 16 h.digits) (hexadecimal_digits h.digits h.are.some h.are.all)))

pub symbol-primary : (word t : List ℕ) → Letters word t → Primary t (name word)
symbol-primary word t h =
    subst (λ x. Primary x (name word)) (sym h.spelled) (subst (λ w. Primary (h.b ∷ h.bs) (name w)) (sym h.value) (spelled_symbol h.b h.bs h.is h.all))

-- the same text of another shape
pub reshaped : (k : List Waiting) (d : ℕ) (Shape Other : List ℕ → Type 0) (text : List ℕ) → ((t : List ℕ) → Shape t → Other t) → After k d Shape text → After k d Other text
reshaped k d Shape Other text f h = record { front = h.front; part = h.part; before = h.before; shape = f h.part h.shape; spelled = h.spelled }

-- a text with one more byte, of another shape
longer-by : (k : List Waiting) (d : ℕ) (Shape Other : List ℕ → Type 0) (text : List ℕ) (b : ℕ) → ((t : List ℕ) → Shape t → Other (t ++ b ∷ [])) → After k d Shape text → After k d Other (text ++ b ∷ [])
longer-by k d Shape Other text b f h = longer k d Shape Other text b h (f h.part h.shape)

label-back : (n : ℕ) (t : List ℕ) → OneDigit n t → Primary (t ++ 66 ∷ []) (back n)
label-back n t h = subst (λ x. Primary (x ++ 66 ∷ []) (back n)) (sym h.spelled) (subst (λ m. Primary (h.b ∷ 66 ∷ []) (back m)) (sym h.value) (last_label h.b h.is))

label-ahead : (n : ℕ) (t : List ℕ) → OneDigit n t → Primary (t ++ 70 ∷ []) (ahead n)
label-ahead n t h = subst (λ x. Primary (x ++ 70 ∷ []) (ahead n)) (sym h.spelled) (subst (λ m. Primary (h.b ∷ 70 ∷ []) (ahead m)) (sym h.value) (next_label h.b h.is))

digits-value : (n b : ℕ) (t : List ℕ) → Digits is_digit 10 n t → is_digit b ≡ true → Digits is_digit 10 (n * 10 + (b - 48)) (t ++ b ∷ [])
digits-value n b t h k = subst (λ v. Digits is_digit 10 (n * 10 + v) (t ++ b ∷ [])) (sym (value-of-digit b k)) (digits-longer is_digit 10 n b t h k)

more-hexadecimal : (n b : ℕ) (t : List ℕ) → is_hexadecimal b ≡ true → Hashed n t → Hashed (n * 16 + digit_value b) (t ++ b ∷ [])
more-hexadecimal n b t k h = record { digits = h.digits ++ b ∷ []; are = digits-longer is_hexadecimal 16 n b h.digits h.are k; spelled = ap (λ x. x ++ b ∷ []) h.spelled }

more-letters : (b : ℕ) (word t : List ℕ) → is_name_byte b ≡ true → Letters word t → Letters (word ++ b ∷ []) (t ++ b ∷ [])
more-letters b word t k h = search (rules, all-longer)

-- an operator of two bytes
doubled-good : (front text part : List ℕ) (es : List Tree) (k : List Waiting) (d b c : ℕ) (e : Tree) (op : BinOp) → Place front text (part ++ c ∷ []) es → Plain k → After k d (Operating e b) part → StrongOperator (b ∷ c ∷ []) op →
    Holds (st operand (strong op e ∷ k) d es) front
doubled-good front text part es k d b c e op p n a w =
    let o = a.shape in
    holds front text (part ++ c ∷ []) es es operand (strong op e ∷ k) d p (
      refl,
      record {
        plain = n;
        front = a.front;
        part = o.part;
        word = b ∷ c ∷ [];
        whole = o.whole;
        operator = w;
        before = a.before;
        spelled = grown a.front a.part (c ∷ []) part a.spelled ∙ ap (λ t. a.front ++ t) (grown o.part (b ∷ []) (c ∷ []) a.part o.spelled);
      },
    )

slash-good : (front text part : List ℕ) (es : List Tree) (k : List Waiting) (d b : ℕ) (e : Tree) → Place front text (part ++ b ∷ []) es → Plain k → After k d (Operating e 47) part → Good (primary_start b (strong Div e ∷ k) d es) front
slash-good front text part es k d b e p n a =
    let o = a.shape in
    wanted-good front text part es (strong Div e ∷ k) d b p
    (record { plain = n; front = a.front; part = o.part; word = 47 ∷ []; whole = o.whole; operator = div; before = a.before; spelled = a.spelled ∙ ap (λ t. a.front ++ t) o.spelled })

-- in a string
no-quote : (b : ℕ) → (b == 34) ≡ false → is_no_quote b ≡ true
no-quote b h = rw h refl

not-empty : (bytes : List ℕ) (b : ℕ) → false ≡ is_empty (bytes ++ b ∷ [])
not-empty bytes = grind (arith, common_steps, nat_tests)

map-longer : (bytes : List ℕ) (b : ℕ) → map number (bytes ++ b ∷ []) ≡ map number bytes ++ number b ∷ []
map-longer [] b = refl
map-longer (x ∷ xs) b = ap (λ t. number x ∷ t) (map-longer xs b)

string-good : (front text part : List ℕ) (es done : List Tree) (k : List Waiting) (d b : ℕ) (fresh : Bool) → Place front text (part ++ b ∷ []) es → At (string fresh) k d done es part → Good (in_string b k d done) front
string-good front text part es done k d b fresh p h = grind (arith, cond_both, at-byte, all-longer, no-quote, append_assoc, map-longer, not-empty)

closed-good : (front text part : List ℕ) (es done : List Tree) (k : List Waiting) (d : ℕ) → Place front text (part ++ 44 ∷ []) es → At closed k d done es part → Holds (st operand k d done) front
closed-good front text part es done k d p h =
    record {
      text = text ++ (part ++ 44 ∷ []);
      es = es ++ map number h.bytes;
      part = [];
      before = one_more text part es (map number h.bytes) p.before (subst (λ t. Operand t (map number h.bytes)) (sym h.shape) (spelled_string h.bytes h.all));
      is_there = (h.listed, subst (λ x. Partial x d []) (sym h.nothing) (h.shallow, refl));
      spelled = p.spelled ∙ sym (append-nil (text ++ (part ++ 44 ∷ [])));
    }

-- one byte
moved-good : (mode : Mode) (front text part : List ℕ) (es done : List Tree) (k : List Waiting) (d b : ℕ) → Place front text (part ++ b ∷ []) es → At mode k d done es part → Good (next_reading mode k d done b) front
moved-good operand front text part es done k d b p a = subst (λ x. Good (primary_start b k d x) front) (sym a.0) (wanted-good front text part es k d b p a.1)
moved-good (whole e) front text part es done k d b p a = subst (λ x. Good (next_reading (whole e) k d x b) front) (sym a.0) (after-good front text part es k d b e p a.1 a.2)
moved-good (digit n) front text part es done k d b p a =
    let P : Read → Type 0 = λ r. Good r front in
    subst (λ x. Good (next_reading (digit n) k d x b) front) (sym a.0)
    (cond_both (is_digit b) _ _ P
    (λ t. holds front text (part ++ b ∷ []) es es (decimal (n * 10 + (b - 48))) k d p (refl, longer-by k d (OneDigit n) (Digits is_digit 10 (n * 10 + (b - 48))) part b (λ x h. digits-value n b x (one-digit n x h) t) a.1)) (λ _.
    cond_both (b == 66) _ _ P
    (λ t. completes front text (part ++ 66 ∷ []) es k d (back n) (at-byte front text part es b 66 t p) (longer-by k d (OneDigit n) (λ x. Primary x (back n)) part 66 (λ x h. label-back n x h) a.1)) (λ _.
    cond_both (b == 70) _ _ P
    (λ t. completes front text (part ++ 70 ∷ []) es k d (ahead n) (at-byte front text part es b 70 t p) (longer-by k d (OneDigit n) (λ x. Primary x (ahead n)) part 70 (λ x h. label-ahead n x h) a.1)) (λ _.
    beyond-good front text part es k d b (number n) p (reshaped k d (OneDigit n) (λ x. Primary x (number n)) part (λ x h. decimal-primary n x (one-digit n x h)) a.1)))))
moved-good (decimal n) front text part es done k d b p a =
    let P : Read → Type 0 = λ r. Good r front in
    subst (λ x. Good (next_reading (decimal n) k d x b) front) (sym a.0)
    (cond_both (is_digit b) _ _ P
    (λ t. holds front text (part ++ b ∷ []) es es (decimal (n * 10 + (b - 48))) k d p (refl, longer-by k d (Digits is_digit 10 n) (Digits is_digit 10 (n * 10 + (b - 48))) part b (λ x h. digits-value n b x h t) a.1))
    (λ _. beyond-good front text part es k d b (number n) p (reshaped k d (Digits is_digit 10 n) (λ x. Primary x (number n)) part (λ x h. decimal-primary n x h) a.1)))
moved-good hash front text part es done k d b p a = grind (arith, common_steps, nat_tests)
moved-good (hexadecimal n) front text part es done k d b p a =
    let P : Read → Type 0 = λ r. Good r front in
    subst (λ x. Good (next_reading (hexadecimal n) k d x b) front) (sym a.0)
    (cond_both (is_hexadecimal b) _ _ P
    (λ t. holds front text (part ++ b ∷ []) es es (hexadecimal (n * 16 + digit_value b)) k d p (refl, longer-by k d (Hashed n) (Hashed (n * 16 + digit_value b)) part b (λ x h. more-hexadecimal n b x t h) a.1))
    (λ _. beyond-good front text part es k d b (number n) p (reshaped k d (Hashed n) (λ x. Primary x (number n)) part (λ x h. hexadecimal-primary n x h) a.1)))
moved-good quote front text part es done k d b p a = grind (arith, common_steps, nat_tests)
moved-good (character c) front text part es done k d b p a =
    let P : Read → Type 0 = λ r. Good r front in
    subst (λ x. Good (next_reading (character c) k d x b) front) (sym a.0)
    (cond_both (b == 39) _ _ P
    (λ t. completes front text (part ++ 39 ∷ []) es k d (number c) (at-byte front text part es b 39 t p) (longer-by k d (λ x. x ≡ 39 ∷ c ∷ []) (λ x. Primary x (number c)) part 39 (λ x h. subst (λ x. Primary (x ++ 39 ∷ []) (number c)) (sym h) (spelled_character c)) a.1))
    (λ _. refl))
moved-good (symbol word) front text part es done k d b p a =
    let P : Read → Type 0 = λ r. Good r front in
    subst (λ x. Good (next_reading (symbol word) k d x b) front) (sym a.0)
    (cond_both (is_name_byte b) _ _ P
    (λ t. holds front text (part ++ b ∷ []) es es (symbol (word ++ b ∷ [])) k d p (refl, longer-by k d (Letters word) (Letters (word ++ b ∷ [])) part b (λ x h. more-letters b word x t h) a.1))
    (λ _. beyond-good front text part es k d b (name word) p (reshaped k d (Letters word) (λ x. Primary x (name word)) part (λ x h. symbol-primary word x h) a.1)))
moved-good (slash e) front text part es done k d b p a =
    let P : Read → Type 0 = λ r. Good r front in
    subst (λ x. Good (next_reading (slash e) k d x b) front) (sym a.0)
    (cond_both (b == 47) _ _ P
    (λ t. doubled-good front text part es k d 47 47 e Fraction (at-byte front text part es b 47 t p) a.1 a.2 fraction)
    (λ _. slash-good front text part es k d b e p a.1 a.2))
moved-good (less e) front text part es done k d b p a =
    let P : Read → Type 0 = λ r. Good r front in
    subst (λ x. Good (next_reading (less e) k d x b) front) (sym a.0)
    (cond_both (b == 60) _ _ P (λ t. doubled-good front text part es k d 60 60 e Left (at-byte front text part es b 60 t p) a.1 a.2 left) (λ _. refl))
moved-good (greater e) front text part es done k d b p a =
    let P : Read → Type 0 = λ r. Good r front in
    subst (λ x. Good (next_reading (greater e) k d x b) front) (sym a.0)
    (cond_both (b == 62) _ _ P (λ t. doubled-good front text part es k d 62 62 e Right (at-byte front text part es b 62 t p) a.1 a.2 right) (λ _. refl))
moved-good (string fresh) front text part es done k d b p a = string-good front text part es done k d b fresh p a
moved-good closed front text part es done k d b p a = search (rules, closed-good, at-byte)

pub move-good : (s : State) (front : List ℕ) (b : ℕ) → Holds s front → Good (move s b) (front ++ b ∷ [])
move-good s front b h =
    moved-good s.mode (front ++ b ∷ []) h.text h.part h.es s.done s.waiting s.depth b
    (record { before = h.before; spelled = grown h.text h.part (b ∷ []) front h.spelled }) h.is_there

pub same-state : (s t : State) (r : Read) → r ≡ Ok s → r ≡ Ok t → s ≡ t
same-state s t r e f = cc

reached-on : (t : State) (front bs : List ℕ) (b : ℕ) (r : Read) → ((u : State) → Holds u (front ++ b ∷ []) → moves u bs ≡ Ok t → Holds t ((front ++ b ∷ []) ++ bs)) →
    Good r (front ++ b ∷ []) → and_then r (λ u. moves u bs) ≡ Ok t → Holds t (front ++ b ∷ bs)
reached-on t front bs b r h1 h2 h3 = grind (arith, common_steps, nat_tests)

-- Each state that is reached holds what was read.
pub reached : (s t : State) (front bs : List ℕ) → Holds s front → moves s bs ≡ Ok t → Holds t (front ++ bs)
unfolding moves
reached s t front [] h e = subst (λ x. Holds x (front ++ [])) (same-state s t (Ok s) refl e) (subst (Holds s) (sym (append-nil front)) h)
reached s t front (b ∷ bs) h e = reached-on t front bs b (move s b) (λ u g i. reached u t (front ++ b ∷ []) bs g i) (move-good s front b h) e

pub start-holds : Holds start []
start-holds = record { text = []; es = []; part = []; before = no_operands; is_there = (refl, (refl, refl)); spelled = refl }

pub holds-read : (front : List ℕ) (t : State) → moves start front ≡ Ok t → Holds t front
holds-read front t e = reached start t [] front start-holds e
