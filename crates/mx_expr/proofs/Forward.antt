-- What is spelled is read, where constants and parentheses have no bound.
use Rattle.std.proofs.Common.{◌≡◌, ℕ, ◌+◌, ◌-◌, ◌*◌, List, [], ◌∷◌, ◌++◌, true, false, Some, Ok, refl, sym, ap, ◌∙◌, arith, append_assoc, append-nil, subst, ◌==◌, fold, rules}
use Rattle.mx_expr.proofs.Words.{list_all, and_parts, nat_tests, UnOp, BinOp, Div, Tree, number, name, back, ahead, here, is_digit, is_hexadecimal, is_letter, is_name_byte, digit_value, Waiting, sign, strong, weak, parenthesis, Mode, operand, whole, slash, with_strong, with_weak, primary_end, digits_value, Constant, Sign, StrongOperator, WeakOperator, Primary, Product, Sum, plus, mul, div, fraction, rem, left, right, and, add, sub, or, xor, constant, last_label, next_label, place, enclosed, signed, primary, times, product}
use Rattle.mx_expr.specs.Reading as reading
use Rattle.mx_expr.specs.Spelling.Constant.{decimal as decimal_digits, hexadecimal as hexadecimal_digits}
use Rattle.mx_expr.specs.Spelling.Primary.{character, symbol}
use Rattle.mx_expr.specs.Spelling.Sum.{plus as sum_plus}
use Rattle.mx_expr.proofs.Moves.{st, move, moves, moves-on, moves-first, moves-none, moves-one, ends, goes-beyond}

-- constants and symbols
value-of-digit : (b : ℕ) → is_digit b ≡ true → digit_value b ≡ b - 48
value-of-digit b h = rw h refl

letter-no-digit : (b : ℕ) → is_letter b ≡ true → is_digit b ≡ false
letter-no-digit b h = grind (arith, nat_tests)

pub in-decimal : (n : ℕ) (bs : List ℕ) (k : List Waiting) (d : ℕ) (es : List Tree) → list_all is_digit bs ≡ true →
    moves (st (reading.decimal n) k d es) bs ≡ Ok (st (reading.decimal (fold (λ v b. v * 10 + digit_value b) n bs)) k d es)
in-decimal n [] k d es h = moves-none _
in-decimal n (b ∷ bs) k d es h =
    let digit : is_digit b ≡ true = (and_parts _ _ h).0 in
    let step : move (st (reading.decimal n) k d es) b ≡ Ok (st (reading.decimal (n * 10 + digit_value b)) k d es) = rw digit refl in
    moves-first _ _ b bs step ∙ in-decimal (n * 10 + digit_value b) bs k d es (and_parts _ _ h).1

pub in-hexadecimal : (n : ℕ) (bs : List ℕ) (k : List Waiting) (d : ℕ) (es : List Tree) → list_all is_hexadecimal bs ≡ true →
    moves (st (reading.hexadecimal n) k d es) bs ≡ Ok (st (reading.hexadecimal (fold (λ v b. v * 16 + digit_value b) n bs)) k d es)
in-hexadecimal n [] k d es h = moves-none _
in-hexadecimal n (b ∷ bs) k d es h =
    let digit : is_hexadecimal b ≡ true = (and_parts _ _ h).0 in
    let step : move (st (reading.hexadecimal n) k d es) b ≡ Ok (st (reading.hexadecimal (n * 16 + digit_value b)) k d es) = rw digit refl in
    moves-first _ _ b bs step ∙ in-hexadecimal (n * 16 + digit_value b) bs k d es (and_parts _ _ h).1

pub in-symbol : (text bs : List ℕ) (k : List Waiting) (d : ℕ) (es : List Tree) → list_all is_name_byte bs ≡ true →
    moves (st (reading.symbol text) k d es) bs ≡ Ok (st (reading.symbol (text ++ bs)) k d es)
in-symbol text [] k d es h = moves-none _ ∙ ap (λ t. Ok (st (reading.symbol t) k d es)) (sym (append-nil text))
in-symbol text (b ∷ bs) k d es h =
    let word : is_name_byte b ≡ true = (and_parts _ _ h).0 in
    let step : move (st (reading.symbol text) k d es) b ≡ Ok (st (reading.symbol (text ++ b ∷ [])) k d es) = rw word refl in
    moves-first _ _ b bs step ∙ in-symbol (text ++ b ∷ []) bs k d es (and_parts _ _ h).1 ∙ ap (λ t. Ok (st (reading.symbol t) k d es)) (append_assoc text (b ∷ []) bs)

-- A text is read, and a primary may end there, with this product and what waits then.
pub record Ended (k : List Waiting) (d : ℕ) (es : List Tree) (text : List ℕ) (p : Tree × List Waiting) : Type 0 where
  pub mode : Mode
  pub rest : List Waiting
  pub read : moves (st operand k d es) text ≡ Ok (st mode rest d es)
  pub ending : ends mode rest ≡ Some p

-- a constant, from its first byte on
decimal-ended : (b : ℕ) (bs : List ℕ) (k : List Waiting) (d : ℕ) (es : List Tree) → is_digit b ≡ true → list_all is_digit bs ≡ true →
    Ended k d es (b ∷ bs) (with_strong k (number (digits_value 10 (b ∷ bs))))
decimal-ended b [] k d es h a =
    record {
      mode = reading.digit (b - 48);
      rest = k;
      read = moves-one _ b ∙ rw h refl;
      ending = let e : 0 * 10 + digit_value b ≡ b - 48 = omega (arith, value-of-digit b h) in ap (λ n. Some (with_strong k (number n))) (sym e);
    }
decimal-ended b (c ∷ bs) k d es h a =
    let first : move (st operand k d es) b ≡ Ok (st (reading.digit (b - 48)) k d es) = rw h refl in
    let digit : is_digit c ≡ true = (and_parts _ _ a).0 in
    let second : move (st (reading.digit (b - 48)) k d es) c ≡ Ok (st (reading.decimal ((b - 48) * 10 + digit_value c)) k d es) = rw digit refl in
    let e : 0 * 10 + digit_value b ≡ b - 48 = omega (arith, value-of-digit b h) in
    record {
      mode = reading.decimal (digits_value 10 (b ∷ c ∷ bs));
      rest = k;
      read = moves-first _ _ b (c ∷ bs) first ∙ moves-first _ _ c bs second ∙ in-decimal ((b - 48) * 10 + digit_value c) bs k d es (and_parts _ _ a).1
          ∙ ap (λ n. Ok (st (reading.decimal (fold (λ v x. v * 10 + digit_value x) (n * 10 + digit_value c) bs)) k d es)) (sym e);
      ending = refl;
    }

pub constant-ended : (text : List ℕ) (n : ℕ) (k : List Waiting) (d : ℕ) (es : List Tree) → Constant text n → Ended k d es text (with_strong k (number n))
constant-ended text n k d es (decimal_digits [] some all) = absurd (omega arith)
constant-ended text n k d es (decimal_digits (b ∷ bs) some all) = decimal-ended b bs k d es (and_parts _ _ all).0 (and_parts _ _ all).1
constant-ended text n k d es (hexadecimal_digits [] some all) = absurd (omega arith)
constant-ended text n k d es (hexadecimal_digits (b ∷ bs) some all) =
    let first : move (st operand k d es) 35 ≡ Ok (st reading.hash k d es) = refl in
    let digit : is_hexadecimal b ≡ true = (and_parts _ _ all).0 in
    let second : move (st reading.hash k d es) b ≡ Ok (st (reading.hexadecimal (digit_value b)) k d es) = rw digit refl in
    let e : 0 * 16 + digit_value b ≡ digit_value b = omega arith in
    record {
      mode = reading.hexadecimal (digits_value 16 (b ∷ bs));
      rest = k;
      read = moves-first _ _ 35 (b ∷ bs) first ∙ moves-first _ _ b bs second ∙ in-hexadecimal (digit_value b) bs k d es (and_parts _ _ all).1
          ∙ ap (λ n. Ok (st (reading.hexadecimal (fold (λ v x. v * 16 + digit_value x) n bs)) k d es)) (sym e);
      ending = refl;
    }

symbol-ended : (b : ℕ) (bs : List ℕ) (k : List Waiting) (d : ℕ) (es : List Tree) → is_letter b ≡ true → list_all is_name_byte bs ≡ true → Ended k d es (b ∷ bs) (with_strong k (name (b ∷ bs)))
symbol-ended b bs k d es h a =
    let first : move (st operand k d es) b ≡ Ok (st (reading.symbol (b ∷ [])) k d es) = rw (letter-no-digit b h, h) refl in
    record { mode = reading.symbol (b ∷ bs); rest = k; read = moves-first _ _ b bs first ∙ in-symbol (b ∷ []) bs k d es a; ending = refl }

label-ended : (b c : ℕ) (e : Tree) (k : List Waiting) (d : ℕ) (es : List Tree) → is_digit b ≡ true → move (st (reading.digit (b - 48)) k d es) c ≡ primary_end e k d es → Ended k d es (b ∷ c ∷ []) (with_strong k e)
label-ended b c e k d es h second =
    let first : move (st operand k d es) b ≡ Ok (st (reading.digit (b - 48)) k d es) = rw h refl in
    record { mode = whole (with_strong k e).0; rest = (with_strong k e).1; read = moves-first _ _ b (c ∷ []) first ∙ moves-one _ c ∙ second; ending = refl }

-- nothing waits that a primary takes; nothing waits that a product takes
abbrev pub Plain : List Waiting → Type 0
Plain [] = Unit {0}
Plain (sign op ∷ k) = ⊥
Plain (strong op l ∷ k) = ⊥
Plain (weak op l ∷ k) = Unit {0}
Plain (parenthesis ∷ k) = Unit {0}

abbrev pub Level : List Waiting → Type 0
Level [] = Unit {0}
Level (sign op ∷ k) = ⊥
Level (strong op l ∷ k) = ⊥
Level (weak op l ∷ k) = ⊥
Level (parenthesis ∷ k) = Unit {0}

pub plain-settled : (k : List Waiting) (e : Tree) → Plain k → with_strong k e ≡ (e, k)
plain-settled k e h = grind arith

pub level-plain : (k : List Waiting) → Level k → Plain k
level-plain k h = grind arith

level-summed : (k : List Waiting) (e : Tree) → Level k → with_weak k e ≡ (e, k)
level-summed k e h = grind arith

-- No primary begins with `/`.
pub record Headed (text : List ℕ) : Type 0 where
  pub b : ℕ
  pub bs : List ℕ
  pub spelled : text ≡ b ∷ bs
  pub other : (b == 47) ≡ false

digit-other : (b : ℕ) → is_digit b ≡ true → (b == 47) ≡ false
digit-other b h = grind (arith, nat_tests)

pub sign-other : (b : ℕ) (op : UnOp) → Sign b op → (b == 47) ≡ false
sign-other b op h = grind arith

pub constant-headed : (text : List ℕ) (n : ℕ) → Constant text n → Headed text
constant-headed text n (decimal_digits [] some all) = absurd (omega arith)
constant-headed text n (decimal_digits (b ∷ bs) some all) = record { b = b; bs = bs; spelled = refl; other = digit-other b (and_parts _ _ all).0 }
constant-headed text n (hexadecimal_digits digits some all) = record { b = 35; bs = digits; spelled = refl; other = refl }

pub primary-headed : (text : List ℕ) (e : Tree) → Primary text e → Headed text
primary-headed text e h = search (rules, constant-headed, digit-other, sign-other)

pub sign-step : (b : ℕ) (op : UnOp) (k : List Waiting) (d : ℕ) (es : List Tree) → Sign b op → move (st operand k d es) b ≡ Ok (st operand (sign op ∷ k) d es)
sign-step b op k d es plus = refl
sign-step b op k d es _ = refl

-- after `/` is what is after the operator, unless it is `/`
pub slash-move : (l : Tree) (k : List Waiting) (d : ℕ) (es : List Tree) (b : ℕ) → (b == 47) ≡ false → move (st (slash l) k d es) b ≡ move (st operand (strong Div l ∷ k) d es) b
slash-move l k d es b h = rw h refl

slash-read : (l : Tree) (k : List Waiting) (d : ℕ) (es : List Tree) (part : List ℕ) → Headed part → moves (st (slash l) k d es) part ≡ moves (st operand (strong Div l ∷ k) d es) part
unfolding moves
slash-read l k d es part h = cc

word-read : (word : List ℕ) (op : BinOp) (mode : Mode) (rest k : List Waiting) (l : Tree) (d : ℕ) (es : List Tree) (part : List ℕ) → StrongOperator word op → ends mode rest ≡ Some (l, k) → Headed part →
    moves (st mode rest d es) (word ++ part) ≡ moves (st operand (strong op l ∷ k) d es) part
word-read word op mode rest k l d es part mul e h = moves-first _ _ 42 part (goes-beyond mode rest (l, k) d es 42 e refl)
word-read word op mode rest k l d es part div e h = moves-first _ _ 47 part (goes-beyond mode rest (l, k) d es 47 e refl) ∙ slash-read l k d es part h
word-read word op mode rest k l d es part fraction e h = moves-first _ _ 47 (47 ∷ part) (goes-beyond mode rest (l, k) d es 47 e refl) ∙ moves-first _ _ 47 part refl
word-read word op mode rest k l d es part rem e h = moves-first _ _ 37 part (goes-beyond mode rest (l, k) d es 37 e refl)
word-read word op mode rest k l d es part left e h = moves-first _ _ 60 (60 ∷ part) (goes-beyond mode rest (l, k) d es 60 e refl) ∙ moves-first _ _ 60 part refl
word-read word op mode rest k l d es part right e h = moves-first _ _ 62 (62 ∷ part) (goes-beyond mode rest (l, k) d es 62 e refl) ∙ moves-first _ _ 62 part refl
word-read word op mode rest k l d es part and e h = moves-first _ _ 38 part (goes-beyond mode rest (l, k) d es 38 e refl)

pub weak-step : (b : ℕ) (op : BinOp) (mode : Mode) (rest : List Waiting) (p : Tree × List Waiting) (d : ℕ) (es : List Tree) → WeakOperator b op → ends mode rest ≡ Some p →
    move (st mode rest d es) b ≡ reading.weakly op (with_weak p.1 p.0) d es
weak-step b op mode rest p d es add e = goes-beyond mode rest p d es 43 e refl
weak-step b op mode rest p d es sub e = goes-beyond mode rest p d es 45 e refl
weak-step b op mode rest p d es or e = goes-beyond mode rest p d es 124 e refl
weak-step b op mode rest p d es xor e = goes-beyond mode rest p d es 94 e refl

-- A text is read, and a sum may end there.
pub record Summed (k : List Waiting) (d : ℕ) (es : List Tree) (text : List ℕ) (e : Tree) : Type 0 where
  pub mode : Mode
  pub rest : List Waiting
  pub p : Tree × List Waiting
  pub read : moves (st operand k d es) text ≡ Ok (st mode rest d es)
  pub ending : ends mode rest ≡ Some p
  pub sum : with_weak p.1 p.0 ≡ (e, k)

mutual
  pub primary-ended : {text : List ℕ} {e : Tree} → Primary text e → (k : List Waiting) (d : ℕ) (es : List Tree) → Ended k d es text (with_strong k e)
  primary-ended (constant t n h) k d es = constant-ended t n k d es h
  primary-ended (character c) k d es =
      record { mode = whole (with_strong k (number c)).0; rest = (with_strong k (number c)).1; read = moves-first _ _ 39 (c ∷ 39 ∷ []) refl ∙ moves-first _ _ c (39 ∷ []) refl ∙ moves-one _ 39; ending = refl }
  primary-ended (symbol b t h a) k d es = symbol-ended b t k d es h a
  primary-ended (last_label b h) k d es = let e : digit_value b ≡ b - 48 = value-of-digit b h in subst (λ n. Ended k d es (b ∷ 66 ∷ []) (with_strong k (back n))) (sym e) (label-ended b 66 (back (b - 48)) k d es h refl)
  primary-ended (next_label b h) k d es = let e : digit_value b ≡ b - 48 = value-of-digit b h in subst (λ n. Ended k d es (b ∷ 70 ∷ []) (with_strong k (ahead n))) (sym e) (label-ended b 70 (ahead (b - 48)) k d es h refl)
  primary-ended place k d es = record { mode = whole (with_strong k here).0; rest = (with_strong k here).1; read = moves-one _ 64; ending = refl }
  primary-ended (enclosed t e h) k d es =
      let s = sum-ended h (parenthesis ∷ k) (d + 1) es tt in
      let less : d + 1 - 1 ≡ d = omega arith in
      record {
        mode = whole (with_strong k e).0;
        rest = (with_strong k e).1;
        read = moves-first _ _ 40 (t ++ 41 ∷ []) refl ∙ moves-on _ _ t (41 ∷ []) s.read ∙ moves-one _ 41 ∙ goes-beyond s.mode s.rest s.p (d + 1) es 41 s.ending refl
            ∙ ap (λ q. reading.enclosed q (d + 1) es) s.sum ∙ ap (λ n. primary_end e k n es) less;
        ending = refl;
      }
  primary-ended (signed b op t e s h) k d es =
      let q = primary-ended h (sign op ∷ k) d es in
      record { mode = q.mode; rest = q.rest; read = moves-first _ _ b t (sign-step b op k d es s) ∙ q.read; ending = q.ending }

  pub product-ended : {text : List ℕ} {e : Tree} → Product text e → (k : List Waiting) (d : ℕ) (es : List Tree) → Plain k → Ended k d es text (e, k)
  product-ended (primary t e h) k d es p = let q = primary-ended h k d es in record { mode = q.mode; rest = q.rest; read = q.read; ending = q.ending ∙ ap Some (plain-settled k e p) }
  product-ended (times t word part op l r h w g) k d es p =
      let s = product-ended h k d es p in
      let q = primary-ended g (strong op l ∷ k) d es in
      record { mode = q.mode; rest = q.rest; read = moves-on _ _ t (word ++ part) s.read ∙ word-read word op s.mode s.rest k l d es part w s.ending (primary-headed part r g) ∙ q.read; ending = q.ending }

  pub sum-ended : {text : List ℕ} {e : Tree} → Sum text e → (k : List Waiting) (d : ℕ) (es : List Tree) → Level k → Summed k d es text e
  sum-ended (product t e h) k d es v =
      let q = product-ended h k d es (level-plain k v) in record { mode = q.mode; rest = q.rest; p = (e, k); read = q.read; ending = q.ending; sum = level-summed k e v }
  sum-ended (sum_plus t b part op l r h w g) k d es v =
      let s = sum-ended h k d es v in
      let q = product-ended g (weak op l ∷ k) d es tt in
      let step : move (st s.mode s.rest d es) b ≡ Ok (st operand (weak op l ∷ k) d es) = weak-step b op s.mode s.rest s.p d es w s.ending ∙ ap (λ x. reading.weakly op x d es) s.sum in
      record { mode = q.mode; rest = q.rest; p = (r, weak op l ∷ k); read = moves-on _ _ t (b ∷ part) s.read ∙ moves-first _ _ b part step ∙ q.read; ending = q.ending; sum = refl }
