-- Operands are read one after another, each from its first byte to the comma after it or to the end.
use Rattle.std.proofs.Common.{◌≡◌, ℕ, ◌+◌, ◌-◌, ◌*◌, ◌^◌, ◌<◌, ◌≤◌, true, false, List, [], ◌∷◌, ◌++◌, Some, Ok, refl, sym, ap, ◌∙◌, arith, subst, append_assoc, fold, length, nat_le, rules}
use Rattle.mx_gen.proofs.ShownWords.{join_with_byte, list_all, and_parts, nat_tests, Register, Tree, number, unary, is_digit, is_hexadecimal, Waiting, sign, Mode, operand, with_strong, step, steps, reading_end, start, Constant, digits_value}
use Rattle.mx_expr.specs.Bytes.{digit_value}
use Rattle.mx_expr.specs.Reading as reading
use Rattle.mx_expr.specs.Spelling.Constant.{decimal as decimal_digits, hexadecimal as hexadecimal_digits}
use Rattle.mx_expr.proofs.Moves.{st, ends, finish-ends}
use Rattle.mx_expr.proofs.Stops.{steps-on, steps-first, steps-none}

-- A text is read, and a primary may end there, with this tree and what waits then.
pub record IsTakenAfter (k : List Waiting) (done : List Tree) (text : List ℕ) (p : Tree × List Waiting) : Type 0 where
  pub mode : Mode
  pub rest : List Waiting
  pub read : steps (st operand k 0 done) text ≡ Ok (st mode rest 0 done)
  pub ending : ends mode rest ≡ Some p

-- the text is an operand that is read as the tree
abbrev pub IsTaken : List ℕ → Tree → Type 0
IsTaken text e = (done : List Tree) → IsTakenAfter [] done text (e, [])

-- each text with its tree
abbrev pub Each : (List ℕ → Tree → Type 0) → List (List ℕ) → List Tree → Type 0
Each R [] [] = Unit {0}
Each R [] (e ∷ es) = ⊥
Each R (t ∷ ts) [] = ⊥
Each R (t ∷ ts) (e ∷ es) = R t e × Each R ts es

-- ---- constants

narrow : (n : ℕ) → n < 2 ^ 64 → nat_le (2 ^ 64) n ≡ false
narrow n lt = grind (arith, nat_tests)

value-of-digit : (b : ℕ) → is_digit b ≡ true → b - 48 ≡ digit_value b
value-of-digit b h = rw h refl

-- more digits count no less
least-decimal : (n : ℕ) (bs : List ℕ) → n ≤ fold (λ v b. v * 10 + digit_value b) n bs
least-decimal n [] = omega arith
least-decimal n (b ∷ bs) = let more = least-decimal (n * 10 + digit_value b) bs in omega (arith, more)

least-hexadecimal : (n : ℕ) (bs : List ℕ) → n ≤ fold (λ v b. v * 16 + digit_value b) n bs
least-hexadecimal n [] = omega arith
least-hexadecimal n (b ∷ bs) = let more = least-hexadecimal (n * 16 + digit_value b) bs in omega (arith, more)

decimal-taken : (n b : ℕ) (k : List Waiting) (done : List Tree) → is_digit b ≡ true → n * 10 + digit_value b < 2 ^ 64 →
    step (st (reading.decimal n) k 0 done) b ≡ Ok (st (reading.decimal (n * 10 + digit_value b)) k 0 done)
decimal-taken n b k done h1 h2 = search rules

hexadecimal-taken : (n b : ℕ) (k : List Waiting) (done : List Tree) → is_hexadecimal b ≡ true → n * 16 + digit_value b < 2 ^ 64 →
    step (st (reading.hexadecimal n) k 0 done) b ≡ Ok (st (reading.hexadecimal (n * 16 + digit_value b)) k 0 done)
hexadecimal-taken n b k done h lt = let t : nat_le (2 ^ 64) (n * 16 + digit_value b) ≡ false = narrow (n * 16 + digit_value b) lt in rw (h, t) refl

in-decimal : (n : ℕ) (bs : List ℕ) (k : List Waiting) (done : List Tree) → list_all is_digit bs ≡ true → fold (λ v b. v * 10 + digit_value b) n bs < 2 ^ 64 →
    steps (st (reading.decimal n) k 0 done) bs ≡ Ok (st (reading.decimal (fold (λ v b. v * 10 + digit_value b) n bs)) k 0 done)
in-decimal n [] k done all lt = steps-none _
in-decimal n (b ∷ bs) k done all lt =
    let more = least-decimal (n * 10 + digit_value b) bs in
    steps-first _ _ b bs (decimal-taken n b k done (and_parts _ _ all).0 (omega (arith, more, lt)))
    ∙ in-decimal (n * 10 + digit_value b) bs k done (and_parts _ _ all).1 lt

in-hexadecimal : (n : ℕ) (bs : List ℕ) (k : List Waiting) (done : List Tree) → list_all is_hexadecimal bs ≡ true → fold (λ v b. v * 16 + digit_value b) n bs < 2 ^ 64 →
    steps (st (reading.hexadecimal n) k 0 done) bs ≡ Ok (st (reading.hexadecimal (fold (λ v b. v * 16 + digit_value b) n bs)) k 0 done)
in-hexadecimal n [] k done all lt = steps-none _
in-hexadecimal n (b ∷ bs) k done all lt =
    let more = least-hexadecimal (n * 16 + digit_value b) bs in
    steps-first _ _ b bs (hexadecimal-taken n b k done (and_parts _ _ all).0 (omega (arith, more, lt)))
    ∙ in-hexadecimal (n * 16 + digit_value b) bs k done (and_parts _ _ all).1 lt

first-digit : (b : ℕ) (k : List Waiting) (done : List Tree) → is_digit b ≡ true → step (st operand k 0 done) b ≡ Ok (st (reading.digit (digit_value b)) k 0 done)
first-digit b k done h1 = search rules

second-digit : (n b : ℕ) (k : List Waiting) (done : List Tree) → is_digit b ≡ true → step (st (reading.digit n) k 0 done) b ≡ Ok (st (reading.decimal (n * 10 + digit_value b)) k 0 done)
second-digit n b k done h = subst (λ v. step (st (reading.digit n) k 0 done) b ≡ Ok (st (reading.decimal (n * 10 + v)) k 0 done)) (value-of-digit b h) (rw h refl)

from-zero : (base d : ℕ) → 0 * base + d ≡ d
from-zero base d = omega arith

decimal-read : (b : ℕ) (bs : List ℕ) (k : List Waiting) (done : List Tree) → list_all is_digit (b ∷ bs) ≡ true → digits_value 10 (b ∷ bs) < 2 ^ 64 →
    IsTakenAfter k done (b ∷ bs) (with_strong k (number (digits_value 10 (b ∷ bs))))
decimal-read b [] k done all lt =
    record {
      mode = reading.digit (digit_value b);
      rest = k;
      read = steps-first _ _ b [] (first-digit b k done (and_parts _ _ all).0) ∙ steps-none _;
      ending = ap (λ n. Some (with_strong k (number n))) (sym (from-zero 10 (digit_value b)));
    }
decimal-read b (c ∷ bs) k done all lt =
    let rest : list_all is_digit (c ∷ bs) ≡ true = (and_parts _ _ all).1 in
    let same : digits_value 10 (b ∷ c ∷ bs) ≡ fold (λ v x. v * 10 + digit_value x) (digit_value b * 10 + digit_value c) bs =
    ap (λ n. fold (λ v x. v * 10 + digit_value x) (n * 10 + digit_value c) bs) (from-zero 10 (digit_value b)) in
    record {
      mode = reading.decimal (fold (λ v x. v * 10 + digit_value x) (digit_value b * 10 + digit_value c) bs);
      rest = k;
      read =
          steps-first _ _ b (c ∷ bs) (first-digit b k done (and_parts _ _ all).0)
          ∙ steps-first _ _ c bs (second-digit (digit_value b) c k done (and_parts _ _ rest).0)
          ∙ in-decimal (digit_value b * 10 + digit_value c) bs k done (and_parts _ _ rest).1 (rw same at lt);
      ending = ap (λ n. Some (with_strong k (number n))) (sym same);
    }

hexadecimal-read : (b : ℕ) (bs : List ℕ) (k : List Waiting) (done : List Tree) → list_all is_hexadecimal (b ∷ bs) ≡ true → digits_value 16 (b ∷ bs) < 2 ^ 64 →
    IsTakenAfter k done (35 ∷ b ∷ bs) (with_strong k (number (digits_value 16 (b ∷ bs))))
hexadecimal-read b bs k done all lt =
    let digit : is_hexadecimal b ≡ true = (and_parts _ _ all).0 in
    let second : step (st reading.hash k 0 done) b ≡ Ok (st (reading.hexadecimal (digit_value b)) k 0 done) = rw digit refl in
    let same : digits_value 16 (b ∷ bs) ≡ fold (λ v x. v * 16 + digit_value x) (digit_value b) bs =
    ap (λ n. fold (λ v x. v * 16 + digit_value x) n bs) (from-zero 16 (digit_value b)) in
    record {
      mode = reading.hexadecimal (fold (λ v x. v * 16 + digit_value x) (digit_value b) bs);
      rest = k;
      read =
          steps-first _ _ 35 (b ∷ bs) refl
          ∙ steps-first _ _ b bs second
          ∙ in-hexadecimal (digit_value b) bs k done (and_parts _ _ all).1 (rw same at lt);
      ending = ap (λ n. Some (with_strong k (number n))) (sym same);
    }

constant-read : (k : List Waiting) (done : List Tree) (text : List ℕ) (n : ℕ) → n < 2 ^ 64 → Constant text n → IsTakenAfter k done text (with_strong k (number n))
constant-read k done text n lt (decimal_digits [] some all) = absurd (omega arith)
constant-read k done text n lt (decimal_digits (b ∷ bs) some all) = decimal-read b bs k done all lt
constant-read k done text n lt (hexadecimal_digits [] some all) = absurd (omega arith)
constant-read k done text n lt (hexadecimal_digits (b ∷ bs) some all) = hexadecimal-read b bs k done all lt

-- A constant below 2^64 is an operand, and so is one after `$`.
pub constant-taken : (text : List ℕ) (n : ℕ) → n < 2 ^ 64 → Constant text n → IsTaken text (number n)
constant-taken text n lt is done = constant-read [] done text n lt is

pub register-taken : (text : List ℕ) (n : ℕ) → n < 2 ^ 64 → Constant text n → IsTaken (36 ∷ text) (unary Register (number n))
register-taken text n lt is done =
    let q = constant-read (sign Register ∷ []) done text n lt is in
    record { mode = q.mode; rest = q.rest; read = steps-first _ _ 36 text refl ∙ q.read; ending = q.ending }

-- ---- lists

-- a comma after an operand
comma-read : (mode : Mode) (rest : List Waiting) (e : Tree) (done : List Tree) → ends mode rest ≡ Some (e, []) → step (st mode rest 0 done) 44 ≡ Ok (st operand [] 0 (done ++ e ∷ []))
comma-read mode rest e done h1 = search rules

following : (t : List ℕ) (ts : List (List ℕ)) (e : Tree) (es done : List Tree) → Each IsTaken (t ∷ ts) (e ∷ es) →
    reading_end (steps (st operand [] 0 done) (join_with_byte 44 (t ∷ ts))) ≡ Ok (done ++ e ∷ es)
following t [] e [] done are = let q = are.0 done in ap reading_end q.read ∙ finish-ends q.mode q.rest (e, []) done q.ending
following t (u ∷ ts) e (f ∷ es) done are =
    let q = are.0 done in
    ap reading_end (steps-on _ _ t (44 ∷ join_with_byte 44 (u ∷ ts)) q.read ∙ steps-first _ _ 44 (join_with_byte 44 (u ∷ ts)) (comma-read q.mode q.rest e done q.ending))
    ∙ following u ts f es (done ++ e ∷ []) are.1
    ∙ ap Ok (append_assoc done (e ∷ []) (f ∷ es))
following t ts e es done are = absurd are.1

field-read : (field : List ℕ) (list : List Tree) → reading_end (steps start field) ≡ Ok list → reading.reading field ≡ Ok list
field-read field list h1 = search (rules, steps-none)

-- Operands with commas between them are read as their trees.
pub list-read : (ts : List (List ℕ)) (es : List Tree) → 0 < length es → Each IsTaken ts es → reading.reading (join_with_byte 44 ts) ≡ Ok es
list-read ts [] some are = absurd (omega (arith, some))
list-read [] (e ∷ es) some are = absurd are
list-read (t ∷ ts) (e ∷ es) some are = field-read (join_with_byte 44 (t ∷ ts)) (e ∷ es) (following t ts e es [] are)
