-- Where reading stops.
use Rattle.std.proofs.Common.{◌≡◌, ℕ, ◌+◌, ◌*◌, ◌^◌, ◌<◌, ◌≤◌, List, [], ◌∷◌, ◌++◌, true, false, Option, Some, None, Ok, Err, refl, sym, ap, ◌∙◌, arith, ⊎_elim, nat_le, fold, ◌⊎◌}
use Rattle.mx_expr.proofs.Words.{list_all, and_parts, le-leb, cases_lt, nat_tests, ExprFault, TooWide, Tree, is_digit, is_hexadecimal, digit_value, Waiting, decimal, hexadecimal, State, Read, step, steps, within, and_then}
use Rattle.mx_expr.proofs.Moves.{st, move, moves, and-then-then, and-then-same}

pub steps-append : (s : State) (xs ys : List ℕ) → steps s (xs ++ ys) ≡ and_then (steps s xs) (λ t. steps t ys)
unfolding steps
steps-append s [] ys = refl
steps-append s (b ∷ bs) ys = and-then-same (step s b) _ _ (λ t. steps-append t bs ys) ∙ sym (and-then-then (step s b) (λ t. steps t bs) (λ t. steps t ys))

pub steps-on : (s t : State) (xs ys : List ℕ) → steps s xs ≡ Ok t → steps s (xs ++ ys) ≡ steps t ys
steps-on s t xs ys e = steps-append s xs ys ∙ ap (λ r. and_then r (λ u. steps u ys)) e

pub steps-first : (s t : State) (b : ℕ) (bs : List ℕ) → step s b ≡ Ok t → steps s (b ∷ bs) ≡ steps t bs
unfolding steps
steps-first s t b bs e = rw e refl

pub steps-refused : (s : State) (f : ExprFault) (b : ℕ) (bs : List ℕ) → step s b ≡ Err f → steps s (b ∷ bs) ≡ Err f
unfolding steps
steps-refused s f b bs e = rw e refl

pub steps-none : (s : State) → steps s [] ≡ Ok s
unfolding steps
steps-none s = refl

-- a front of what is read is read
pub record Front (s t : State) (xs ys : List ℕ) : Type 0 where
  pub state : State
  pub read : steps s xs ≡ Ok state
  pub later : steps state ys ≡ Ok t

front-of : (s t : State) (xs ys : List ℕ) (r : Read) → steps s xs ≡ r → and_then r (λ u. steps u ys) ≡ Ok t → Front s t xs ys
front-of s t xs ys r h1 h2 = grind arith

pub front-read : (s t : State) (xs ys : List ℕ) → steps s (xs ++ ys) ≡ Ok t → Front s t xs ys
front-read s t xs ys e = front-of s t xs ys (steps s xs) refl (sym (steps-append s xs ys) ∙ e)

pub within-err : (o : Option ExprFault) (r : Read) (f : ExprFault) → within o r ≡ Err f → (o ≡ Some f) ⊎ ((o ≡ None) × (r ≡ Err f))
within-err o r f h = grind arith

steps-moves-on : (s t : State) (b : ℕ) (bs : List ℕ) (r : Read) → step s b ≡ r → ((u : State) → steps u bs ≡ Ok t → moves u bs ≡ Ok t) → and_then r (λ u. steps u bs) ≡ Ok t → and_then (move s b) (λ u. moves u bs) ≡ Ok t
steps-moves-on s t b bs r h1 h2 h3 = grind arith

pub steps-moves : (s t : State) (xs : List ℕ) → steps s xs ≡ Ok t → moves s xs ≡ Ok t
unfolding steps moves
steps-moves s t [] h = h
steps-moves s t (b ∷ bs) h = steps-moves-on s t b bs (step s b) refl (λ u e. steps-moves u t bs e) h

-- where a fault comes
pub record Stops (s : State) (xs : List ℕ) (f : ExprFault) : Type 0 where
  pub front : List ℕ
  pub b : ℕ
  pub rest : List ℕ
  pub state : State
  pub spelled : xs ≡ front ++ b ∷ rest
  pub read : steps s front ≡ Ok state
  pub stop : step state b ≡ Err f

stops-on : (s : State) (b : ℕ) (bs : List ℕ) (f : ExprFault) (r : Read) → step s b ≡ r → ((u : State) → steps u bs ≡ Err f → Stops u bs f) → and_then r (λ u. steps u bs) ≡ Err f → Stops s (b ∷ bs) f
stops-on s b bs f (Ok u) e g h =
    let q = g u h in
    record { front = b ∷ q.front; b = q.b; rest = q.rest; state = q.state; spelled = ap (λ t. b ∷ t) q.spelled; read = steps-first s u b q.front e ∙ q.read; stop = q.stop }
stops-on s b bs f (Err g) e k h = record { front = []; b = b; rest = bs; state = s; spelled = refl; read = steps-none s; stop = e ∙ h }

pub stops : (s : State) (xs : List ℕ) (f : ExprFault) → steps s xs ≡ Err f → Stops s xs f
unfolding steps
stops s [] f h = absurd (cc)
stops s (b ∷ bs) f h = stops-on s b bs f (step s b) refl (λ u e. stops u bs f e) h

-- a wide constant is refused
decimal-refused : (n b : ℕ) (k : List Waiting) (d : ℕ) (es : List Tree) → is_digit b ≡ true → 2 ^ 64 ≤ n * 10 + digit_value b → step (st (decimal n) k d es) b ≡ Err TooWide
decimal-refused n b k d es h w = grind arith

not-wide : (n : ℕ) → n < 2 ^ 64 → nat_le (2 ^ 64) n ≡ false
not-wide n h = grind (arith, nat_tests)

decimal-taken : (n b : ℕ) (k : List Waiting) (d : ℕ) (es : List Tree) → is_digit b ≡ true → n * 10 + digit_value b < 2 ^ 64 → step (st (decimal n) k d es) b ≡ Ok (st (decimal (n * 10 + digit_value b)) k d es)
decimal-taken n b k d es h w = grind arith

pub wide-decimal : (n : ℕ) (bs rest : List ℕ) (k : List Waiting) (d : ℕ) (es : List Tree) → list_all is_digit bs ≡ true → n < 2 ^ 64 → 2 ^ 64 ≤ fold (λ v b. v * 10 + digit_value b) n bs →
    steps (st (decimal n) k d es) (bs ++ rest) ≡ Err TooWide
wide-decimal n [] rest k d es a l w = absurd (omega (arith, l, w))
wide-decimal n (b ∷ bs) rest k d es a l w =
    let h : is_digit b ≡ true = (and_parts _ _ a).0 in
    ⊎_elim
    (λ less. steps-first _ _ b (bs ++ rest) (decimal-taken n b k d es h less) ∙ wide-decimal (n * 10 + digit_value b) bs rest k d es (and_parts _ _ a).1 less w)
    (λ more. steps-refused _ TooWide b (bs ++ rest) (decimal-refused n b k d es h more))
    (cases_lt (n * 10 + digit_value b) (2 ^ 64))

hexadecimal-refused : (n b : ℕ) (k : List Waiting) (d : ℕ) (es : List Tree) → is_hexadecimal b ≡ true → 2 ^ 64 ≤ n * 16 + digit_value b → step (st (hexadecimal n) k d es) b ≡ Err TooWide
hexadecimal-refused n b k d es h w = let t : nat_le (2 ^ 64) (n * 16 + digit_value b) ≡ true = le-leb (2 ^ 64) (n * 16 + digit_value b) w in rw (h, t) refl

hexadecimal-taken : (n b : ℕ) (k : List Waiting) (d : ℕ) (es : List Tree) → is_hexadecimal b ≡ true → n * 16 + digit_value b < 2 ^ 64 → step (st (hexadecimal n) k d es) b ≡ Ok (st (hexadecimal (n * 16 + digit_value b)) k d es)
hexadecimal-taken n b k d es h w = let t : nat_le (2 ^ 64) (n * 16 + digit_value b) ≡ false = not-wide (n * 16 + digit_value b) w in rw (h, t) refl

pub wide-hexadecimal : (n : ℕ) (bs rest : List ℕ) (k : List Waiting) (d : ℕ) (es : List Tree) → list_all is_hexadecimal bs ≡ true → n < 2 ^ 64 → 2 ^ 64 ≤ fold (λ v b. v * 16 + digit_value b) n bs →
    steps (st (hexadecimal n) k d es) (bs ++ rest) ≡ Err TooWide
wide-hexadecimal n [] rest k d es a l w = absurd (omega (arith, l, w))
wide-hexadecimal n (b ∷ bs) rest k d es a l w =
    let h : is_hexadecimal b ≡ true = (and_parts _ _ a).0 in
    ⊎_elim
    (λ less. steps-first _ _ b (bs ++ rest) (hexadecimal-taken n b k d es h less) ∙ wide-hexadecimal (n * 16 + digit_value b) bs rest k d es (and_parts _ _ a).1 less w)
    (λ more. steps-refused _ TooWide b (bs ++ rest) (hexadecimal-refused n b k d es h more))
    (cases_lt (n * 16 + digit_value b) (2 ^ 64))
