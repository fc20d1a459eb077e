-- Reading where constants and parentheses have no bound.
use Rattle.std.proofs.Common.{◌≡◌, ℕ, List, [], ◌∷◌, ◌++◌, false, Option, Some, None, Ok, refl, sym, ap, ◌∙◌, arith, ◌==◌, rules}
use Rattle.mx_expr.proofs.Words.{nat_tests, Tree, number, name, is_digit, is_hexadecimal, is_name_byte, Waiting, Mode, operand, whole, digit, decimal, hash, hexadecimal, quote, character, symbol, slash, less, greater, string, closed, State, Read, and_then, next_reading, with_strong, with_weak, after, listed, field_end}

abbrev pub st : Mode → List Waiting → ℕ → List Tree → State
st mode k d es = record { mode = mode; waiting = k; depth = d; done = es }

abbrev pub move : State → ℕ → Read
move s b = next_reading s.mode s.waiting s.depth s.done b

unfoldable pub moves : State → List ℕ → Read
moves s [] = Ok s
moves s (b ∷ bs) = and_then (move s b) (λ t. moves t bs)

pub and-then-then : (r : Read) (f g : State → Read) → and_then (and_then r f) g ≡ and_then r (λ s. and_then (f s) g)
and-then-then r = grind arith

pub and-then-same : (r : Read) (f g : State → Read) → ((s : State) → f s ≡ g s) → and_then r f ≡ and_then r g
and-then-same r f g h = grind arith

pub moves-append : (s : State) (xs ys : List ℕ) → moves s (xs ++ ys) ≡ and_then (moves s xs) (λ t. moves t ys)
unfolding moves
moves-append s [] ys = refl
moves-append s (b ∷ bs) ys = and-then-same (move s b) _ _ (λ t. moves-append t bs ys) ∙ sym (and-then-then (move s b) (λ t. moves t bs) (λ t. moves t ys))

-- two texts one after another
pub moves-on : (s t : State) (xs ys : List ℕ) → moves s xs ≡ Ok t → moves s (xs ++ ys) ≡ moves t ys
moves-on s t xs ys e = moves-append s xs ys ∙ ap (λ r. and_then r (λ u. moves u ys)) e

pub moves-first : (s t : State) (b : ℕ) (bs : List ℕ) → move s b ≡ Ok t → moves s (b ∷ bs) ≡ moves t bs
unfolding moves
moves-first s t b bs e = rw e refl

pub moves-none : (s : State) → moves s [] ≡ Ok s
unfolding moves
moves-none s = refl

pub moves-one : (s : State) (b : ℕ) → moves s (b ∷ []) ≡ move s b
unfolding moves
moves-one s b = grind arith

-- where a primary may end: the product, and what waits
abbrev pub ends : Mode → List Waiting → Option (Tree × List Waiting)
ends operand k = None
ends (whole e) k = Some (e, k)
ends (digit n) k = Some (with_strong k (number n))
ends (decimal n) k = Some (with_strong k (number n))
ends hash k = None
ends (hexadecimal n) k = Some (with_strong k (number n))
ends quote k = None
ends (character c) k = None
ends (symbol text) k = Some (with_strong k (name text))
ends (slash e) k = None
ends (less e) k = None
ends (greater e) k = None
ends (string empty) k = None
ends closed k = None

no-digit : (b : ℕ) → is_name_byte b ≡ false → is_digit b ≡ false
no-digit b h = grind (arith, nat_tests)

no-hexadecimal : (b : ℕ) → is_name_byte b ≡ false → is_hexadecimal b ≡ false
no-hexadecimal b h = grind (arith, nat_tests)

no-last : (b : ℕ) → is_name_byte b ≡ false → (b == 66) ≡ false
no-last b h = grind (arith, nat_tests)

no-next : (b : ℕ) → is_name_byte b ≡ false → (b == 70) ≡ false
no-next b h = grind (arith, nat_tests)

-- A byte that is no letter and no digit ends a primary.
pub goes-beyond : (mode : Mode) (k : List Waiting) (p : Tree × List Waiting) (d : ℕ) (es : List Tree) (b : ℕ) → ends mode k ≡ Some p → is_name_byte b ≡ false → next_reading mode k d es b ≡ after b p d es
goes-beyond mode k p d es b h1 h2 = search (rules, no-digit, no-last, no-next, no-hexadecimal)

pub finish-ends : (mode : Mode) (k : List Waiting) (p : Tree × List Waiting) (es : List Tree) → ends mode k ≡ Some p → field_end mode k es ≡ listed (with_weak p.1 p.0) es
finish-ends mode k p es h = grind arith
