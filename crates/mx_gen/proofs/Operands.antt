-- The operand fields of the source are read as their trees.
use Rattle.std.proofs.Common.{◌≡◌, ℕ, ◌^◌, ◌<◌, ◌≤◌, Bool, true, List, [], ◌∷◌, ◌++◌, length, codes, Ok, refl, ap, ◌∙◌, arith, append_assoc, append-nil, sym}
use Rattle.mx_gen.proofs.Words.{decimal, digit_value, list_all, AllDigits, and_parts, nat_tests, decimal_is_IsNumeral, length-decimal-le, is_other, Tree, number, name, ahead, sign, steps, reg, block_name, procedure_name}
use Rattle.mx_expr.specs.declared.tree.UnOp.TheVariants.{Register}
use Rattle.mx_expr.specs.Bytes.{is_name_byte}
use Rattle.mx_expr.specs.Reading as reading
use Rattle.mx_expr.proofs.Moves.{st}
use Rattle.mx_expr.proofs.Stops.{steps-first, steps-none}
use Rattle.mx_gen.proofs.Numerals.{decimal-constant}
use Rattle.mx_gen.proofs.OperandLists.{IsTaken, constant-taken, list-read}
use Rattle.mx_gen.proofs.Lines.{no_newline, IsClean}

-- ---- decimal digits

name-digit : (b : ℕ) → digit_value b < 10 → is_name_byte b ≡ true
name-digit b lt = grind (arith, nat_tests)

other-digit : (b : ℕ) → digit_value b < 10 → is_other b ≡ true
other-digit b lt = grind (arith, nat_tests)

plain-digit : (b : ℕ) → digit_value b < 10 → no_newline b ≡ true
plain-digit b lt = grind (arith, nat_tests)

all-digits : (P : ℕ → Bool) → ((b : ℕ) → digit_value b < 10 → P b ≡ true) → (ds : List ℕ) → AllDigits 10 ds → list_all P ds ≡ true
all-digits P of [] all = refl
all-digits P of (d ∷ ds) all = rw (of d all.0, all-digits P of ds all.1) refl

pub decimal-names : (n : ℕ) → n < 2 ^ 64 → list_all is_name_byte (decimal n) ≡ true
decimal-names n lt = all-digits is_name_byte name-digit (decimal n) (decimal_is_IsNumeral n lt).0.1

pub decimal-clean : (n : ℕ) → n < 2 ^ 64 → IsClean (decimal n)
decimal-clean n lt = let p = (decimal_is_IsNumeral n lt).0.1 in (all-digits is_other other-digit (decimal n) p, all-digits no_newline plain-digit (decimal n) p)

pub short-digits : (n : ℕ) → n < 2 ^ 16 → length (decimal n) ≤ 5
short-digits n low = length-decimal-le 5 n (omega arith) (omega (arith, low)) (omega (arith, low))

-- ---- names

in-name : (text bs : List ℕ) (done : List Tree) → list_all is_name_byte bs ≡ true → steps (st (reading.symbol text) [] 0 done) bs ≡ Ok (st (reading.symbol (text ++ bs)) [] 0 done)
in-name text [] done all = steps-none _ ∙ ap (λ t. Ok (st (reading.symbol t) [] 0 done)) (sym (append-nil text))
in-name text (b ∷ bs) done all = grind (arith, and_parts, steps-first, append_assoc, in-name (text ++ b ∷ []) bs done)

-- the name of a block is an operand
block-taken : (k : ℕ) → k < 2 ^ 64 → IsTaken (66 ∷ decimal k) (name (66 ∷ decimal k))
block-taken k lt done = record {
  mode = reading.symbol (66 ∷ decimal k);
  rest = [];
  read = steps-first _ _ 66 (decimal k) refl ∙ in-name (66 ∷ []) (decimal k) done (decimal-names k lt);
  ending = refl;
}

zero-taken : IsTaken (codes "$0") (reg 0)
unfolding steps
zero-taken done = record { mode = reading.digit 0; rest = sign Register ∷ []; read = refl; ending = refl }

two-taken : IsTaken (codes "$2") (reg 2)
unfolding steps
two-taken done = record { mode = reading.digit 2; rest = sign Register ∷ []; read = refl; ending = refl }

number-taken : (n : ℕ) → n < 2 ^ 64 → IsTaken (decimal n) (number n)
number-taken n lt = constant-taken (decimal n) n lt (decimal-constant n lt)

-- ---- fields with a number

pub setl-read : (n : ℕ) → n < 2 ^ 64 → reading.reading (codes "$2," ++ decimal n) ≡ Ok (reg 2 ∷ number n ∷ [])
setl-read n lt = list-read (codes "$2" ∷ decimal n ∷ []) (reg 2 ∷ number n ∷ []) (omega arith) (two-taken, (number-taken n lt, tt))

pub incl-read : (n : ℕ) → n < 2 ^ 64 → reading.reading (codes "$0," ++ decimal n) ≡ Ok (reg 0 ∷ number n ∷ [])
incl-read n lt = list-read (codes "$0" ∷ decimal n ∷ []) (reg 0 ∷ number n ∷ []) (omega arith) (zero-taken, (number-taken n lt, tt))

pub bod-read : (k : ℕ) → k < 2 ^ 64 → reading.reading (codes "$0,B" ++ decimal k) ≡ Ok (reg 0 ∷ name (block_name k) ∷ [])
bod-read k lt = list-read (codes "$0" ∷ (66 ∷ decimal k) ∷ []) (reg 0 ∷ name (block_name k) ∷ []) (omega arith) (zero-taken, (block-taken k lt, tt))

-- ---- the others

pub loc-read : reading.reading (codes "#100") ≡ Ok (number 0x100 ∷ [])
unfolding steps
loc-read = refl

pub main-read : reading.reading (codes "$0,0") ≡ Ok (reg 0 ∷ number 0 ∷ [])
unfolding steps
main-read = refl

pub call-read : reading.reading (codes "$1,Rec") ≡ Ok (reg 1 ∷ name procedure_name ∷ [])
unfolding steps
call-read = refl

pub sum-read : reading.reading (codes "$0,$0,$1") ≡ Ok (reg 0 ∷ reg 0 ∷ reg 1 ∷ [])
unfolding steps
sum-read = refl

pub set-read : reading.reading (codes "$255,$0") ≡ Ok (reg 255 ∷ reg 0 ∷ [])
unfolding steps
set-read = refl

pub trap-read : reading.reading (codes "0,Halt,0") ≡ Ok (number 0 ∷ name (codes "Halt") ∷ number 0 ∷ [])
unfolding steps
trap-read = refl

pub skip-read : reading.reading (codes "$0,1F") ≡ Ok (reg 0 ∷ ahead 1 ∷ [])
unfolding steps
skip-read = refl

pub get-read : reading.reading (codes "$1,rJ") ≡ Ok (reg 1 ∷ name (codes "rJ") ∷ [])
unfolding steps
get-read = refl

pub less-read : reading.reading (codes "$3,$0,1") ≡ Ok (reg 3 ∷ reg 0 ∷ number 1 ∷ [])
unfolding steps
less-read = refl

pub again-read : reading.reading (codes "$2,Rec") ≡ Ok (reg 2 ∷ name procedure_name ∷ [])
unfolding steps
again-read = refl

pub more-read : reading.reading (codes "$0,$0,$2") ≡ Ok (reg 0 ∷ reg 0 ∷ reg 2 ∷ [])
unfolding steps
more-read = refl

pub put-read : reading.reading (codes "rJ,$1") ≡ Ok (name (codes "rJ") ∷ reg 1 ∷ [])
unfolding steps
put-read = refl

pub pop-read : reading.reading (codes "1,0") ≡ Ok (number 1 ∷ number 0 ∷ [])
unfolding steps
pop-read = refl
