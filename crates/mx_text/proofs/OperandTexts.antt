-- Operands are told by their texts.
use Rattle.std.proofs.Common.{◌≡◌, ℕ, ◌<◌, ◌≤◌, ◌^◌, Bool, true, false, not, eqb, List, [], ◌∷◌, map, refl, sym, ap, arith, drop}
use Rattle.mx_text.proofs.Words.{decimal, digit_value, AllDigits, eqb-true, decimal_injective, decimal_is_IsNumeral, hex_digits, operand_text, Operand, Register, Number, Address}
use Rattle.mx_text.proofs.HexValues.{all}
use Rattle.mx_text.proofs.Different.{hex-differ}
use Rattle.mx_text.proofs.Parts.{lacks, each-lacks}

-- the number of an operand is an octa
abbrev pub IsShown : Operand → Type 0
IsShown (Register k) = k < 2 ^ 64
IsShown (Number n) = n < 2 ^ 64
IsShown (Address a) = a < 2 ^ 64

abbrev pub AreShown : List Operand → Type 0
AreShown [] = Unit {0}
AreShown (o ∷ os) = IsShown o × AreShown os

-- digits have no comma
no-digit : (b radix : ℕ) (t : Bool) → radix ≤ 16 → digit_value b < radix → eqb b 44 ≡ t → not t ≡ true
no-digit b radix true le lt is = absurd (omega (arith, le, rw (eqb-true b 44 is) at lt))
no-digit b radix false le lt is = refl

digits-lack : (radix : ℕ) (ds : List ℕ) → radix ≤ 16 → AllDigits radix ds → lacks 44 ds ≡ true
digits-lack radix [] le all = refl
digits-lack radix (d ∷ ds) le all = rw (no-digit d radix _ le all.0 refl, digits-lack radix ds le all.1) refl

decimal-lacks : (n : ℕ) → n < 2 ^ 64 → lacks 44 (decimal n) ≡ true
decimal-lacks n lt = digits-lack 10 (decimal n) (omega arith) (decimal_is_IsNumeral n lt).0.1

pub text-lacks : (o : Operand) → IsShown o → lacks 44 (operand_text o) ≡ true
text-lacks (Register k) lt = decimal-lacks k lt
text-lacks (Number n) lt = decimal-lacks n lt
text-lacks (Address a) lt = digits-lack 16 (hex_digits 16 a) (omega arith) (all 16 a)

pub texts-lack : (os : List Operand) → AreShown os → each-lacks 44 (map operand_text os) ≡ true
texts-lack [] are = refl
texts-lack (o ∷ os) are = rw (text-lacks o are.0, texts-lack os are.1) refl

-- a number begins with no other byte than a digit
no-number : (n b : ℕ) (bs : List ℕ) → n < 2 ^ 64 → 10 ≤ digit_value b → decimal n ≡ b ∷ bs → true ≡ false
no-number n b bs lt ge is = absurd (omega (arith, ge, (rw is at (decimal_is_IsNumeral n lt).0.1).0))

signs-differ : (xs ys : List ℕ) → 36 ∷ xs ≡ 35 ∷ ys → true ≡ false
signs-differ xs ys is = cc is

pub same-operand : (o p : Operand) → IsShown o → IsShown p → operand_text o ≡ operand_text p → o ≡ p
same-operand (Register k) (Register j) lo lp same = ap Register (decimal_injective k j lo lp (ap (drop 1) same))
same-operand (Register k) (Number n) lo lp same = absurd (cc (no-number n 36 _ lp (omega arith) (sym same)))
same-operand (Register k) (Address a) lo lp same = absurd (cc (signs-differ _ _ same))
same-operand (Number n) (Register j) lo lp same = absurd (cc (no-number n 36 _ lo (omega arith) same))
same-operand (Number n) (Number m) lo lp same = ap Number (decimal_injective n m lo lp same)
same-operand (Number n) (Address a) lo lp same = absurd (cc (no-number n 35 _ lo (omega arith) same))
same-operand (Address a) (Register j) lo lp same = absurd (cc (signs-differ _ _ (sym same)))
same-operand (Address a) (Number m) lo lp same = absurd (cc (no-number m 35 _ lp (omega arith) (sym same)))
same-operand (Address a) (Address b) lo lp same = ap Address (hex-differ a b lo lp same)

pub same-operands : (os ps : List Operand) → AreShown os → AreShown ps → map operand_text os ≡ map operand_text ps → os ≡ ps
same-operands [] [] so sp same = refl
same-operands (o ∷ os) (p ∷ ps) so sp same =
    cc (same-operand o p so.0 sp.0 (first _ _ _ _ same), same-operands os ps so.1 sp.1 (ap (drop 1) same))
  where
    first : (x y : List ℕ) (xs ys : List (List ℕ)) → x ∷ xs ≡ y ∷ ys → x ≡ y
    first x y xs ys is = cc is
same-operands os ps so sp same = cc same
