-- The bytes of shown operands are those of an operand field with no string, and they are few.
use Rattle.std.proofs.Common.{◌≡◌, ℕ, ◌*◌, ◌^◌, ◌<◌, ◌≤◌, true, List, [], ◌∷◌, length, map, refl, arith, length-append, rules}
use Rattle.mx_gen.proofs.ShownWords.{decimal, digit_value, join_with_byte, list_all, AllDigits, nat_tests, decimal_is_IsNumeral, length-decimal-le, Tree, number, Shape, is_other, hex_digits, field_code, operand_text, operands, operands_text, shape, shown_operands, hex-numeral}
use Rattle.std.proofs.lemmas.List.Folds.{list_all-append}
use Rattle.mx_gen.proofs.OperandLists.{Each}
use Rattle.mx_gen.proofs.OperandTrees.{register, trees, each-shown, few}

digit-other : (b : ℕ) → digit_value b < 16 → is_other b ≡ true
digit-other b lt = grind (arith, nat_tests)

digits-other : (radix : ℕ) (ds : List ℕ) → radix < 17 → AllDigits radix ds → list_all is_other ds ≡ true
digits-other radix [] le all = refl
digits-other radix (d ∷ ds) le all = rw (digit-other d (omega (arith, le, all.0)), digits-other radix ds le all.1) refl

-- other bytes than quotes, blanks and `;`, and at most 21 of them
abbrev pub IsPlain : List ℕ → Tree → Type 0
IsPlain text e = (list_all is_other text ≡ true) × (length text ≤ 21)

decimal-plain : (n : ℕ) → n < 2 ^ 64 → (list_all is_other (decimal n) ≡ true) × (length (decimal n) ≤ 20)
decimal-plain n lt = (digits-other 10 (decimal n) (omega arith) (decimal_is_IsNumeral n lt).0.1, length-decimal-le 20 n (omega arith) (omega (arith, lt)) lt)

number-plain : (n : ℕ) → n < 2 ^ 64 → IsPlain (decimal n) (number n)
number-plain n lt = let d = decimal-plain n lt in (d.0, omega (arith, d.1))

register-plain : (n : ℕ) → n < 2 ^ 64 → IsPlain (36 ∷ decimal n) (register n)
register-plain n lt = let d = decimal-plain n lt in (rw d.0 refl, omega (arith, d.1))

hex-length : (x : ℕ) → length (hex_digits 16 x) ≡ 16
unfolding hex_digits
hex-length x = refl

joined-other : (ts : List (List ℕ)) (es : List Tree) → Each IsPlain ts es → list_all is_other (join_with_byte 44 ts) ≡ true
joined-other [] [] are = refl
joined-other (t ∷ []) (e ∷ es) are = are.0.0
joined-other (t ∷ u ∷ ts) (e ∷ es) are = grind (arith, list_all-append, joined-other (u ∷ ts) es are.1)
joined-other ts es are = absurd are

joined-length : (ts : List (List ℕ)) (es : List Tree) → Each IsPlain ts es → length (join_with_byte 44 ts) ≤ 22 * length es
joined-length [] [] are = omega arith
joined-length (t ∷ []) (e ∷ es) are = omega (arith, are.0.1)
joined-length (t ∷ u ∷ ts) (e ∷ es) are = omega (arith, are.0.1, joined-length (u ∷ ts) es are.1, length-append t (44 ∷ join_with_byte 44 (u ∷ ts)))
joined-length ts es are = absurd are

module _ (word pc : ℕ) where
  each-plain : (s : Shape) → Each IsPlain (map operand_text (operands s word pc)) (trees s word pc)
  each-plain = search (rules, each-shown, number-plain, register-plain, digits-other, hex-numeral, hex-length)

  pub operands-other : list_all is_other (operands_text (shown_operands word pc)) ≡ true
  unfolding operands_text shown_operands
  operands-other = joined-other (map operand_text (operands (shape (field_code word)) word pc)) (trees (shape (field_code word)) word pc) (each-plain (shape (field_code word)))

  pub operands-few : length (operands_text (shown_operands word pc)) ≤ 66
  unfolding operands_text shown_operands
  operands-few =
      let some = joined-length (map operand_text (operands (shape (field_code word)) word pc)) (trees (shape (field_code word)) word pc) (each-plain (shape (field_code word))) in
      omega (arith, some, (few (shape (field_code word)) word pc).1)
