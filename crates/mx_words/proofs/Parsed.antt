-- Digits as `parse` reads them.
use Rattle.std.proofs.Common.{◌≡◌, ℕ, ◌^◌, ◌<◌, ◌≤◌, true, false, List, length, None, Result, Ok, refl, arith, rules, nat_le, ◌&&◌}
use Rattle.std.specs.List.{list_all}
use Rattle.std.specs.Result.{result_ok}
use Rattle.std.specs.Str.Parse.{ParsesUnsigned, digits_value}
use Rattle.std.proofs.lemmas.Str.Parse.{IsNumeralModel, numerals_by_value, parse_gives, digits_value_short}
use Rattle.std.proofs.lemmas.Bool.{and_parts}
use Rattle.std.proofs.lemmas.Bool.Decides.{nat_tests}
use Rattle.mx_word.specs.Kinds.{is_digit}
use Rattle.mx_words.specs.Values.{is_number, number_of}

own : IsNumeralModel (λ ds. list_all is_digit ds ≡ true) (digits_value 10)
own = numerals_by_value _ (search rules)

at-least : (n : ℕ) → nat_le 1 n ≡ true → 1 ≤ n
at-least n h = grind (arith, nat_tests)

at-most : (n : ℕ) → nat_le n 13 ≡ true → n ≤ 13
at-most n h = grind (arith, nat_tests)

pub parsed : {E : Type 0} (w : List ℕ) (r : Result ℕ E) → ParsesUnsigned 64 10 w r → is_number w ≡ true → result_ok r ≡ number_of w
parsed w r p is =
    let parts : ((nat_le 1 (length w) && nat_le (length w) 13) ≡ true) × (list_all is_digit w ≡ true) = and_parts _ _ is in
    let bounds : (nat_le 1 (length w) ≡ true) × (nat_le (length w) 13 ≡ true) = and_parts _ _ parts.0 in
    let short : digits_value 10 w < 10 ^ 13 = digits_value_short own w 13 parts.1 (at-most _ bounds.1) in
    let gives : r ≡ Ok (digits_value 10 w) = parse_gives own 64 w r p parts.1 (at-least _ bounds.0) (omega (arith, short)) in
    rw (gives, is) refl

pub not-parsed : (w : List ℕ) → is_number w ≡ false → None ≡ number_of w
not-parsed w is = rw is refl

pub ruleset parsing = (parsed, not-parsed)
