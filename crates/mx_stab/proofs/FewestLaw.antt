-- No fewer bytes tell a value or a serial number than those that are written.
use Rattle.std.proofs.Common.{◌≡◌, ℕ, ◌+◌, ◌-◌, ◌%◌, ◌^◌, ◌<◌, ◌≤◌, Bool, true, cond, List, [], ◌∷◌, ◌++◌, length, arith, length-append, rules}
use Rattle.std.specs.Cmp.Derive.{both_true}
use Rattle.mx_stab.proofs.Words.{le-leb, lt-ltb, octa_to_bytes, Value, AreBelow, SpellsValue, SpellsSerial, is_offset, octa_digits, value_bytes, serial_bytes, nat_tests}
use Rattle.mx_stab.specs.Grammar as grammar
use Rattle.mx_stab.proofs.Digits.{number-power, number-below, fewest-least, fewest-last}
use Rattle.mx_stab.proofs.Spelt.{octa-number, serial-front, serial-number}

-- an octa that n bytes tell is written in no more
octa-least : (x n : ℕ) → x < 2 ^ 64 → 1 ≤ n → x < 256 ^ n → length (octa_digits x) ≤ n
octa-least x n l some h = fewest-least 256 (octa_to_bytes x) n (omega arith) some (omega (arith, octa-number x l, h))

value-least : (b : Bool) (x n : ℕ) → x < 2 ^ 64 → 1 ≤ n → x < 256 ^ n → length (cond b (octa_digits (x - 2 ^ 61)) (octa_digits x)) ≤ n
value-least b x n h1 h2 h3 = search (rules, octa-least)

offset-least : (b : Bool) (y n : ℕ) → b ≡ true → y < 2 ^ 48 → 1 ≤ n → y < 256 ^ n → length (cond b (octa_digits (2 ^ 61 + y - 2 ^ 61)) (octa_digits (2 ^ 61 + y))) ≤ n
offset-least b y n h1 h2 h3 h4 = grind (arith, nat_tests, octa-least)

offset-is : (y : ℕ) → y < 2 ^ 48 → is_offset (2 ^ 61 + y) ≡ true
offset-is y l = both_true (le-leb (2 ^ 61) (2 ^ 61 + y) (omega arith)) (lt-ltb (2 ^ 61 + y) (2 ^ 61 + 2 ^ 48) (omega (arith, l)))

pub values-fewest : (kind : ℕ) (value : Value) (bytes : List ℕ) → SpellsValue kind value bytes → length (value_bytes value) ≤ length bytes
values-fewest _ _ _ (grammar.SpellsValue.pure bytes b least most) = search (rules, value-least, number-below, number-power)
values-fewest _ _ _ (grammar.SpellsValue.offset bytes b least most) = search (rules, number-below, offset-least, offset-is, number-power)
values-fewest _ _ _ (grammar.SpellsValue.register k l) = omega arith

digits-below : (front : List ℕ) (last : ℕ) → AreBelow 128 front → last < 128 → AreBelow 128 (front ++ last ∷ [])
digits-below [] last b l = (l, tt)
digits-below (d ∷ front) last b l = (b.0, digits-below front last b.1 l)

serial-least : (x n : ℕ) → 1 ≤ n → x < 128 ^ n → length (serial_bytes x) ≤ n
serial-least x n some h =
    omega (arith, fewest-last (serial-front x) (x % 128 + 128) (x % 128), fewest-least 128 (serial-front x ++ (x % 128) ∷ []) n (omega arith) some (omega (arith, serial-number x, h)))

pub serials-fewest : (serial : ℕ) (bytes : List ℕ) → SpellsSerial serial bytes → length (serial_bytes serial) ≤ length bytes
serials-fewest _ _ (grammar.SpellsSerial.digits front last b l fits) = search (rules, length-append, number-power, digits-below, serial-least)
