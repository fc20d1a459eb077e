-- Worked rows: texts of RFC 8259, section 7, and of its grammar.
use Rattle.std.proofs.Common.{◌≡◌, [], ◌∷◌, ◌++◌, true, false, codes, refl}
use Rattle.std.specs.List.{flat_map}
use Rattle.mx_json.specs.Json.{array, escaped, flag, hex_of}
use Rattle.mx_text.specs.Numbers.{hex_digits}

quotes : flat_map escaped (codes "a\"b\\c/") ≡ codes "a\\\"b\\\\c/"
quotes = refl

controls : flat_map escaped (0 ∷ 8 ∷ 9 ∷ 10 ∷ 11 ∷ 12 ∷ 13 ∷ 31 ∷ 127 ∷ []) ≡ codes "\\u0000\\b\\t\\n\\u000b\\f\\r\\u001f" ++ 127 ∷ []
unfolding hex_digits
controls = refl

empty : array flag [] ≡ codes "[]"
unfolding flag
empty = refl

several : array flag (true ∷ false ∷ true ∷ []) ≡ codes "[true,false,true]"
unfolding flag
several = refl

digits : hex_of (77 ∷ 255 ∷ []) ≡ codes "4dff"
unfolding hex_digits
digits = refl
