-- Under a text that is UTF-8 there are as many bytes as it has characters.
use Rattle.std.proofs.Common.{◌≡◌, ℕ, ◌+◌, ◌-◌, ◌/◌, ◌<◌, ◌≤◌, List, [], ◌∷◌, ◌++◌, length, take, true, false, cond, nat_lt, arith, refl, sym, ap, ◌∙◌}
unfoldable use Rattle.std.specs.Char.{encode_utf8}
use Rattle.std.specs.Str.{all_scalars, continuation_len, encode_utf8_all, is_utf8}
use Rattle.std.proofs.lemmas.Bool.{and_parts, cond_both}
use Rattle.std.proofs.lemmas.Bool.Decides.{nat_tests}
use Rattle.std.proofs.lemmas.List.{take_at, drop_at}
use Rattle.std.proofs.lemmas.Str.{IsUtf8-encode, is_utf8-from_IsUtf8}
use Rattle.mx_marks.specs.Under.{under, under_text}
unfoldable use Rattle.mx_marks.specs.Under.{char_length, under_after}
use Rattle.mx_marks.proofs.UnderTurns.{after-is}

-- ---- the first byte of a character

len-none : (b : ℕ) → b < 128 → continuation_len b ≡ 0
len-none b e = grind (arith, nat_tests)

len-one : (b : ℕ) → 128 ≤ b → b < 224 → continuation_len b ≡ 1
len-one b e f = grind (arith, nat_tests)

len-two : (b : ℕ) → 224 ≤ b → b < 240 → continuation_len b ≡ 2
len-two b e f = grind (arith, nat_tests)

len-three : (b : ℕ) → 240 ≤ b → continuation_len b ≡ 3
len-three b e = grind (arith, nat_tests)

-- it announces how many others there are
record Announces (bytes : List ℕ) : Type 0 where
  first : ℕ
  others : List ℕ
  are : bytes ≡ first ∷ others
  count : continuation_len first ≡ length others

below : (a b : ℕ) → nat_lt a b ≡ true → a < b
below a b e = grind (arith, nat_tests)

above : (a b : ℕ) → nat_lt a b ≡ false → b ≤ a
above a b e = grind (arith, nat_tests)

encoded : (c : ℕ) → Announces (encode_utf8 c)
unfolding encode_utf8
encoded c =
    cond_both (nat_lt c 128) _ _ Announces
    (λ e. record { first = c; others = []; are = refl; count = len-none c (below c 128 e) })
    (λ e. cond_both (nat_lt c 2048) _ _ Announces
    (λ f. let l = below c 2048 f in record { first = 192 + c / 64; others = _; are = refl; count = len-one (192 + c / 64) (omega arith) (omega (arith, l)) })
    (λ f. cond_both (nat_lt c 65536) _ _ Announces
    (λ g. let l = below c 65536 g in record { first = 224 + c / 4096; others = _; are = refl; count = len-two (224 + c / 4096) (omega arith) (omega (arith, l)) })
    (λ g. record { first = 240 + c / 262144; others = _; are = refl; count = len-three (240 + c / 262144) (omega arith) })))

-- ---- characters one after another

first-is : (b : ℕ) (bs rest : List ℕ) → continuation_len b ≡ length bs → is_utf8 (b ∷ bs) ≡ true → char_length (b ∷ (bs ++ rest)) ≡ length bs + 1
unfolding char_length
first-is b bs rest count valid =
    let front : take (continuation_len b + 1) ((b ∷ bs) ++ rest) ≡ b ∷ bs = take_at (b ∷ bs) rest (continuation_len b + 1) (omega (arith, count)) in
    (λ i. cond (is_utf8 (front i)) (continuation_len b + 1) 1) ∙ ap (λ t. cond t (continuation_len b + 1) 1) valid ∙ ap (λ n. n + 1) count

one-under : (b : ℕ) (bs rest : List ℕ) → continuation_len b ≡ length bs → is_utf8 (b ∷ bs) ≡ true → under_text (b ∷ (bs ++ rest)) ≡ under b ∷ under_text rest
unfolding under_after
one-under b bs rest count valid =
    let whole = first-is b bs rest count valid in
    let left : length bs ≡ char_length (b ∷ (bs ++ rest)) - 1 = omega (arith, whole) in
    ap (λ more. under b ∷ more) (after-is (char_length (b ∷ (bs ++ rest)) - 1) (bs ++ rest))
    ∙ ap (λ text. under b ∷ under_text text) (drop_at bs rest (char_length (b ∷ (bs ++ rest)) - 1) left)

char-under : (bytes rest : List ℕ) (a : Announces bytes) → is_utf8 bytes ≡ true → under_text (bytes ++ rest) ≡ under a.first ∷ under_text rest
char-under bytes rest a valid =
    ap (λ l. under_text (l ++ rest)) a.are ∙ one-under a.first a.others rest a.count (ap is_utf8 (sym a.are) ∙ valid)

pub chars-under : (cs : List ℕ) → all_scalars cs ≡ true → length (under_text (encode_utf8_all cs)) ≡ length cs
unfolding under_after
chars-under [] h = refl
chars-under (c ∷ cs) h =
    let parts = and_parts _ _ h in
    let text = encode_utf8 c in
    let one = ap length (char-under text (encode_utf8_all cs) (encoded c) (is_utf8-from_IsUtf8 text (IsUtf8-encode c parts.0))) in
    let rest = chars-under cs parts.1 in
    omega (arith, one, rest)

pub ruleset characters = (chars-under)
