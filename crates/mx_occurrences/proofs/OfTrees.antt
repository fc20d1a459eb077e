-- The names of a field are those of its trees.
use Rattle.std.proofs.Common.{◌≡◌, ◌≤◌, ◌<◌, ℕ, zero, suc, ◌+◌, ◌-◌, ◌==◌, ◌&&◌, ◌||◌, Bool, true, false, true≢false, not, cond, if◌then◌else◌, nat_le, nat_lt, List, [], ◌∷◌, ◌++◌, length, map, take, drop, Option, None, Some, refl, ap, sym, ◌∙◌, arith, append-nil, append_assoc, length-append, lt-ltb, leb-true, eqb-true}
use Rattle.std.specs.List.{flat_map, list_all, position, position_or_len}
use Rattle.std.proofs.lemmas.Bool.{and_from, and_parts}
use Rattle.std.proofs.lemmas.Bool.Decides.{nat_tests}
use Rattle.std.proofs.lemmas.List.Sums.{take_while-cons}
use Rattle.mx_word.specs.Kinds.{is_digit, is_hexadecimal, is_letter, is_name_byte}
use Rattle.mx_line.specs.Bytes.{run}
use Rattle.mx_expr.specs.Bytes.{digit_value, is_no_quote}
use Rattle.mx_expr.specs.Spelling.{Constant, Operand, Operands, Primary, Product, Sign, Spells, StrongOperator, Sum, WeakOperator}
use Rattle.mx_expr.specs.Spelling.Constant.{decimal as a_decimal, hexadecimal as a_hexadecimal}
use Rattle.mx_expr.specs.Spelling.Sign.{plus as by_plus, minus as by_minus, not as by_not, register as by_register}
use Rattle.mx_expr.specs.Spelling.StrongOperator.{mul as by_mul, div as by_div, fraction as by_fraction, rem as by_rem, left as by_left, right as by_right, and as by_and}
use Rattle.mx_expr.specs.Spelling.WeakOperator.{add as by_add, sub as by_sub, or as by_or, xor as by_xor}
use Rattle.mx_expr.specs.Spelling.Primary.{constant as a_constant, character as a_character, symbol as a_symbol, last_label as a_last_label, next_label as a_next_label, place as a_place, enclosed as an_enclosed, signed as a_signed}
use Rattle.mx_expr.specs.Spelling.Product.{primary as one_primary, times as more_primaries}
use Rattle.mx_expr.specs.Spelling.Sum.{product as one_product, plus as more_products}
use Rattle.mx_expr.specs.Spelling.Operand.{expression as an_expression, string as a_string}
use Rattle.mx_expr.specs.Spelling.Operands.{none as no_operands, more as more_operands}
use Rattle.mx_expr.specs.Spelling.Spells.{empty as no_field, operands as some_operands}
use Rattle.mx_expr.specs.declared.tree.UnOp.{UnOp}
use Rattle.mx_expr.specs.declared.tree.BinOp.{BinOp}
use Rattle.mx_expr.specs.Tree.{Tree, number, back, ahead}
use Rattle.mx_slips.specs.Tokens.{string_length, token_at, token_length, tokens_after, tokens_of}
use Rattle.mx_slips.specs.declared.tokens.Token.{Token}
use Rattle.mx_occurrences.specs.Fields.{AreThoseOfTrees, field_names, names_in, texts_of}
use Rattle.mx_occurrences.specs.Occurrences.{in_token, token_if, token_named}
use Rattle.mx_occurrences.specs.declared.course.Course.{Course}
use Rattle.mx_occurrences.specs.declared.occurrence.Named.{Named}
use Rattle.mx_occurrences.specs.declared.occurrence.Occurrence.{Occurrence}

-- ---- one token

-- a token is a name, or not
abbrev picked : List ℕ → Option Named → List (List ℕ)
picked text None = []
picked text (Some named) = text ∷ []

-- what stops a run of a kind
abbrev stops : (ℕ → Bool) → List ℕ → Bool
stops kind [] = true
stops kind (b ∷ bs) = not (kind b)

-- the rest of a text after a word begins with no letter or digit
abbrev is_apart : List ℕ → Bool
is_apart text = stops is_name_byte text

texts-if : (line : ℕ) (t : Token) (n : Option Named) → texts_of (token_if line t n) ≡ picked t.text n
texts-if line t None = refl
texts-if line t (Some named) = refl

texts-join : (xs ys : List Occurrence) → texts_of (xs ++ ys) ≡ texts_of xs ++ texts_of ys
texts-join [] ys = refl
texts-join (x ∷ xs) ys = ap (λ more. x.text ∷ more) (texts-join xs ys)

after-is : (n end : ℕ) (text : List ℕ) → tokens_after n end text ≡ tokens_of end (drop n text)
unfolding tokens_after
after-is zero end [] = refl
after-is zero end (b ∷ bs) = refl
after-is (suc n) end [] = refl
after-is (suc n) end (b ∷ bs) = after-is n end bs

take-front : (xs rest : List ℕ) → take (length xs) (xs ++ rest) ≡ xs
take-front [] rest = refl
take-front (a ∷ xs) rest = ap (λ more. a ∷ more) (take-front xs rest)

drop-front : (xs rest : List ℕ) → drop (length xs) (xs ++ rest) ≡ rest
drop-front [] rest = refl
drop-front (a ∷ xs) rest = drop-front xs rest

first-is : (before c : Course) (line end : ℕ) (b : ℕ) (bs : List ℕ) →
    field_names before c line end (b ∷ bs)
    ≡ picked (take (token_length (b ∷ bs)) (b ∷ bs)) (token_named before c (take (token_length (b ∷ bs)) (b ∷ bs)))
    ++ field_names before c line end (drop (token_length (b ∷ bs) - 1) bs)
unfolding tokens_after
first-is before c line end b bs =
    let t = token_at end (b ∷ bs) in
    let later = tokens_after (token_length (b ∷ bs) - 1) end bs in
    texts-join (in_token before c line t) (flat_map (in_token before c line) later)
    ∙ ap (λ one. one ++ texts_of (flat_map (in_token before c line) later)) (texts-if line t (token_named before c t.text))
    ∙ ap (λ more. picked t.text (token_named before c t.text) ++ texts_of (flat_map (in_token before c line) more)) (after-is (token_length (b ∷ bs) - 1) end bs)

-- a word at the front of a text
word-is : (before c : Course) (line end : ℕ) (b : ℕ) (bs rest : List ℕ) → token_length (b ∷ (bs ++ rest)) ≡ suc (length bs) →
    field_names before c line end (b ∷ (bs ++ rest)) ≡ picked (b ∷ bs) (token_named before c (b ∷ bs)) ++ field_names before c line end rest
word-is before c line end b bs rest e =
    let word : take (token_length (b ∷ (bs ++ rest))) (b ∷ (bs ++ rest)) ≡ b ∷ bs =
    ap (λ n. take n (b ∷ (bs ++ rest))) e ∙ ap (λ more. b ∷ more) (take-front bs rest) in
    let less : suc (length bs) - 1 ≡ length bs = omega arith in
    let left : drop (token_length (b ∷ (bs ++ rest)) - 1) (bs ++ rest) ≡ rest =
    ap (λ n. drop (n - 1) (bs ++ rest)) e ∙ ap (λ n. drop n (bs ++ rest)) less ∙ drop-front bs rest in
    first-is before c line end b (bs ++ rest)
    ∙ ap (λ w. picked w (token_named before c w) ++ field_names before c line end (drop (token_length (b ∷ (bs ++ rest)) - 1) (bs ++ rest))) word
    ∙ ap (λ more. picked (b ∷ bs) (token_named before c (b ∷ bs)) ++ field_names before c line end more) left

-- ---- the lengths of tokens

not-so : (b : Bool) → not b ≡ true → b ≡ false
not-so true e = sym e
not-so false e = refl

neither : (x y : Bool) → (x || y) ≡ false → (x ≡ false) × (y ≡ false)
neither true y e = absurd (true≢false e)
neither false y e = (refl, e)

-- another byte than one of a name
no-byte : (n b : ℕ) → is_name_byte b ≡ true → is_name_byte n ≡ false → (b == n) ≡ false
no-byte n b is other = by (b == n) refl
  where
    by : (t : Bool) → (b == n) ≡ t → t ≡ false
    by true e = absurd (true≢false (sym is ∙ ap is_name_byte (eqb-true b n e) ∙ other))
    by false e = refl

narrower : (n m k b : ℕ) → k ≤ m → (nat_le n b && nat_le b m) ≡ false → (nat_le n b && nat_le b k) ≡ false
narrower n m k b le e = grind (arith, nat_tests, le, e)

no-hexadecimal : (b : ℕ) → is_letter b ≡ false → is_digit b ≡ false → is_hexadecimal b ≡ false
no-hexadecimal b letter digit =
    let capital = nat_le 65 b && nat_le b 90 in
    let small = nat_le 97 b && nat_le b 122 in
    let four = neither (capital || small || b == 58 || b == 95) (nat_lt 126 b) letter in
    let three = neither (capital || small || b == 58) (b == 95) four.0 in
    let two = neither (capital || small) (b == 58) three.0 in
    let one = neither capital small two.0 in
    rw (digit, narrower 97 122 102 b (omega arith) one.1, narrower 65 90 70 b (omega arith) one.0) refl

run-stopped : (kind : ℕ → Bool) (b : ℕ) (bs : List ℕ) → not (kind b) ≡ true → run kind (b ∷ bs) ≡ []
run-stopped kind b bs e = let no : kind b ≡ false = not-so (kind b) e in take_while-cons kind b bs ∙ rw no refl

run-of : (kind : ℕ → Bool) (xs rest : List ℕ) → list_all kind xs ≡ true → stops kind rest ≡ true → run kind (xs ++ rest) ≡ xs
run-of kind [] [] all s = refl
run-of kind [] (b ∷ rest) all s = run-stopped kind b rest s
run-of kind (x ∷ xs) rest all s =
    let p = and_parts (kind x) (list_all kind xs) all in
    take_while-cons kind x (xs ++ rest) ∙ rw (p.0, run-of kind xs rest p.1 s) refl

apart-digits : (rest : List ℕ) → is_apart rest ≡ true → stops is_hexadecimal rest ≡ true
apart-digits [] e = refl
apart-digits (b ∷ bs) e =
    let kinds = neither (is_letter b) (is_digit b) (not-so (is_name_byte b) e) in
    ap not (no-hexadecimal b kinds.0 kinds.1)

-- which of the kinds of tokens begins with a byte
choice : (s c h n : Bool) (x y z w : ℕ) → s ≡ false → c ≡ false → h ≡ false →
    (if s then x else if c then y else if h then z else if n then w else 1) ≡ (if n then w else 1)
choice s c h n x y z w d e f = rw (d, e, f) refl

other-length : (b : ℕ) (bs : List ℕ) → (b == 34) ≡ false → (b == 39) ≡ false → (b == 35) ≡ false →
    token_length (b ∷ bs) ≡ (if is_name_byte b then length (run is_name_byte (b ∷ bs)) else 1)
unfolding token_length
other-length b bs no-string no-character no-hash =
    choice (b == 34) (b == 39) (b == 35) (is_name_byte b) (string_length bs (position (λ c. c == 34) bs)) 3 (length (run is_hexadecimal bs) + 1) (length (run is_name_byte (b ∷ bs)))
    no-string no-character no-hash

name-length : (b : ℕ) (bs rest : List ℕ) → is_name_byte b ≡ true → list_all is_name_byte bs ≡ true → is_apart rest ≡ true →
    token_length (b ∷ (bs ++ rest)) ≡ suc (length bs)
name-length b bs rest is all apart =
    let word : run is_name_byte (b ∷ (bs ++ rest)) ≡ b ∷ bs =
    run-of is_name_byte (b ∷ bs) rest (and_from (is_name_byte b) (list_all is_name_byte bs) is all) apart in
    other-length b (bs ++ rest) (no-byte 34 b is refl) (no-byte 39 b is refl) (no-byte 35 b is refl)
    ∙ ap (λ t. if t then length (run is_name_byte (b ∷ (bs ++ rest))) else 1) is ∙ ap length word

hash-length : (bs rest : List ℕ) → list_all is_hexadecimal bs ≡ true → is_apart rest ≡ true → token_length (35 ∷ (bs ++ rest)) ≡ suc (length bs)
unfolding token_length
hash-length bs rest all apart =
    ap (λ digits. length digits + 1) (run-of is_hexadecimal bs rest all (apart-digits rest apart)) ∙ omega arith

-- a byte that is a token alone
abbrev is_lone : ℕ → Bool
is_lone b = not (b == 34) && not (b == 39) && not (b == 35) && not (is_name_byte b)

pub record Lone (b : ℕ) : Type 0 where
  pub no-string : (b == 34) ≡ false
  pub no-character : (b == 39) ≡ false
  pub no-hash : (b == 35) ≡ false
  pub no-name : is_name_byte b ≡ false

lone-parts : (b : ℕ) → is_lone b ≡ true → Lone b
lone-parts b is =
    let three = and_parts (not (b == 34) && not (b == 39) && not (b == 35)) (not (is_name_byte b)) is in
    let two = and_parts (not (b == 34) && not (b == 39)) (not (b == 35)) three.0 in
    let one = and_parts (not (b == 34)) (not (b == 39)) two.0 in
    record { no-string = not-so (b == 34) one.0; no-character = not-so (b == 39) one.1; no-hash = not-so (b == 35) two.1; no-name = not-so (is_name_byte b) three.1 }

lone-length : (b : ℕ) (rest : List ℕ) → is_lone b ≡ true → token_length (b ∷ rest) ≡ 1
lone-length b rest is =
    let l = lone-parts b is in
    other-length b rest l.no-string l.no-character l.no-hash ∙ ap (λ t. if t then length (run is_name_byte (b ∷ rest)) else 1) l.no-name

character-length : (b : ℕ) (rest : List ℕ) → token_length (39 ∷ b ∷ 39 ∷ rest) ≡ 3
unfolding token_length
character-length b rest = refl

quote-prefix : (bs rest : List ℕ) → list_all is_no_quote bs ≡ true → position_or_len (λ c. c == 34) (bs ++ 34 ∷ rest) ≡ length bs
quote-prefix [] rest e = refl
quote-prefix (b ∷ bs) rest e =
    let parts = and_parts (is_no_quote b) (list_all is_no_quote bs) e in
    let more : 1 + length bs ≡ suc (length bs) = omega arith in
    ap (λ t. cond t (1 + position_or_len (λ c. c == 34) (bs ++ 34 ∷ rest)) 0) parts.0 ∙ ap (λ n. 1 + n) (quote-prefix bs rest parts.1) ∙ more

length-longer : (bs rest : List ℕ) → length (bs ++ 34 ∷ rest) ≡ length bs + suc (length rest)
length-longer bs rest = length-append bs (34 ∷ rest)

string-length : (bs rest : List ℕ) → list_all is_no_quote bs ≡ true → token_length (34 ∷ ((bs ++ 34 ∷ []) ++ rest)) ≡ suc (length (bs ++ 34 ∷ []))
unfolding token_length
string-length bs rest all =
    let joined : (bs ++ 34 ∷ []) ++ rest ≡ bs ++ 34 ∷ rest = append_assoc bs (34 ∷ []) rest in
    let there : position_or_len (λ c. c == 34) (bs ++ 34 ∷ rest) ≡ length bs = quote-prefix bs rest all in
    let inside : length bs < length (bs ++ 34 ∷ rest) = omega (arith, length-longer bs rest) in
    let less : nat_lt (length bs) (length (bs ++ 34 ∷ rest)) ≡ true = lt-ltb (length bs) (length (bs ++ 34 ∷ rest)) inside in
    let found : position (λ c. c == 34) (bs ++ 34 ∷ rest) ≡ Some (length bs) = rw (there, less) refl in
    let whole : length bs + 2 ≡ suc (length (bs ++ 34 ∷ [])) = omega (arith, length-longer bs []) in
    ap (λ text. string_length text (position (λ c. c == 34) text)) joined ∙ ap (string_length (bs ++ 34 ∷ rest)) found ∙ whole

-- ---- what tokens are names

lone-none : (before c : Course) (b : ℕ) → is_lone b ≡ true → token_named before c (b ∷ []) ≡ None
lone-none before c b is =
    let l = lone-parts b is in
    let kinds = neither (is_letter b) (is_digit b) l.no-name in
    rw (kinds.1, kinds.0) refl

digits-none : (before c : Course) (b : ℕ) (bs : List ℕ) → is_digit b ≡ true → list_all is_digit bs ≡ true → token_named before c (b ∷ bs) ≡ None
digits-none before c b [] is all = rw is refl
digits-none before c b (d ∷ []) is all =
    let digit : is_digit d ≡ true = (and_parts (is_digit d) true all).0 in
    let no-back : (d == 66) ≡ false = grind (arith, nat_tests, digit) in
    let no-ahead : (d == 70) ≡ false = grind (arith, nat_tests, digit) in
    rw (is, no-back, no-ahead) refl
digits-none before c b (d ∷ e ∷ more) is all = rw is refl

letter-some : (before c : Course) (b : ℕ) (bs : List ℕ) → is_letter b ≡ true → picked (b ∷ bs) (token_named before c (b ∷ bs)) ≡ (b ∷ bs) ∷ []
letter-some before c b bs is =
    let no-digit : is_digit b ≡ false = grind (arith, nat_tests, is) in
    rw (no-digit, is) refl

either : (x y : Bool) → y ≡ true → (x || y) ≡ true
either true y e = refl
either false y e = e

letter-name : (b : ℕ) → is_letter b ≡ true → is_name_byte b ≡ true
letter-name b is = ap (λ t. t || is_digit b) is

digit-name : (b : ℕ) → is_digit b ≡ true → is_name_byte b ≡ true
digit-name b is = either (is_letter b) (is_digit b) is

digits-names : (bs : List ℕ) → list_all is_digit bs ≡ true → list_all is_name_byte bs ≡ true
digits-names [] all = refl
digits-names (b ∷ bs) all =
    let parts = and_parts (is_digit b) (list_all is_digit bs) all in
    and_from (is_name_byte b) (list_all is_name_byte bs) (digit-name b parts.0) (digits-names bs parts.1)

label-digit : (b : ℕ) → is_digit b ≡ true → 48 + digit_value b ≡ b
label-digit b is =
    let value : digit_value b ≡ b - 48 = rw is refl in
    let least : 48 ≤ b = leb-true 48 b (and_parts (nat_le 48 b) (nat_le b 57) is).0 in
    omega (arith, value, least)

back-some : (before c : Course) (b : ℕ) → is_digit b ≡ true → picked (b ∷ 66 ∷ []) (token_named before c (b ∷ 66 ∷ [])) ≡ names_in (back (digit_value b))
back-some before c b is =
    let named : picked (b ∷ 66 ∷ []) (token_named before c (b ∷ 66 ∷ [])) ≡ (b ∷ 66 ∷ []) ∷ [] = rw is refl in
    named ∙ ap (λ d. (d ∷ 66 ∷ []) ∷ []) (sym (label-digit b is))

ahead-some : (before c : Course) (b : ℕ) → is_digit b ≡ true → picked (b ∷ 70 ∷ []) (token_named before c (b ∷ 70 ∷ [])) ≡ names_in (ahead (digit_value b))
ahead-some before c b is =
    let named : picked (b ∷ 70 ∷ []) (token_named before c (b ∷ 70 ∷ [])) ≡ (b ∷ 70 ∷ []) ∷ [] = rw is refl in
    named ∙ ap (λ d. (d ∷ 70 ∷ []) ∷ []) (sym (label-digit b is))

-- ---- words of a field

lone-is : (before c : Course) (line end : ℕ) (b : ℕ) (rest : List ℕ) → is_lone b ≡ true →
    field_names before c line end (b ∷ rest) ≡ field_names before c line end rest
lone-is before c line end b rest is =
    word-is before c line end b [] rest (lone-length b rest is)
    ∙ ap (λ named. picked (b ∷ []) named ++ field_names before c line end rest) (lone-none before c b is)

sign-lone : {b : ℕ} {op : UnOp} → Sign b op → is_lone b ≡ true
sign-lone by_plus = refl
sign-lone by_minus = refl
sign-lone by_not = refl
sign-lone by_register = refl

weak-lone : {b : ℕ} {op : BinOp} → WeakOperator b op → is_lone b ≡ true
weak-lone by_add = refl
weak-lone by_sub = refl
weak-lone by_or = refl
weak-lone by_xor = refl

lone-apart : (b : ℕ) (rest : List ℕ) → is_lone b ≡ true → is_apart (b ∷ rest) ≡ true
lone-apart b rest is = (and_parts (not (b == 34) && not (b == 39) && not (b == 35)) (not (is_name_byte b)) is).1

strong-apart : {word : List ℕ} {op : BinOp} → StrongOperator word op → (rest : List ℕ) → is_apart (word ++ rest) ≡ true
strong-apart by_mul rest = refl
strong-apart by_div rest = refl
strong-apart by_fraction rest = refl
strong-apart by_rem rest = refl
strong-apart by_left rest = refl
strong-apart by_right rest = refl
strong-apart by_and rest = refl

strong-is : {word : List ℕ} {op : BinOp} → StrongOperator word op → (before c : Course) (line end : ℕ) (rest : List ℕ) →
    field_names before c line end (word ++ rest) ≡ field_names before c line end rest
strong-is by_mul before c line end rest = lone-is before c line end 42 rest refl
strong-is by_div before c line end rest = lone-is before c line end 47 rest refl
strong-is by_fraction before c line end rest = lone-is before c line end 47 (47 ∷ rest) refl ∙ lone-is before c line end 47 rest refl
strong-is by_rem before c line end rest = lone-is before c line end 37 rest refl
strong-is by_left before c line end rest = lone-is before c line end 60 (60 ∷ rest) refl ∙ lone-is before c line end 60 rest refl
strong-is by_right before c line end rest = lone-is before c line end 62 (62 ∷ rest) refl ∙ lone-is before c line end 62 rest refl
strong-is by_and before c line end rest = lone-is before c line end 38 rest refl

digits-are : (before c : Course) (line end : ℕ) (digits rest : List ℕ) → 0 < length digits → list_all is_digit digits ≡ true → is_apart rest ≡ true →
    field_names before c line end (digits ++ rest) ≡ field_names before c line end rest
digits-are before c line end [] rest most all apart = absurd (omega (arith, most))
digits-are before c line end (b ∷ bs) rest most all apart =
    let parts = and_parts (is_digit b) (list_all is_digit bs) all in
    word-is before c line end b bs rest (name-length b bs rest (digit-name b parts.0) (digits-names bs parts.1) apart)
    ∙ ap (λ named. picked (b ∷ bs) named ++ field_names before c line end rest) (digits-none before c b bs parts.0 parts.1)

constant-is : {text : List ℕ} {n : ℕ} → Constant text n → (before c : Course) (line end : ℕ) (rest : List ℕ) → is_apart rest ≡ true →
    field_names before c line end (text ++ rest) ≡ field_names before c line end rest
constant-is (a_decimal digits most all) before c line end rest apart = digits-are before c line end digits rest most all apart
constant-is (a_hexadecimal digits most all) before c line end rest apart =
    word-is before c line end 35 digits rest (hash-length digits rest all apart)

-- ---- expressions

mutual
  primary-is : {text : List ℕ} {e : Tree} → Primary text e → (before c : Course) (line end : ℕ) (rest : List ℕ) → is_apart rest ≡ true →
      field_names before c line end (text ++ rest) ≡ names_in e ++ field_names before c line end rest
  primary-is (a_constant text n h) before c line end rest apart = constant-is h before c line end rest apart
  primary-is (a_character b) before c line end rest apart = word-is before c line end 39 (b ∷ 39 ∷ []) rest (character-length b rest)
  primary-is (a_symbol b bs is all) before c line end rest apart =
      word-is before c line end b bs rest (name-length b bs rest (letter-name b is) all apart)
      ∙ ap (λ names. names ++ field_names before c line end rest) (letter-some before c b bs is)
  primary-is (a_last_label b is) before c line end rest apart =
      word-is before c line end b (66 ∷ []) rest (name-length b (66 ∷ []) rest (digit-name b is) refl apart)
      ∙ ap (λ names. names ++ field_names before c line end rest) (back-some before c b is)
  primary-is (a_next_label b is) before c line end rest apart =
      word-is before c line end b (70 ∷ []) rest (name-length b (70 ∷ []) rest (digit-name b is) refl apart)
      ∙ ap (λ names. names ++ field_names before c line end rest) (ahead-some before c b is)
  primary-is a_place before c line end rest apart = lone-is before c line end 64 rest refl
  primary-is (an_enclosed inner f h) before c line end rest apart =
      lone-is before c line end 40 ((inner ++ 41 ∷ []) ++ rest) refl
      ∙ ap (field_names before c line end) (append_assoc inner (41 ∷ []) rest)
      ∙ sum-is h before c line end (41 ∷ rest) refl
      ∙ ap (λ after. names_in f ++ after) (lone-is before c line end 41 rest refl)
  primary-is (a_signed b op inner f g h) before c line end rest apart =
      lone-is before c line end b (inner ++ rest) (sign-lone g) ∙ primary-is h before c line end rest apart

  product-is : {text : List ℕ} {e : Tree} → Product text e → (before c : Course) (line end : ℕ) (rest : List ℕ) → is_apart rest ≡ true →
      field_names before c line end (text ++ rest) ≡ names_in e ++ field_names before c line end rest
  product-is (one_primary text e h) before c line end rest apart = primary-is h before c line end rest apart
  product-is (more_primaries text word part op l r h w g) before c line end rest apart =
      ap (field_names before c line end) (append_assoc text (word ++ part) rest ∙ ap (λ after. text ++ after) (append_assoc word part rest))
      ∙ product-is h before c line end (word ++ (part ++ rest)) (strong-apart w (part ++ rest))
      ∙ ap (λ after. names_in l ++ after) (strong-is w before c line end (part ++ rest) ∙ primary-is g before c line end rest apart)
      ∙ sym (append_assoc (names_in l) (names_in r) (field_names before c line end rest))

  sum-is : {text : List ℕ} {e : Tree} → Sum text e → (before c : Course) (line end : ℕ) (rest : List ℕ) → is_apart rest ≡ true →
      field_names before c line end (text ++ rest) ≡ names_in e ++ field_names before c line end rest
  sum-is (one_product text e h) before c line end rest apart = product-is h before c line end rest apart
  sum-is (more_products text b part op l r h w g) before c line end rest apart =
      ap (field_names before c line end) (append_assoc text (b ∷ part) rest)
      ∙ sum-is h before c line end (b ∷ (part ++ rest)) (lone-apart b (part ++ rest) (weak-lone w))
      ∙ ap (λ after. names_in l ++ after) (lone-is before c line end b (part ++ rest) (weak-lone w) ∙ product-is g before c line end rest apart)
      ∙ sym (append_assoc (names_in l) (names_in r) (field_names before c line end rest))

-- ---- operands

no-numbers : (bytes : List ℕ) → flat_map names_in (map number bytes) ≡ []
no-numbers [] = refl
no-numbers (b ∷ bytes) = no-numbers bytes

names-join : (es fs : List Tree) → flat_map names_in (es ++ fs) ≡ flat_map names_in es ++ flat_map names_in fs
names-join [] fs = refl
names-join (e ∷ es) fs = ap (λ after. names_in e ++ after) (names-join es fs) ∙ sym (append_assoc (names_in e) (flat_map names_in es) (flat_map names_in fs))

operand-is : {text : List ℕ} {es : List Tree} → Operand text es → (before c : Course) (line end : ℕ) (rest : List ℕ) → is_apart rest ≡ true →
    field_names before c line end (text ++ rest) ≡ flat_map names_in es ++ field_names before c line end rest
operand-is (an_expression text e h) before c line end rest apart =
    sum-is h before c line end rest apart ∙ ap (λ names. names ++ field_names before c line end rest) (sym (append-nil (names_in e)))
operand-is (a_string bytes all) before c line end rest apart =
    word-is before c line end 34 (bytes ++ 34 ∷ []) rest (string-length bytes rest all)
    ∙ ap (λ names. names ++ field_names before c line end rest) (sym (no-numbers bytes))

operands-are : {text : List ℕ} {es : List Tree} → Operands text es → (before c : Course) (line end : ℕ) (rest : List ℕ) →
    field_names before c line end (text ++ rest) ≡ flat_map names_in es ++ field_names before c line end rest
operands-are no_operands before c line end rest = refl
operands-are (more_operands text part es fs h g) before c line end rest =
    ap (field_names before c line end) (append_assoc text (part ++ 44 ∷ []) rest ∙ ap (λ after. text ++ after) (append_assoc part (44 ∷ []) rest))
    ∙ operands-are h before c line end (part ++ 44 ∷ rest)
    ∙ ap (λ after. flat_map names_in es ++ after) (operand-is g before c line end (44 ∷ rest) refl ∙ ap (λ after. flat_map names_in fs ++ after) (lone-is before c line end 44 rest refl))
    ∙ sym (append_assoc (flat_map names_in es) (flat_map names_in fs) (field_names before c line end rest))
    ∙ ap (λ names. names ++ field_names before c line end rest) (sym (names-join es fs))

none-is : (before c : Course) (line end : ℕ) → field_names before c line end [] ≡ []
unfolding tokens_after
none-is before c line end = refl

spelled-names : {field : List ℕ} {list : List Tree} → Spells field list → (before c : Course) (line end : ℕ) →
    field_names before c line end field ≡ flat_map names_in list
spelled-names no_field before c line end = none-is before c line end
spelled-names (some_operands text part es fs h g) before c line end =
    operands-are h before c line end part
    ∙ ap (λ after. flat_map names_in es ++ after) (ap (field_names before c line end) (sym (append-nil part)) ∙ operand-is g before c line end [] refl
    ∙ ap (λ last. flat_map names_in fs ++ last) (none-is before c line end) ∙ append-nil (flat_map names_in fs))
    ∙ sym (names-join es fs)

pub names-of-trees : (before c : Course) (line end : ℕ) (field : List ℕ) (list : List Tree) → AreThoseOfTrees before c line end field list
names-of-trees before c line end field list h = spelled-names h before c line end
