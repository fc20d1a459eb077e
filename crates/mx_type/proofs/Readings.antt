-- What the text of an item tells of it: the item is read from its line.
use Rattle.std.proofs.Common.{◌≡◌, ℕ, zero, suc, ◌<◌, ◌≤◌, ◌^◌, ◌⊎◌, inl, inr, Bool, true, false, not, cond, eqb, nat_le, List, [], ◌∷◌, ◌++◌, Option, Some, None, IfSome, refl, ap, ◌∙◌, arith, append_assoc, length, length-append, get_or, take, drop, codes, decimal}
use Rattle.mx_type.proofs.Words.{AllByRecursion, flat_map, common_steps, AreBytes, Fits, IsName, Item, Load, Loc, Skip, FixOcta, FixNear, FixFar, File, Line, Spec, Pre, Post, Stab, hex_digits, hex_text, lacks, bytes_text, ended, next_octa, next_tetra, stab_line, item_text, name_text}
use Rattle.std.specs.Char.{digit_value}
use Rattle.std.specs.Str.Parse.{AllDigits, digits_value}
use Rattle.std.proofs.lemmas.Bool.{and_parts, eqb-true, not-true}
use Rattle.std.proofs.lemmas.Bool.Decides.{nat_tests}
use Rattle.std.proofs.lemmas.Fmt.{decimal_is_IsNumeral}
use Rattle.mx_text.proofs.HexValues.{all, hex-counted, hex-value}

-- the bytes before the first c, and those from there on
abbrev until : ℕ → List ℕ → List ℕ
until c [] = []
until c (b ∷ more) = cond (eqb b c) [] (b ∷ until c more)

abbrev following : ℕ → List ℕ → List ℕ
following c [] = []
following c (b ∷ more) = cond (eqb b c) (b ∷ more) (following c more)

abbrev BeginsWith : ℕ → List ℕ → Type 0
BeginsWith c [] = Unit {0}
BeginsWith c (b ∷ more) = b ≡ c

eqb-same : (b c : ℕ) → b ≡ c → eqb b c ≡ true
eqb-same b c is = grind (arith, nat_tests)

until-cut : (c : ℕ) (ds more : List ℕ) → lacks c ds ≡ true → BeginsWith c more → until c (ds ++ more) ≡ ds
until-cut c [] [] l b = refl
until-cut c [] (m ∷ more) l b = rw (eqb-same m c b) refl
until-cut c (d ∷ ds) more l b = rw (not-true (eqb d c) (and_parts (not (eqb d c)) (lacks c ds) l).0, until-cut c ds more (and_parts (not (eqb d c)) (lacks c ds) l).1 b) refl

after-cut : (c : ℕ) (ds more : List ℕ) → lacks c ds ≡ true → BeginsWith c more → following c (ds ++ more) ≡ more
after-cut c [] [] l b = refl
after-cut c [] (m ∷ more) l b = rw (eqb-same m c b) refl
after-cut c (d ∷ ds) more l b = rw (not-true (eqb d c) (and_parts (not (eqb d c)) (lacks c ds) l).0) (after-cut c ds more (and_parts (not (eqb d c)) (lacks c ds) l).1 b)

-- digits have no blank and no newline
lacks-both : (c : ℕ) (xs ys : List ℕ) → lacks c xs ≡ true → lacks c ys ≡ true → lacks c (xs ++ ys) ≡ true
lacks-both c [] ys lx ly = ly
lacks-both c (x ∷ xs) ys lx ly = rw ((and_parts (not (eqb x c)) (lacks c xs) lx).0, lacks-both c xs ys (and_parts (not (eqb x c)) (lacks c xs) lx).1 ly) refl

no-digit : (b c radix : ℕ) (t : Bool) → radix ≤ 16 → 16 ≤ digit_value c → digit_value b < radix → eqb b c ≡ t → not t ≡ true
no-digit b c radix true le ge lt is = absurd (omega (arith, le, ge, rw (eqb-true b c is) at lt))
no-digit b c radix false le ge lt is = refl

digits-lack : (c radix : ℕ) (ds : List ℕ) → radix ≤ 16 → 16 ≤ digit_value c → AllDigits radix ds → lacks c ds ≡ true
digits-lack c radix [] le ge are = refl
digits-lack c radix (d ∷ ds) le ge are = rw (no-digit d c radix _ le ge are.0 refl, digits-lack c radix ds le ge are.1) refl

decimal-lacks : (c n : ℕ) → 16 ≤ digit_value c → n < 2 ^ 64 → lacks c (decimal n) ≡ true
decimal-lacks c n ge lt = digits-lack c 10 (decimal n) (omega arith) ge (decimal_is_IsNumeral n lt).0.1

hex-lacks : (c k x : ℕ) → 16 ≤ digit_value c → lacks c (hex_digits k x) ≡ true
hex-lacks c k x ge = digits-lack c 16 (hex_digits k x) (omega arith) ge (all k x)

decimal-read : (n : ℕ) → n < 2 ^ 64 → digits_value 10 (decimal n) ≡ n
decimal-read n lt = (decimal_is_IsNumeral n lt).1

-- fields of one width, read one after another, at most this many
abbrev fields : ℕ → (List ℕ → ℕ) → ℕ → List ℕ → List ℕ
fields w value zero text = []
fields w value (suc n) text = cond (nat_le w (length text)) (value (take w text) ∷ fields w value n (drop w text)) []

one-field : (w : ℕ) (value : List ℕ → ℕ) (n : ℕ) (front more : List ℕ) → length front ≡ w → fields w value (suc n) (front ++ more) ≡ value front ∷ fields w value n more
one-field w value n front more is = rw (enough, first, rest) refl
  where
    enough : nat_le w (length (front ++ more)) ≡ true
    enough = grind (arith, nat_tests, length-append front more)

    first : take w (front ++ more) ≡ front
    first = grind (arith, common_steps)

    rest : drop w (front ++ more) ≡ more
    rest = grind (arith, common_steps)

none-wide : (w : ℕ) → nat_le (suc w) 0 ≡ false
none-wide w = grind (arith, nat_tests)

fields-read : (f : ℕ → List ℕ) (P : ℕ → Type 0) (w : ℕ) (value : List ℕ → ℕ) → ((x : ℕ) → P x → value (f x) ≡ x) → ((x : ℕ) → length (f x) ≡ suc w) →
    (n : ℕ) (xs : List ℕ) → AllByRecursion P xs → length xs ≤ n → fields (suc w) value n (flat_map f xs) ≡ xs
fields-read f P w value reads long zero [] are le = refl
fields-read f P w value reads long (suc n) [] are le = rw (none-wide w) refl
fields-read f P w value reads long zero (x ∷ xs) are le = absurd (omega (arith, le))
fields-read f P w value reads long (suc n) (x ∷ xs) are le =
    one-field (suc w) value n (f x) (flat_map f xs) (long x)
    ∙ cc (reads x are.0, fields-read f P w value reads long n xs are.1 (omega (arith, le)))

few : (f : ℕ → List ℕ) (w : ℕ) → ((x : ℕ) → length (f x) ≡ suc w) → (xs : List ℕ) → length xs ≤ length (flat_map f xs)
few f w long [] = omega arith
few f w long (x ∷ xs) = omega (arith, length-append (f x) (flat_map f xs), long x, few f w long xs)

all-fields : (f : ℕ → List ℕ) (P : ℕ → Type 0) (w : ℕ) (value : List ℕ → ℕ) → ((x : ℕ) → P x → value (f x) ≡ x) → ((x : ℕ) → length (f x) ≡ suc w) →
    (xs : List ℕ) → AllByRecursion P xs → fields (suc w) value (length (flat_map f xs)) (flat_map f xs) ≡ xs
all-fields f P w value reads long xs are = fields-read f P w value reads long (length (flat_map f xs)) xs are (few f w long xs)

fields-lack : (c : ℕ) (f : ℕ → List ℕ) → ((x : ℕ) → lacks c (f x) ≡ true) → (xs : List ℕ) → lacks c (flat_map f xs) ≡ true
fields-lack c f each [] = refl
fields-lack c f each (x ∷ xs) = lacks-both c (f x) (flat_map f xs) (each x) (fields-lack c f each xs)

-- lists of tetras, of octas and of bytes
abbrev tetras_in : List ℕ → List ℕ
tetras_in text = fields 9 (λ t. digits_value 16 (drop 1 t)) (length text) text

abbrev octas_in : List ℕ → List ℕ
octas_in text = fields 18 (λ t. digits_value 16 (drop 2 t)) (length text) text

abbrev pub bytes_in : List ℕ → List ℕ
bytes_in text = fields 2 (digits_value 16) (length text) text

tetras-read : (xs : List ℕ) → AllByRecursion (λ x. x < 2 ^ 32) xs → tetras_in (flat_map next_tetra xs) ≡ xs
unfolding hex_digits
tetras-read xs are = all-fields next_tetra (λ x. x < 2 ^ 32) 8 (λ t. digits_value 16 (drop 1 t)) (λ x lt. hex-counted 8 x lt) (λ x. refl) xs are

octas-read : (xs : List ℕ) → AllByRecursion (λ x. x < 2 ^ 64) xs → octas_in (flat_map next_octa xs) ≡ xs
unfolding hex_digits
octas-read xs are = all-fields next_octa (λ x. x < 2 ^ 64) 17 (λ t. digits_value 16 (drop 2 t)) (λ x lt. hex-value x lt) (λ x. refl) xs are

bytes-read : (xs : List ℕ) → AreBytes xs → bytes_in (bytes_text xs) ≡ xs
unfolding hex_digits
bytes-read xs are = all-fields (hex_digits 2) (λ x. x < 2 ^ 8) 1 (digits_value 16) (λ x lt. hex-counted 2 x lt) (λ x. refl) xs are

tetras-lack : (xs : List ℕ) → lacks 10 (flat_map next_tetra xs) ≡ true
tetras-lack xs = fields-lack 10 next_tetra (λ x. hex-lacks 10 8 x (omega arith)) xs

octas-lack : (xs : List ℕ) → lacks 10 (flat_map next_octa xs) ≡ true
octas-lack xs = fields-lack 10 next_octa (λ x. hex-lacks 10 16 x (omega arith)) xs

bytes-lack : (xs : List ℕ) → lacks 10 (bytes_text xs) ≡ true
bytes-lack xs = fields-lack 10 (hex_digits 2) (λ x. hex-lacks 10 2 x (omega arith)) xs

-- an item from its line: the first bytes tell which it is
abbrev name_in : List ℕ → Option (List ℕ)
name_in [] = None
name_in (b ∷ more) = Some (bytes_in more)

abbrev is_at : ℕ → ℕ → List ℕ → Bool
is_at place b line = eqb (get_or line place 0) b

abbrev item_in : List ℕ → Item
item_in line =
    cond (is_at 0 108 line) (cond (is_at 1 111 line) (Loc (digits_value 16 (drop 5 line))) (Line (digits_value 10 (drop 5 line))))
    (cond (is_at 0 102 line)
    (cond (is_at 2 108 line) (File (digits_value 10 (until 32 (drop 5 line))) (name_in (following 32 (drop 5 line))))
    (cond (is_at 3 111 line) (FixOcta (digits_value 16 (drop 6 line)))
    (cond (is_at 4 120 line) (FixFar (digits_value 10 (until 32 (drop 6 line))) (digits_value 16 (drop 1 (following 32 (drop 6 line)))))
    (FixNear (digits_value 10 (drop 5 line))))))
    (cond (is_at 0 112 line)
    (cond (is_at 1 114 line) (Pre (tetras_in (drop 3 line))) (Post (digits_value 10 (until 32 (drop 5 line))) (octas_in (following 32 (drop 5 line)))))
    (cond (is_at 1 107 line) (Skip (digits_value 10 (drop 5 line)))
    (cond (is_at 1 112 line) (Spec (digits_value 10 (drop 5 line))) Stab))))

-- the first item of a text
abbrev pub first_in : List ℕ → Item
first_in text = cond (is_at 0 35 text) (Load (digits_value 16 (take 8 (drop 18 text)))) (item_in (until 10 text))

line-cut : (line rest : List ℕ) → lacks 10 line ≡ true → until 10 (ended line ++ rest) ≡ line
line-cut line rest l = ap (until 10) (append_assoc line (10 ∷ []) rest) ∙ until-cut 10 line (10 ∷ rest) l refl

abbrev pub IsShown : Item → Type 0
IsShown Stab = ⊥
IsShown _ = Unit {0}

octa-lacks : (a : ℕ) → lacks 10 (hex_digits 16 a) ≡ true
octa-lacks a = hex-lacks 10 16 a (omega arith)

few-lack : (n : ℕ) → n < 2 ^ 16 → lacks 10 (decimal n) ≡ true
few-lack n lt = decimal-lacks 10 n (omega arith) (omega (arith, lt))

few-read : (n : ℕ) → n < 2 ^ 16 → digits_value 10 (decimal n) ≡ n
few-read n lt = decimal-read n (omega (arith, lt))

-- what follows a number: nothing, or a blank first
name-begins : (name : Option (List ℕ)) → BeginsWith 32 (name_text name)
name-begins None = tt
name-begins (Some name) = refl

octas-begin : (xs : List ℕ) → BeginsWith 32 (flat_map next_octa xs)
octas-begin [] = tt
octas-begin (x ∷ xs) = refl

name-lacks : (name : Option (List ℕ)) → lacks 10 (name_text name) ≡ true
name-lacks None = refl
name-lacks (Some name) = bytes-lack name

name-read : (name : Option (List ℕ)) → IfSome name IsName → name_in (name_text name) ≡ name
name-read None is = refl
name-read (Some name) is = ap Some (bytes-read name is.bytes)

far-below : (bits : ℕ) → (bits ≡ 16) ⊎ (bits ≡ 24) → bits < 2 ^ 8
far-below bits (inl is) = omega (arith, is)
far-below bits (inr is) = omega (arith, is)

far-read : (bits t : ℕ) (rest : List ℕ) → bits < 2 ^ 8 → t < 2 ^ 25 → first_in (item_text 0 (FixFar bits t) ++ rest) ≡ FixFar bits t
far-read bits t rest lt small =
    ap item_in (line-cut (codes "fixrx " ++ decimal bits ++ next_tetra t) rest (lacks-both 10 (decimal bits) (next_tetra t) (few-lack bits (omega (arith, lt))) (hex-lacks 10 8 t (omega arith))))
    ∙ ap (λ d. FixFar (digits_value 10 d) (digits_value 16 (drop 1 (following 32 (decimal bits ++ next_tetra t))))) (until-cut 32 (decimal bits) (next_tetra t) (decimal-lacks 32 bits (omega arith) (omega (arith, lt))) refl)
    ∙ ap (λ d. FixFar (digits_value 10 (decimal bits)) (digits_value 16 (drop 1 d))) (after-cut 32 (decimal bits) (next_tetra t) (decimal-lacks 32 bits (omega arith) (omega (arith, lt))) refl)
    ∙ cc (few-read bits (omega (arith, lt)), hex-counted 8 t (omega (arith, small)))

file-read : (n : ℕ) (name : Option (List ℕ)) (rest : List ℕ) → n < 2 ^ 8 → IfSome name IsName → first_in (item_text 0 (File n name) ++ rest) ≡ File n name
file-read n name rest lt is =
    ap item_in (line-cut (codes "file " ++ decimal n ++ name_text name) rest (lacks-both 10 (decimal n) (name_text name) (few-lack n (omega (arith, lt))) (name-lacks name)))
    ∙ ap (λ d. File (digits_value 10 d) (name_in (following 32 (decimal n ++ name_text name)))) (until-cut 32 (decimal n) (name_text name) (decimal-lacks 32 n (omega arith) (omega (arith, lt))) (name-begins name))
    ∙ ap (λ d. File (digits_value 10 (decimal n)) (name_in d)) (after-cut 32 (decimal n) (name_text name) (decimal-lacks 32 n (omega arith) (omega (arith, lt))) (name-begins name))
    ∙ cc (few-read n (omega (arith, lt)), name-read name is)

post-read : (g : ℕ) (values rest : List ℕ) → g < 2 ^ 8 → AllByRecursion (λ x. x < 2 ^ 64) values → first_in (item_text 0 (Post g values) ++ rest) ≡ Post g values
post-read g values rest lt are =
    ap item_in (line-cut (codes "post " ++ decimal g ++ flat_map next_octa values) rest (lacks-both 10 (decimal g) (flat_map next_octa values) (few-lack g (omega (arith, lt))) (octas-lack values)))
    ∙ ap (λ d. Post (digits_value 10 d) (octas_in (following 32 (decimal g ++ flat_map next_octa values)))) (until-cut 32 (decimal g) (flat_map next_octa values) (decimal-lacks 32 g (omega arith) (omega (arith, lt))) (octas-begin values))
    ∙ ap (λ d. Post (digits_value 10 (decimal g)) (octas_in d)) (after-cut 32 (decimal g) (flat_map next_octa values) (decimal-lacks 32 g (omega arith) (omega (arith, lt))) (octas-begin values))
    ∙ cc (few-read g (omega (arith, lt)), octas-read values are)

load-read : (a t : ℕ) (rest : List ℕ) → t < 2 ^ 32 → first_in (item_text a (Load t) ++ rest) ≡ Load t
unfolding hex_digits
load-read a t rest lt = ap Load (hex-counted 8 t lt)

-- the item is what its text tells, whatever follows it
pub item-read : (a : ℕ) (item : Item) (rest : List ℕ) → Fits item → IsShown item → first_in (item_text a item ++ rest) ≡ item
item-read a (Load t) rest f s = load-read a t rest f
item-read a (Loc x) rest f s = ap item_in (line-cut (codes "loc " ++ hex_text x) rest (octa-lacks x)) ∙ ap Loc (hex-value x f)
item-read a (Skip n) rest f s = ap item_in (line-cut (codes "skip " ++ decimal n) rest (few-lack n f)) ∙ ap Skip (few-read n f)
item-read a (FixOcta x) rest f s = ap item_in (line-cut (codes "fixo " ++ hex_text x) rest (octa-lacks x)) ∙ ap FixOcta (hex-value x f)
item-read a (FixNear n) rest f s = ap item_in (line-cut (codes "fixr " ++ decimal n) rest (few-lack n f)) ∙ ap FixNear (few-read n f)
item-read a (FixFar bits t) rest f s = far-read bits t rest (far-below bits f.0) f.1
item-read a (File n name) rest f s = file-read n name rest f.0 f.1
item-read a (Line n) rest f s = ap item_in (line-cut (codes "line " ++ decimal n) rest (few-lack n f)) ∙ ap Line (few-read n f)
item-read a (Spec n) rest f s = ap item_in (line-cut (codes "spec " ++ decimal n) rest (few-lack n f)) ∙ ap Spec (few-read n f)
item-read a (Pre tetras) rest f s = ap item_in (line-cut (codes "pre" ++ flat_map next_tetra tetras) rest (tetras-lack tetras)) ∙ ap Pre (tetras-read tetras f.1)
item-read a (Post g values) rest f s = post-read g values rest f.1 f.3
item-read a Stab rest f s = absurd s

-- and the line of the trie tells that no item is left, and the trie
pub stab-read : (trie rest : List ℕ) → first_in (ended (stab_line trie) ++ rest) ≡ Stab
stab-read [] rest = refl
stab-read (b ∷ more) rest = refl

pub stab-lacks : (trie : List ℕ) → lacks 10 (stab_line trie) ≡ true
stab-lacks [] = refl
stab-lacks (b ∷ more) = bytes-lack (b ∷ more)

pub trie-told : (trie : List ℕ) → AreBytes trie → bytes_in (drop 5 (stab_line trie)) ≡ trie
trie-told [] are = refl
trie-told (b ∷ more) are = bytes-read (b ∷ more) are
