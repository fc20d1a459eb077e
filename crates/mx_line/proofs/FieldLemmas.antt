-- Operand fields by what is first in them.
use Rattle.std.proofs.Common.{◌≡◌, ◌≢◌, ℕ, suc, ◌+◌, ◌<◌, ◌≤◌, List, [], ◌∷◌, length, drop, get_or, Bool, true, false, cond, not, Result, Ok, Err, IfOk, arith, refl, sym, ap, ◌∙◌, ◌==◌, rules}
use Rattle.mx_line.proofs.Words.{cond-false, cond_both, nat_tests, position_or_len, drop-drop, LineFault, OpenString, OpenChar, Within, field_from, field_length, after_first, more, ends_field, nothing, string, constant, closing}

pub more-more : (a b : ℕ) (r : Result ℕ LineFault) → more a (more b r) ≡ more (a + b) r
more-more a b r = search rules

-- a field without bytes
pub empty-field : (text : List ℕ) → length text ≡ 0 → field_length text ≡ Ok 0
unfolding field_from
empty-field text h = search rules

-- the field's length, where something is first
after-some : (text : List ℕ) (count : ℕ) → 0 < count → more count (field_length (drop count text)) ≡ after_first text (Ok count)
after-some text count h = sym (cond-false (count == 0) (Ok 0) (more count (field_length (drop count text))) (grind (arith, nat_tests)))

-- the string is closed at the first quote
string-step : (t : Bool) (b n : ℕ) (bs : List ℕ) → (t ≡ false → n < length bs → field_from string bs ≡ more (n + 1) (field_from nothing (drop (n + 1) bs))) →
    cond (not t) (1 + n) 0 < 1 + length bs →
    cond t (more 1 (field_from nothing bs)) (more 1 (field_from string bs)) ≡ more (cond (not t) (1 + n) 0 + 1) (field_from nothing (drop (cond (not t) (1 + n) 0 + 1) (b ∷ bs)))
string-step t b n bs h l = search rules

string-closed : (xs : List ℕ) → position_or_len (λ x. x == 34) xs < length xs →
    field_from string xs ≡ more (position_or_len (λ x. x == 34) xs + 1) (field_from nothing (drop (position_or_len (λ x. x == 34) xs + 1) xs))
unfolding field_from
string-closed [] h = absurd (omega arith)
string-closed (b ∷ bs) h = string-step (b == 34) b (position_or_len (λ x. x == 34) bs) bs (λ _ l. string-closed bs l) (omega arith)

pub string-first : (xs : List ℕ) (n : ℕ) → n ≡ position_or_len (λ x. x == 34) xs → n < length xs → field_length (34 ∷ xs) ≡ after_first (34 ∷ xs) (Ok (n + 2))
unfolding field_from
string-first xs n e l =
    let f : 1 + (n + 1) ≡ n + 2 = omega arith in
    let g : n + 2 ≡ suc (n + 1) = omega arith in
    let closed : field_from string xs ≡ more (n + 1) (field_from nothing (drop (n + 1) xs)) = rw e (string-closed xs (rw e at l)) in
    let same : more (1 + (n + 1)) (field_from nothing (drop (n + 1) xs)) ≡ more (n + 2) (field_length (drop (n + 2) (34 ∷ xs))) = rw (f, g) refl in
    ap (more 1) closed ∙ more-more 1 (n + 1) (field_from nothing (drop (n + 1) xs)) ∙ same ∙ after-some (34 ∷ xs) (n + 2) (omega arith)

string-open : (xs : List ℕ) → position_or_len (λ x. x == 34) xs ≡ length xs → field_from string xs ≡ Err OpenString
unfolding field_from
string-open [] h = refl
string-open (b ∷ bs) h = search (rules, string-open bs)

pub string-none : (xs : List ℕ) (n : ℕ) → n ≡ position_or_len (λ x. x == 34) xs → n ≤ length xs → length xs ≤ n → field_length (34 ∷ xs) ≡ Err OpenString
unfolding field_from
string-none xs n e l m = ap (more 1) (string-open xs (omega arith))

-- a character constant, by the bytes after its apostrophe
pub constant-short : (xs : List ℕ) → length xs < 2 → field_length (39 ∷ xs) ≡ Err OpenChar
unfolding field_from
constant-short xs h = search rules

pub constant-closed : (xs : List ℕ) → 2 ≤ length xs → get_or xs 1 0 ≡ 39 → field_length (39 ∷ xs) ≡ more 3 (field_length (drop 2 xs))
unfolding field_from
constant-closed xs h e = search rules

pub constant-open : (xs : List ℕ) → 2 ≤ length xs → get_or xs 1 0 ≢ 39 → field_length (39 ∷ xs) ≡ Err OpenChar
unfolding field_from
constant-open xs h e = search rules

other : (b : ℕ) (xs : List ℕ) → b ≢ 34 → b ≢ 39 → field_length (b ∷ xs) ≡ cond (ends_field b) (Ok 0) (more 1 (field_length xs))
unfolding field_from
other b xs h k = search rules

pub field-ends : (b : ℕ) (xs : List ℕ) → b ≢ 34 → b ≢ 39 → ends_field b ≡ true → field_length (b ∷ xs) ≡ Ok 0
field-ends b xs h k e = other b xs h k ∙ ap (λ t. cond t (Ok 0) (more 1 (field_length xs))) e

pub field-more : (b : ℕ) (xs : List ℕ) → b ≢ 34 → b ≢ 39 → ends_field b ≡ false → field_length (b ∷ xs) ≡ more 1 (field_length xs)
field-more b xs h k e = other b xs h k ∙ ap (λ t. cond t (Ok 0) (more 1 (field_length xs))) e

-- a field is no longer than its text
more-few : (r : Result ℕ LineFault) (k : ℕ) → IfOk r (λ n. n ≤ k) → IfOk (more 1 r) (λ n. n ≤ suc k)
more-few r k h = search rules

field-few : (w : Within) (text : List ℕ) → IfOk (field_from w text) (λ n. n ≤ length text)
unfolding field_from
field-few nothing [] = omega arith
field-few nothing (b ∷ bs) =
    let P : Result ℕ LineFault → Type 0 = λ r. IfOk r (λ n. n ≤ suc (length bs)) in
    cond_both (b == 34) _ _ P (λ _. more-few (field_from string bs) (length bs) (field-few string bs)) (λ _.
    cond_both (b == 39) _ _ P (λ _. more-few (field_from constant bs) (length bs) (field-few constant bs)) (λ _.
    cond_both (ends_field b) _ _ P (λ _. omega arith) (λ _. more-few (field_from nothing bs) (length bs) (field-few nothing bs))))
field-few string (b ∷ bs) = grind (arith, cond_both, more-few, field-few nothing bs, field-few string bs)
field-few constant (b ∷ bs) = more-few (field_from closing bs) (length bs) (field-few closing bs)
field-few closing (b ∷ bs) = grind (arith, cond_both, more-few, field-few nothing bs)
field-few w [] = tt

pub field_length-few : (text : List ℕ) → IfOk (field_length text) (λ n. n ≤ length text)
field_length-few text = field-few nothing text

pub ruleset strings = (string-first, string-none)

pub ruleset constants = (constant-short, constant-closed, constant-open)

pub ruleset firsts = (empty-field, field-ends, field-more)

pub ruleset fields = (more-more, drop-drop)
