-- The special registers by their codes and names.
use Rattle.std.proofs.Common.{◌≡◌, ◌<◌, ℕ, ◌+◌, List, [], ◌∷◌, Bool, refl, ap, ◌∙◌, sym, arith, map, drop, position, bytes_eq, codes, Bor, cond, Option, length, nat_lt, not, Some, None, get_or}
use Rattle.std.specs.List.{prefix_len, range_with_len}
use Rattle.std.proofs.Math.ListN.{get_or-map}
use Rattle.std.proofs.lemmas.List.{length-map}
use Rattle.std.proofs.lemmas.List.FromFn.{get_or-map-range_with_len}
use Rattle.mx_ops.proofs.Words.{predefined_names, predefined_value, special_code, special_name, special_registers}

prefix-map : {A B : Type 0} (p : B → Bool) (f : A → B) (xs : List A) → prefix_len (λ x. p (f x)) xs ≡ prefix_len p (map f xs)
prefix-map p f [] = refl
prefix-map p f (x ∷ xs) = ap (λ n. cond (p (f x)) (1 + n) 0) (prefix-map p f xs)

abbrev first_place : ℕ → ℕ → Option ℕ
first_place n count = cond (nat_lt n count) (Some n) None

position-map : {A B : Type 0} (p : B → Bool) (f : A → B) (xs : List A) → position (λ x. p (f x)) xs ≡ position p (map f xs)
position-map p f xs =
    ap (λ n. first_place n (length xs)) (prefix-map (λ x. not (p x)) f xs)
    ∙ ap (first_place (prefix_len (λ x. not (p x)) (map f xs))) (sym (length-map xs f))

pub named : (xs : List (Bor (List ℕ))) (bare : List ℕ) → map (λ s. s.now) xs ≡ special_registers →
    position (λ own. bytes_eq own.now (114 ∷ bare)) xs ≡ special_code bare
unfolding special_code
named xs bare same =
    position-map (λ r. bytes_eq r (114 ∷ bare)) (λ s. s.now) xs ∙ ap (position (λ r. bytes_eq r (114 ∷ bare))) same

pub name-at : (xs : List (Bor (List ℕ))) (i code : ℕ) (d : Bor (List ℕ)) → map (λ s. s.now) xs ≡ special_registers → d.now ≡ [] → i ≡ code →
    (get_or xs i d).now ≡ special_name code
unfolding special_name
name-at xs i code d same nothing is =
    sym (get_or-map (λ s. s.now) xs i d) ∙ ap (λ l. get_or l i d.now) same ∙ ap (λ e. get_or special_registers i e) nothing ∙ ap (λ k. get_or special_registers k []) is

-- ---- each code, by computing

abbrev code_found : ℕ → Option ℕ
code_found code = special_code (drop 1 (special_name code))

abbrev symbol_found : ℕ → Option ℕ
symbol_found code = predefined_value (58 ∷ special_name code)

codes-found : map code_found (range_with_len 0 32) ≡ map Some (range_with_len 0 32)
unfolding special_code special_name special_registers
codes-found = refl

symbols-found : map symbol_found (range_with_len 0 32) ≡ map Some (range_with_len 0 32)
unfolding predefined_value predefined_names special_name special_registers
symbols-found = refl

-- two functions that are the same from 0 to 31
below-32 : (f g : ℕ → Option ℕ) → map f (range_with_len 0 32) ≡ map g (range_with_len 0 32) → (code : ℕ) → code < 32 → f code ≡ g code
below-32 f g same code below =
    sym (get_or-map-range_with_len f 0 32 code code None below (omega arith))
    ∙ ap (λ l. get_or l code None) same
    ∙ get_or-map-range_with_len g 0 32 code code None below (omega arith)

pub code-found : (code : ℕ) → code < 32 → special_code (drop 1 (special_name code)) ≡ Some code
code-found = below-32 code_found Some codes-found

pub symbol-is-code : (code : ℕ) → code < 32 → predefined_value (58 ∷ special_name code) ≡ Some code
symbol-is-code = below-32 symbol_found Some symbols-found
