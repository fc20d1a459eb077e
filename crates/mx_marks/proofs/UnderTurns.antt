-- What is under a text, character after character.
use Rattle.std.proofs.Common.{◌≡◌, ◌≤◌, ℕ, zero, suc, ◌-◌, Bool, true, false, List, [], ◌∷◌, ◌++◌, drop, take, length, slice_index_or, arith, append-nil, append_assoc, refl, sym, ap, ◌∙◌}
use Rattle.std.specs.Str.{IsUtf8, is_utf8}
use Rattle.std.proofs.lemmas.List.{take_all}
use Rattle.std.proofs.lemmas.Str.{IsUtf8-from_is_utf8, is_utf8-from_IsUtf8}
use Rattle.mx_marks.specs.Under.{char_length, tildes_after, under, under_after, under_text}

-- what follows the bytes of a character
pub after-is : (n : ℕ) (text : List ℕ) → under_after n text ≡ under_text (drop n text)
unfolding under_after
after-is zero [] = refl
after-is zero (b ∷ bs) = refl
after-is (suc n) [] = refl
after-is (suc n) (b ∷ bs) = after-is n bs

pub under-next : (text : List ℕ) (b : ℕ) (bs : List ℕ) →
    text ++ under_text (b ∷ bs) ≡ (text ++ under b ∷ []) ++ under_text (drop (char_length (b ∷ bs) - 1) bs)
unfolding under_after
under-next text b bs =
    ap (λ more. text ++ under b ∷ more) (after-is (char_length (b ∷ bs) - 1) bs) ∙ sym (append_assoc text (under b ∷ []) _)

-- the same of a list with a first byte
pub under-at : (text rest : List ℕ) → 1 ≤ length rest →
    text ++ under_text rest ≡ (text ++ under (slice_index_or rest 0 0) ∷ []) ++ under_text (drop (char_length rest - 1) (take (length rest - 1) (drop 1 rest)))
under-at text [] e = absurd (omega (arith, e))
under-at text (b ∷ bs) e =
    let whole : take (length (b ∷ bs) - 1) bs ≡ bs = take_all (length (b ∷ bs) - 1) bs (omega arith) in
    under-next text b bs ∙ ap (λ more. (text ++ under b ∷ []) ++ under_text (drop (char_length (b ∷ bs) - 1) more)) (sym whole)

pub under-none : (text : List ℕ) → text ++ under_text [] ≡ text
unfolding under_after
under-none text = append-nil text

pub ruleset turns = (under-at, under-none)

-- whether a text is UTF-8
pub no-text : (text : List ℕ) → ¬ (IsUtf8 text) → is_utf8 text ≡ false
no-text text none = by (is_utf8 text) refl
  where
    by : (b : Bool) → is_utf8 text ≡ b → b ≡ false
    by true e = absurd (none (IsUtf8-from_is_utf8 text e))
    by false e = refl

pub ruleset tests = (is_utf8-from_IsUtf8, no-text)

-- and the same of the tildes
tildes-after-is : (n : ℕ) (text : List ℕ) → tildes_after n text ≡ tildes_after 0 (drop n text)
unfolding tildes_after
tildes-after-is zero [] = refl
tildes-after-is zero (b ∷ bs) = refl
tildes-after-is (suc n) [] = refl
tildes-after-is (suc n) (b ∷ bs) = tildes-after-is n bs

pub tilde-at : (text rest : List ℕ) → 1 ≤ length rest →
    text ++ tildes_after 0 rest ≡ (text ++ 126 ∷ []) ++ tildes_after 0 (drop (char_length rest - 1) (take (length rest - 1) (drop 1 rest)))
unfolding tildes_after
tilde-at text [] e = absurd (omega (arith, e))
tilde-at text (b ∷ bs) e =
    let whole : take (length (b ∷ bs) - 1) bs ≡ bs = take_all (length (b ∷ bs) - 1) bs (omega arith) in
    ap (λ more. text ++ 126 ∷ more) (tildes-after-is (char_length (b ∷ bs) - 1) bs)
    ∙ ap (λ more. text ++ 126 ∷ tildes_after 0 (drop (char_length (b ∷ bs) - 1) more)) (sym whole)
    ∙ sym (append_assoc text (126 ∷ []) _)

pub tilde-none : (text : List ℕ) → text ++ tildes_after 0 [] ≡ text
unfolding tildes_after
tilde-none text = append-nil text

pub ruleset tildes = (tilde-at, tilde-none)
