-- Parts of a text, and its tokens one after another.
use Rattle.std.proofs.Common.{◌≡◌, ◌≤◌, ℕ, zero, suc, ◌-◌, List, [], ◌∷◌, ◌++◌, drop, take, length, arith, append-nil, append_assoc, refl, sym, ap, ◌∙◌}
use Rattle.std.proofs.lemmas.List.{take_all}
use Rattle.mx_slips.specs.declared.tokens.Token.{Token}
use Rattle.mx_slips.specs.Tokens.{token_at, token_length, tokens_after, tokens_of}

pub whole-front : (count : ℕ) (text : List ℕ) → length text ≤ count → take count text ≡ text
whole-front count text e = take_all count text e

pub none-left : (count : ℕ) (text : List ℕ) → length text ≤ count → drop count text ≡ []
none-left zero [] e = refl
none-left zero (b ∷ bs) e = absurd (omega (arith, e))
none-left (suc n) [] e = refl
none-left (suc n) (b ∷ bs) e = none-left n bs (omega (arith, e))

pub ruleset parts = (whole-front, none-left)

-- the tokens that follow the bytes of one
rest-is : (n end : ℕ) (text : List ℕ) → tokens_after n end text ≡ tokens_of end (drop n text)
unfolding tokens_after
rest-is zero end [] = refl
rest-is zero end (b ∷ bs) = refl
rest-is (suc n) end [] = refl
rest-is (suc n) end (b ∷ bs) = rest-is n end bs

next : (tokens : List Token) (end b : ℕ) (bs : List ℕ) →
    tokens ++ tokens_of end (b ∷ bs) ≡ (tokens ++ token_at end (b ∷ bs) ∷ []) ++ tokens_of end (drop (token_length (b ∷ bs) - 1) bs)
unfolding tokens_after
next tokens end b bs =
    ap (λ more. tokens ++ token_at end (b ∷ bs) ∷ more) (rest-is (token_length (b ∷ bs) - 1) end bs) ∙ sym (append_assoc tokens (token_at end (b ∷ bs) ∷ []) _)

-- the same of a list with a first byte
pub tokens-at : (tokens : List Token) (end : ℕ) (rest : List ℕ) → 1 ≤ length rest →
    tokens ++ tokens_of end rest ≡ (tokens ++ token_at end rest ∷ []) ++ tokens_of end (drop (token_length rest - 1) (take (length rest - 1) (drop 1 rest)))
tokens-at tokens end [] e = absurd (omega (arith, e))
tokens-at tokens end (b ∷ bs) e =
    let whole : take (length (b ∷ bs) - 1) bs ≡ bs = take_all (length (b ∷ bs) - 1) bs (omega arith) in
    next tokens end b bs ∙ ap (λ more. (tokens ++ token_at end (b ∷ bs) ∷ []) ++ tokens_of end (drop (token_length (b ∷ bs) - 1) more)) (sym whole)

pub tokens-none : (tokens : List Token) (end : ℕ) (rest : List ℕ) → length rest ≤ 0 → tokens ++ tokens_of end rest ≡ tokens
unfolding tokens_after
tokens-none tokens end [] e = append-nil tokens
tokens-none tokens end (b ∷ bs) e = absurd (omega (arith, e))

pub ruleset turns = (tokens-at, tokens-none)
