-- A text cut at the first byte of a kind.
use Rattle.std.proofs.Common.{◌≡◌, ℕ, ◌+◌, ◌-◌, ◌<◌, List, [], ◌∷◌, length, take, drop, Bool, cond, arith, refl, sym, None, not, ◌==◌, rules}
use Rattle.mx_line.proofs.Words.{position, position_or_len, onto_first, slice_split, length-prefix_len, split}
use Rattle.std.proofs.lemmas.List.Splits.{slice_split_first}
use Rattle.std.proofs.lemmas.Grind.{common_steps}

pub none-length : (at : ℕ) (xs : List ℕ) → position (λ x. x == at) xs ≡ None → length xs ≡ position_or_len (λ x. x == at) xs
none-length at xs h = let most = length-prefix_len (λ x. not (x == at)) xs in grind (arith, common_steps)

-- the first piece ends at the first such byte
pub first-piece : (at : ℕ) (xs : List ℕ) → position_or_len (λ x. x == at) xs < length xs →
    split at xs ≡ take (position_or_len (λ x. x == at) xs) xs ∷ split at (drop (position_or_len (λ x. x == at) xs + 1) xs)
unfolding split
first-piece at xs h = slice_split_first (λ x. x == at) xs 0 h

pub first-cut : (at : ℕ) (xs : List ℕ) (n : ℕ) → n ≡ position_or_len (λ x. x == at) xs → n < length xs → split at xs ≡ take n xs ∷ split at (take (length xs - (n + 1)) (drop (n + 1) xs))
first-cut at xs n e l =
    let whole : take (length xs - (n + 1)) (drop (n + 1) xs) ≡ drop (n + 1) xs = grind (arith, common_steps) in
    rw whole (rw e (first-piece at xs (rw e at l)))

last-step : (t : Bool) (at b n : ℕ) (bs : List ℕ) → (n ≡ length bs → slice_split (λ x. x == at) bs ≡ bs ∷ []) → 1 + length bs ≡ cond (not t) (1 + n) 0 →
    cond t ([] ∷ slice_split (λ x. x == at) bs) (onto_first b (slice_split (λ x. x == at) bs)) ≡ (b ∷ bs) ∷ []
last-step t at b n bs h l = search rules

-- a text with no such byte is its only piece
pub only-piece : (at : ℕ) (xs : List ℕ) → length xs ≡ position_or_len (λ x. x == at) xs → split at xs ≡ xs ∷ []
unfolding split
only-piece at [] h = refl
only-piece at (b ∷ bs) h = last-step (b == at) at b (position_or_len (λ x. x == at) bs) bs (λ e. only-piece at bs (sym e)) (omega arith)

pub ruleset cutting = (first-cut, only-piece)
