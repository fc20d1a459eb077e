-- The lines of a source, line by line.
use Rattle.std.proofs.Common.{◌≡◌, ℕ, ◌+◌, ◌<◌, List, [], ◌∷◌, length, refl, ap, ◌∙◌, arith, ◌++◌, take, take_at, append_assoc, sum_by, rules}
use Rattle.mx_line.proofs.Words.{length_push, lines_of, without_empty_last, size_up_to, split}
use Rattle.std.proofs.lemmas.List.Sums.{sum_by-append}

pub no-lines : lines_of [] ≡ []
unfolding lines_of split
no-lines = refl

-- a line before another piece
before : (line rest : List ℕ) → without_empty_last (line ∷ split 10 rest) ≡ line ∷ without_empty_last (split 10 rest)
unfolding split
before line (b ∷ bs) = search rules
before line [] = refl

pub first-line : (text line rest : List ℕ) → split 10 text ≡ line ∷ split 10 rest → lines_of text ≡ line ∷ lines_of rest
unfolding lines_of
first-line text line rest h = rw h (before line rest)

last : (line : List ℕ) → 0 < length line → without_empty_last (line ∷ []) ≡ line ∷ []
last line h = search rules

pub last-line : (text line : List ℕ) → split 10 text ≡ line ∷ [] → 0 < length line → lines_of text ≡ line ∷ lines_of []
unfolding lines_of split
last-line text line h l = rw h (last line l)

pub ruleset lines = (first-line, last-line)

-- how many bytes the lines up to the one after these have, with the newlines between them
pub size-next : (before : List (List ℕ)) (line : List ℕ) (after : List (List ℕ)) → size_up_to (length before + 1) (before ++ line ∷ after) ≡ sum_by length before + length before + length line
size-next before line after =
    let two : before ++ line ∷ after ≡ (before ++ line ∷ []) ++ after = simp append_assoc in
    let front : take (length before + 1) (before ++ line ∷ after) ≡ before ++ line ∷ [] = ap (take (length before + 1)) two ∙ take_at (before ++ line ∷ []) after (length before + 1) (length_push before line) in
    let one : sum_by length (line ∷ []) ≡ length line = omega arith in
    let sums : sum_by length (take (length before + 1) (before ++ line ∷ after)) ≡ sum_by length before + length line = ap (sum_by length) front ∙ sum_by-append length before (line ∷ []) ∙ ap (λ n. sum_by length before + n) one in
    omega (arith, sums)
