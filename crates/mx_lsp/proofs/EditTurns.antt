-- Lines of a text one after another.
use Rattle.std.proofs.Common.{◌≡◌, ◌≤◌, ◌<◌, ℕ, zero, suc, ◌-◌, List, [], ◌∷◌, length, take, arith, refl}
use Rattle.std.proofs.lemmas.List.{take_all}
use Rattle.mx_frames.proofs.Parts.{none-following}
use Rattle.mx_line.specs.Bytes.{run}
use Rattle.mx_line.proofs.KindLemmas.{run-take}
use Rattle.mx_lsp.specs.Edits.{is_no_end, later_lines, lines_after}

pub whole-front : (count : ℕ) (text : List ℕ) → length text ≤ count → take count text ≡ text
whole-front count text e = take_all count text e

pub line-is : (text : List ℕ) → take (length (run is_no_end text)) text ≡ run is_no_end text
line-is text = run-take is_no_end text

pub ruleset parts = (whole-front, none-following, line-is)

pub lines-of-none : (n : ℕ) (text : List ℕ) → length text ≡ 0 → lines_after n text ≡ text
unfolding lines_after
lines-of-none zero text e = refl
lines-of-none (suc n) [] e = lines-of-none n [] refl
lines-of-none (suc n) (b ∷ bs) e = absurd (omega (arith, e))

pub no-lines : (n : ℕ) (text : List ℕ) → n ≤ 0 → lines_after n text ≡ text
unfolding lines_after
no-lines zero text e = refl
no-lines (suc n) text e = absurd (omega (arith, e))

pub next-lines : (n : ℕ) (text : List ℕ) → 0 < n → lines_after n text ≡ lines_after (n - 1) (later_lines text)
unfolding lines_after
next-lines zero text e = absurd (omega (arith, e))
next-lines (suc n) text e = let less : suc n - 1 ≡ n = omega arith in rw less refl

pub ruleset lines = (lines-of-none, no-lines, next-lines)
