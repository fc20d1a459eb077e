-- Lines that are loaded one after another.
use Rattle.std.proofs.Common.{◌≡◌, ℕ, ◌+◌, List, [], ◌∷◌, length, arith, refl, Ok, Err}
use Rattle.mx_line.specs.Lines.{lines_of}
use Rattle.mx_line.specs.Pieces.{split}
use Rattle.mx_files.specs.Loading.{LoadingStatus, line_loaded, lines_loaded}
use Rattle.mx_files.specs.declared.refusal.Refusal.{Refusal}

pub lines-next : (line : ℕ) (source rest : List ℕ) (text : List ℕ) (s t : LoadingStatus) → lines_of source ≡ text ∷ lines_of rest → Ok t ≡ line_loaded line s text →
    lines_loaded line (lines_of source) s ≡ lines_loaded (line + 1) (lines_of rest) t
unfolding lines_loaded
lines-next line source rest text s t es e = rw (es, ← e) refl

pub lines-refused : (line : ℕ) (source rest : List ℕ) (text : List ℕ) (s : LoadingStatus) (refusal : Refusal) → lines_of source ≡ text ∷ lines_of rest → Err refusal ≡ line_loaded line s text →
    lines_loaded line (lines_of source) s ≡ Err refusal
unfolding lines_loaded
lines-refused line source rest text s refusal es e = rw (es, ← e) refl

pub lines-none : (line : ℕ) (source : List ℕ) (s : LoadingStatus) → length source ≡ 0 → lines_loaded line (lines_of source) s ≡ Ok s
unfolding lines_loaded lines_of split
lines-none line [] s e = refl
lines-none line (b ∷ bs) s e = absurd (omega arith)

pub ruleset lines = (lines-next, lines-refused, lines-none)
