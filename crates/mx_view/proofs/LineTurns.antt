-- Lines that are taken one after another.
use Rattle.std.proofs.Common.{◌≡◌, ℕ, ◌+◌, true, false, List, [], ◌∷◌, ◌++◌, length, append-nil, append_assoc, arith, refl, sym, ap, ◌∙◌, Ok, Err}
use Rattle.std.specs.Result.{is_ok}
use Rattle.mx_line.specs.Lines.{lines_of}
use Rattle.mx_line.specs.Pieces.{split}
use Rattle.mx_type.specs.Lambda.{lambda_following}
use Rattle.mx_asm.specs.OnePass.{Status}
use Rattle.mx_asm.specs.Whole.{Line}
use Rattle.mx_view.specs.declared.cells.Wanted.{Wanted}
use Rattle.mx_view.specs.declared.lines.ListedLine.{ListedLine}
use Rattle.mx_view.specs.Rows.{Meaning}
use Rattle.mx_view.specs.InTurn.{items_at, status_at, listed_at, listed_in_turn, status_after_lines}

-- once a line is refused, no later line is listed, and the refusal stays
pub listed-after : (m : Meaning) (w : Wanted) (n lambda : ℕ) (a : Status) (lines : List Line) → is_ok a ≡ false → listed_in_turn m w n lambda a lines ≡ []
unfolding listed_in_turn
listed-after m w n lambda a [] e = refl
listed-after m w n lambda (Ok a) (line ∷ lines) e = absurd (cc)
listed-after m w n lambda (Err r) (line ∷ lines) e = refl

stays : (a : Status) (lines : List Line) → is_ok a ≡ false → status_after_lines a lines ≡ a
unfolding status_after_lines
stays a [] e = refl
stays (Ok a) (line ∷ lines) e = absurd (cc)
stays (Err r) (line ∷ lines) e = stays (Err r) lines refl

pub listed-next : (m : Meaning) (w : Wanted) (n lambda : ℕ) (a : Status) (source rest : List ℕ) (line : Line) → lines_of source ≡ line ∷ lines_of rest → is_ok a ≡ true →
    listed_in_turn m w n lambda a (lines_of source) ≡
    listed_at m w n lambda a line ++ listed_in_turn m w (n + 1) (lambda_following lambda (items_at a line)) (status_at a line) (lines_of rest)
unfolding listed_in_turn
listed-next m w n lambda (Ok a) source rest line es e = rw es refl
listed-next m w n lambda (Err r) source rest line es e = absurd (cc)

pub listed-refused : (m : Meaning) (w : Wanted) (n lambda : ℕ) (a : Status) (source rest : List ℕ) (line : Line) → lines_of source ≡ line ∷ lines_of rest → is_ok a ≡ true →
    is_ok (status_at a line) ≡ false → listed_in_turn m w n lambda a (lines_of source) ≡ listed_at m w n lambda a line
listed-refused m w n lambda a source rest line es e f =
    listed-next m w n lambda a source rest line es e ∙ ap (λ x. listed_at m w n lambda a line ++ x) (listed-after m w _ _ (status_at a line) (lines_of rest) f) ∙ append-nil _

pub status-next : (a : Status) (source rest : List ℕ) (line : Line) → lines_of source ≡ line ∷ lines_of rest →
    status_after_lines a (lines_of source) ≡ status_after_lines (status_at a line) (lines_of rest)
unfolding status_after_lines
status-next a source rest line es = rw es refl

pub status-refused : (a : Status) (source rest : List ℕ) (line : Line) → lines_of source ≡ line ∷ lines_of rest → is_ok (status_at a line) ≡ false →
    status_after_lines a (lines_of source) ≡ status_at a line
status-refused a source rest line es f = status-next a source rest line es ∙ stays (status_at a line) (lines_of rest) f

pub no-lines : (source : List ℕ) → length source ≡ 0 → lines_of source ≡ []
unfolding lines_of split
no-lines [] e = refl
no-lines (b ∷ bs) e = absurd (omega arith)

pub listed-none : (m : Meaning) (w : Wanted) (n lambda : ℕ) (a : Status) (source : List ℕ) → length source ≡ 0 → listed_in_turn m w n lambda a (lines_of source) ≡ []
unfolding listed_in_turn
listed-none m w n lambda a source e = rw (no-lines source e) refl

pub status-none : (a : Status) (source : List ℕ) → length source ≡ 0 → status_after_lines a (lines_of source) ≡ a
unfolding status_after_lines
status-none a source e = rw (no-lines source e) refl

-- the same after a list
pub onto-next : (lines : List ListedLine) (m : Meaning) (w : Wanted) (n lambda : ℕ) (a : Status) (source rest : List ℕ) (line : Line) → lines_of source ≡ line ∷ lines_of rest → is_ok a ≡ true →
    lines ++ listed_in_turn m w n lambda a (lines_of source) ≡
    (lines ++ listed_at m w n lambda a line) ++ listed_in_turn m w (n + 1) (lambda_following lambda (items_at a line)) (status_at a line) (lines_of rest)
onto-next lines m w n lambda a source rest line es e = ap (λ x. lines ++ x) (listed-next m w n lambda a source rest line es e) ∙ sym (append_assoc lines _ _)

pub onto-none : (lines : List ListedLine) (m : Meaning) (w : Wanted) (n lambda : ℕ) (a : Status) (source : List ℕ) → length source ≡ 0 →
    lines ++ listed_in_turn m w n lambda a (lines_of source) ≡ lines
onto-none lines m w n lambda a source e = ap (λ x. lines ++ x) (listed-none m w n lambda a source e) ∙ append-nil lines

pub ruleset turns = (onto-next, onto-none, listed-refused, status-next, status-refused, status-none)

pub ruleset statuses = (status-next, status-refused, status-none)
