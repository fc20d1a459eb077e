-- Each line of a source is in its listing once, in order.
use Rattle.std.proofs.Common.{◌≡◌, ℕ, ◌+◌, List, [], ◌∷◌, ◌++◌, length, append-nil, append_assoc, refl, sym, ap, ◌∙◌, Option, None, Some, Ok, Err}
use Rattle.mx_line.specs.Lines.{lines_of}
use Rattle.mx_asm.specs.OnePass.{Status}
use Rattle.mx_asm.specs.Refusal.{refusal}
use Rattle.mx_asm.specs.Whole.{Line, lines_refusal, lines_taken}
use Rattle.mx_asm.specs.declared.refused.Refused.{Refused}
use Rattle.mx_asm.proofs.EndLaw.{both-none}
use Rattle.mx_asm.proofs.InTurn.{taken-at, refusal-lasts}
use Rattle.mx_view.specs.declared.cells.Cell.{Cell}
use Rattle.mx_view.specs.declared.cells.Wanted.TheVariants.{All}
use Rattle.mx_view.specs.ListingParts.{each_line_once}
use Rattle.mx_view.specs.Listing.{line_cells, line_listed, listed_after, listed_unless}
use Rattle.mx_view.specs.Rows.{Meaning, listed, listed_line, once}

-- no front of lines that are not refused is refused
lasting : (front later : List Line) (r : Refused) → lines_refusal front ≡ Some r → lines_refusal (front ++ later) ≡ Some r
lasting front later r e = by (lines_taken front).1 refl
  where
    same : (s : Refused) → Some s ≡ lines_refusal front → s ≡ r
    same s h = cc

    by : (a : Status) → (lines_taken front).1 ≡ a → lines_refusal (front ++ later) ≡ Some r
    by (Ok b) is = let h = (taken-at front (Ok b) (sym is)).refusal in absurd (cc)
    by (Err s) is =
        let h = taken-at front (Err s) (sym is) in
        sym (taken-at (front ++ later) (Err s) (sym (ap (λ p. p.1) (refusal-lasts front later s h)))).refusal ∙ ap (λ q. Some q) (same s h.refusal)

open-front : (front later : List Line) → lines_refusal (front ++ later) ≡ None → lines_refusal front ≡ None
open-front front later none = by (lines_refusal front) refl
  where
    by : (o : Option Refused) → lines_refusal front ≡ o → o ≡ None
    by None e = refl
    by (Some r) e = let h = lasting front later r e in absurd (cc)

listed-of : (m : Meaning) (number : ℕ) (line : Line) (cells : List Cell) → listed m All number line cells ≡ listed_line m number line cells ∷ []
unfolding once
listed-of m number line [] = refl
listed-of m number line (c ∷ cells) = refl

-- a line after lines that are not refused
open-line : (m : Meaning) (before : List Line) (line : Line) → lines_refusal before ≡ None → line_listed m All before line ≡ listed_line m (length before + 1) line (line_cells All before line) ∷ []
open-line m before line none =
    ap (λ r. listed_unless r (listed m All (length before + 1) line (line_cells All before line))) none
    ∙ listed-of m (length before + 1) line (line_cells All before line)

-- lines after others, where none but the last may be refused
pub once-after : (m : Meaning) (before later : List Line) (line : Line) → lines_refusal (before ++ later) ≡ None → listed_after m All before (later ++ line ∷ []) ≡ each_line_once m before (later ++ line ∷ [])
unfolding listed_after each_line_once
once-after m before [] line none =
    ap (λ lines. lines ++ []) (open-line m before line (ap lines_refusal (sym (append-nil before)) ∙ none))
once-after m before (next ∷ later) line none =
    let open_still : lines_refusal ((before ++ next ∷ []) ++ later) ≡ None = ap lines_refusal (append_assoc before (next ∷ []) later) ∙ none in
    (λ i. open-line m before next (open-front before (next ∷ later) none) i ++ once-after m (before ++ next ∷ []) later line open_still i)

-- nothing follows a refused line
closed-lines : (m : Meaning) (before later : List Line) (r : Refused) → lines_refusal before ≡ Some r → listed_after m All before later ≡ []
unfolding listed_after
closed-lines m before [] r e = refl
closed-lines m before (line ∷ later) r e =
    (λ i. listed_unless (e i) (listed m All (length before + 1) line (line_cells All before line)) ++ closed-lines m (before ++ line ∷ []) later r (lasting before (line ∷ []) r e) i)

lines-append : (m : Meaning) (before lines later : List Line) → listed_after m All before (lines ++ later) ≡ listed_after m All before lines ++ listed_after m All (before ++ lines) later
unfolding listed_after
lines-append m before [] later = ap (λ l. listed_after m All l later) (sym (append-nil before))
lines-append m before (line ∷ lines) later =
    ap (λ more. line_listed m All before line ++ more) (lines-append m (before ++ line ∷ []) lines later)
    ∙ sym (append_assoc (line_listed m All before line) (listed_after m All (before ++ line ∷ []) lines) (listed_after m All ((before ++ line ∷ []) ++ lines) later))
    ∙ ap (λ l. (line_listed m All before line ++ listed_after m All (before ++ line ∷ []) lines) ++ listed_after m All l later) (append_assoc before (line ∷ []) lines)

pub once-refused : (m : Meaning) (before later : List Line) (line : Line) (r : Refused) → lines_refusal before ≡ None → lines_refusal (before ++ line ∷ []) ≡ Some r →
    listed_after m All [] (before ++ line ∷ later) ≡ each_line_once m [] (before ++ line ∷ [])
once-refused m before later line r none refused =
    ap (listed_after m All []) (sym (append_assoc before (line ∷ []) later))
    ∙ lines-append m [] (before ++ line ∷ []) later
    ∙ ap (λ more. listed_after m All [] (before ++ line ∷ []) ++ more) (closed-lines m (before ++ line ∷ []) later r refused)
    ∙ append-nil (listed_after m All [] (before ++ line ∷ []))
    ∙ once-after m [] before line none

-- all lines, where none is refused
all-once : (m : Meaning) (before later : List Line) → lines_refusal (before ++ later) ≡ None → listed_after m All before later ≡ each_line_once m before later
unfolding listed_after each_line_once
all-once m before [] none = refl
all-once m before (line ∷ later) none =
    let open_still : lines_refusal ((before ++ line ∷ []) ++ later) ≡ None = ap lines_refusal (append_assoc before (line ∷ []) later) ∙ none in
    (λ i. open-line m before line (open-front before (line ∷ later) none) i ++ all-once m (before ++ line ∷ []) later open_still i)

pub once-accepted : (source : List ℕ) (m : Meaning) → refusal source ≡ None → listed_after m All [] (lines_of source) ≡ each_line_once m [] (lines_of source)
once-accepted source m none = all-once m [] (lines_of source) (both-none (lines_refusal (lines_of source)) _ none).0

pub ruleset each_once = (once-accepted, once-refused)
