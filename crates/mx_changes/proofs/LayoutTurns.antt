-- Lines that are laid out one after another.
use Rattle.std.proofs.Common.{◌≡◌, ℕ, List, ◌∷◌, ◌++◌, length, codes, sym, ap, ◌∙◌, append_assoc, append-nil}
use Rattle.std.specs.List.{flat_map}
use Rattle.mx_line.specs.Lines.{lines_of}
use Rattle.mx_marks.proofs.LabelTurns.{no-lines}
use Rattle.mx_changes.specs.Changes.{next}
use Rattle.mx_changes.specs.Layouts.{edit_if, edits_from, laid_line, with_newline}

pub text-next : (text source rest line : List ℕ) → lines_of source ≡ line ∷ lines_of rest →
    text ++ flat_map with_newline (lines_of source) ≡ ((text ++ laid_line line) ++ codes "\n") ++ flat_map with_newline (lines_of rest)
text-next text source rest line e =
    let later = flat_map with_newline (lines_of rest) in
    rw e (sym (append_assoc text (laid_line line ++ codes "\n") later) ∙ ap (λ t. t ++ later) (sym (append_assoc text (laid_line line) (codes "\n"))))

pub text-none : (text source : List ℕ) → length source ≡ 0 → text ++ flat_map with_newline (lines_of source) ≡ text
text-none text source e = rw (no-lines source e) (append-nil text)

pub edits-next : (edits : List (List ℕ)) (number : ℕ) (source rest line : List ℕ) → lines_of source ≡ line ∷ lines_of rest →
    edits ++ edits_from number (lines_of source) ≡ (edits ++ edit_if number line (laid_line line)) ++ edits_from (next number) (lines_of rest)
unfolding edits_from
edits-next edits number source rest line e =
    rw e (sym (append_assoc edits (edit_if number line (laid_line line)) (edits_from (next number) (lines_of rest))))

pub edits-none : (edits : List (List ℕ)) (number : ℕ) (source : List ℕ) → length source ≡ 0 → edits ++ edits_from number (lines_of source) ≡ edits
unfolding edits_from
edits-none edits number source e = rw (no-lines source e) (append-nil edits)

pub ruleset turns = (text-next, text-none, edits-next, edits-none)
