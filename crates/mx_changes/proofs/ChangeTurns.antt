-- Names of a line, and lines, one after another.
use Rattle.std.proofs.Common.{◌≡◌, ℕ, ◌+◌, List, ◌∷◌, ◌++◌, length, codes, sym, ap, ◌∙◌, append_assoc, append-nil}
use Rattle.mx_line.specs.Lines.{lines_of}
use Rattle.mx_marks.proofs.LabelTurns.{no-lines}
use Rattle.mx_occurrences.specs.declared.occurrence.Named.{Named}
use Rattle.mx_occurrences.specs.declared.occurrence.Occurrence.{Occurrence}
use Rattle.mx_changes.specs.Changes.{changed_line, changed_lines, next}

pub texts-join : (xs ys zs : List ℕ) → (xs ++ ys) ++ zs ≡ xs ++ (ys ++ zs)
texts-join xs ys zs = append_assoc xs ys zs

pub ruleset texts = (texts-join)

pub line-next : (text : List ℕ) (names : List Occurrence) (named : Named) (name : List ℕ) (number : ℕ) (source rest line : List ℕ) → lines_of source ≡ line ∷ lines_of rest →
    text ++ changed_lines names named name number (lines_of source)
    ≡ ((text ++ changed_line named name number line 0 names) ++ codes "\n") ++ changed_lines names named name (next number) (lines_of rest)
unfolding changed_lines
line-next text names named name number source rest line e =
    let more = changed_lines names named name (next number) (lines_of rest) in
    rw e (sym (append_assoc text (changed_line named name number line 0 names ++ codes "\n") more) ∙ ap (λ t. t ++ more) (sym (append_assoc text (changed_line named name number line 0 names) (codes "\n"))))

pub line-none : (text : List ℕ) (names : List Occurrence) (named : Named) (name : List ℕ) (number : ℕ) (source : List ℕ) → length source ≡ 0 →
    text ++ changed_lines names named name number (lines_of source) ≡ text
unfolding changed_lines
line-none text names named name number source e = rw (no-lines source e) (append-nil text)

pub ruleset lines = (line-next, line-none)
