-- Lines of a source by their numbers.
use Rattle.std.proofs.Common.{◌≡◌, ℕ, ◌-◌, ◌==◌, List, [], ◌∷◌, ◌++◌, length, ◌≢◌, append_assoc, append-nil, codes, refl, sym, ap, ◌∙◌}
use Rattle.std.specs.List.{flat_map}
use Rattle.std.proofs.lemmas.Bool.{cond-false}
use Rattle.mx_word.proofs.Comparisons.{other-test}
use Rattle.mx_line.specs.Lines.{lines_of}
use Rattle.mx_marks.specs.Fields.{Line}
use Rattle.mx_marks.specs.Mending.{line_text, lines_with, replaced, with_newline}
use Rattle.mx_marks.proofs.LabelTurns.{no-lines}

pub with-next : (text : List ℕ) (k : ℕ) (new : Line) (source rest : List ℕ) (line : Line) → lines_of source ≡ line ∷ lines_of rest →
    text ++ flat_map with_newline (lines_with k new (lines_of source)) ≡ ((text ++ replaced k new line) ++ codes "\n") ++ flat_map with_newline (lines_with (k - 1) new (lines_of rest))
unfolding lines_with
with-next text k new source rest line e =
    let more = flat_map with_newline (lines_with (k - 1) new (lines_of rest)) in
    rw e (sym (append_assoc text (with_newline (replaced k new line)) more) ∙ ap (λ t. t ++ more) (sym (append_assoc text (replaced k new line) (codes "\n"))))

pub with-none : (text : List ℕ) (k : ℕ) (new : Line) (source : List ℕ) → length source ≡ 0 → text ++ flat_map with_newline (lines_with k new (lines_of source)) ≡ text
unfolding lines_with
with-none text k new source e = rw (no-lines source e) (append-nil text)

pub text-found : (source rest : List ℕ) (line : Line) → lines_of source ≡ line ∷ lines_of rest → line_text 1 (lines_of source) ≡ line
unfolding line_text
text-found source rest line e = rw e refl

pub text-next : (k : ℕ) (source rest : List ℕ) (line : Line) → lines_of source ≡ line ∷ lines_of rest → k ≢ 1 → line_text k (lines_of source) ≡ line_text (k - 1) (lines_of rest)
unfolding line_text
text-next k source rest line e other = rw e (cond-false (k == 1) line _ (other-test k 1 other))

pub text-none : (k : ℕ) (source : List ℕ) → length source ≡ 0 → line_text k (lines_of source) ≡ []
unfolding line_text
text-none k source e = rw (no-lines source e) refl

pub ruleset lines = (with-next, with-none, text-found, text-next, text-none)
