-- Lines without a newline, and texts of them.
use Rattle.std.proofs.Common.{◌≡◌, ℕ, ◌+◌, ◌-◌, ◌<◌, Bool, false, not, List, [], ◌∷◌, ◌++◌, length, ◌==◌, ◌≢◌, take_while, length-append, append_assoc, append-nil, codes, arith, rules, refl, sym, ap, subst, ◌∙◌}
use Rattle.std.specs.List.{list_all, onto_first, slice_split}
use Rattle.std.proofs.lemmas.Bool.{and_parts, cond-false, cond_both}
use Rattle.std.proofs.lemmas.Grind.{flat_map-append}
use Rattle.std.proofs.lemmas.List.Folds.{list_all-append}
use Rattle.std.proofs.lemmas.List.Sums.{take_while-cons}
use Rattle.mx_word.proofs.Comparisons.{other-test}
use Rattle.mx_line.specs.Lines.{lines_of, without_empty_last}
use Rattle.mx_line.specs.Pieces.{split}
use Rattle.mx_line.proofs.LineLemmas.{no-lines, first-line, last-line}
use Rattle.mx_asm.specs.Whole.{Line}
use Rattle.mx_line.specs.Bytes.{is_name_byte, run}
use Rattle.mx_marks.specs.Fields.{from_field}
use Rattle.mx_marks.specs.declared.fields.Field.TheVariants.{Operands, Operation}
use Rattle.mx_marks.specs.Mending.{front_label, is_value, label_alone, line_text, lines_with, value_text, with_label, with_line, with_newline, with_value}
use Rattle.mx_walk.specs.Walks.{ArePlain, IsPlain, text_of}

abbrev is_other : ℕ → Bool
is_other b = not (b == 10)

-- ---- the lines of a source have none

onto-plain : (b : ℕ) (ls : List Line) → (b == 10) ≡ false → ArePlain ls → ArePlain (onto_first b ls)
onto-plain b [] e h = (rw e refl, tt)
onto-plain b (l ∷ ls) e h = (rw e h.0, h.1)

split-plain : (text : List ℕ) → ArePlain (split 10 text)
unfolding split
split-plain [] = (refl, tt)
split-plain (b ∷ bs) =
    cond_both (b == 10) ([] ∷ slice_split (λ x. x == 10) bs) (onto_first b (slice_split (λ x. x == 10) bs)) ArePlain (λ e. (refl, split-plain bs)) (λ e. onto-plain b _ e (split-plain bs))

without-plain : (ls : List Line) → ArePlain ls → ArePlain (without_empty_last ls)
without-plain [] h = tt
without-plain ([] ∷ []) h = tt
without-plain ((b ∷ bs) ∷ []) h = h
without-plain (line ∷ next ∷ lines) h = (h.0, without-plain (next ∷ lines) h.1)

pub plain-lines : (source : List ℕ) → ArePlain (lines_of source)
unfolding lines_of
plain-lines source = without-plain (split 10 source) (split-plain source)

pub first-plain : (source rest : List ℕ) (line : Line) → lines_of source ≡ line ∷ lines_of rest → IsPlain line
first-plain source rest line e = (subst ArePlain e (plain-lines source)).0

-- ---- texts of lines

cut-first : (l rest : List ℕ) → IsPlain l → split 10 (l ++ 10 ∷ rest) ≡ l ∷ split 10 rest
unfolding split
cut-first [] rest all = refl
cut-first (b ∷ bs) rest all = search (rules, and_parts, cut-first bs rest)

pub line-first : (l rest : List ℕ) → IsPlain l → lines_of (with_newline l ++ rest) ≡ l ∷ lines_of rest
line-first l rest h = ap lines_of (append_assoc l (codes "\n") rest) ∙ first-line (l ++ 10 ∷ rest) l rest (cut-first l rest h)

pub text-lines : (ls : List Line) (rest : List ℕ) → ArePlain ls → lines_of (text_of ls ++ rest) ≡ ls ++ lines_of rest
text-lines [] rest h = refl
text-lines (l ∷ ls) rest h =
    ap lines_of (append_assoc (with_newline l) (text_of ls) rest) ∙ line-first l (text_of ls ++ rest) h.0 ∙ ap (λ x. l ∷ x) (text-lines ls rest h.1)

pub text-back : (ls : List Line) → ArePlain ls → lines_of (text_of ls) ≡ ls
text-back ls h = ap lines_of (sym (append-nil (text_of ls))) ∙ text-lines ls [] h ∙ ap (λ x. ls ++ x) no-lines ∙ append-nil ls

pub text-push : (ls : List Line) (line : Line) → text_of (ls ++ line ∷ []) ≡ text_of ls ++ with_newline line
text-push ls line = flat_map-append with_newline ls (line ∷ []) ∙ ap (λ x. text_of ls ++ x) (append-nil (with_newline line))

pub text-append : (ls more : List Line) → text_of (ls ++ more) ≡ text_of ls ++ text_of more
text-append ls more = flat_map-append with_newline ls more

-- a text without one is its only line
cut-whole : (l : List ℕ) → IsPlain l → split 10 l ≡ l ∷ []
unfolding split
cut-whole [] all = refl
cut-whole (b ∷ bs) all = search (rules, and_parts, cut-whole bs)

line-whole : (l : List ℕ) → IsPlain l → 0 < length l → lines_of l ≡ l ∷ []
line-whole l h some = last-line l l (cut-whole l h) some ∙ ap (λ x. l ∷ x) no-lines

-- ---- another text in place of a line

module _ (t line : Line) (later : List Line) where
  zero-with : (ls : List Line) → lines_with 0 t ls ≡ ls
  unfolding lines_with
  zero-with [] = refl
  zero-with (l ∷ ls) = ap (λ x. l ∷ x) (zero-with ls)

  with-at : (done : List Line) (k : ℕ) → k ≡ length done + 1 → lines_with k t (done ++ line ∷ later) ≡ done ++ t ∷ later
  unfolding lines_with
  with-at [] k e = let one : k ≡ 1 = omega (arith, e) in rw one (ap (λ x. t ∷ x) (zero-with later))
  with-at (d ∷ done) k e =
      let other : k ≢ 1 = omega (arith, e) in
      let less : k - 1 ≡ length done + 1 = omega (arith, e) in
      λ i. cond-false (k == 1) t d (other-test k 1 other) i ∷ with-at done (k - 1) less i

  text-at : (done : List Line) (k : ℕ) → k ≡ length done + 1 → line_text k (done ++ line ∷ later) ≡ line
  unfolding line_text
  text-at [] k e = let one : k ≡ 1 = omega (arith, e) in rw one refl
  text-at (d ∷ done) k e =
      let other : k ≢ 1 = omega (arith, e) in
      let less : k - 1 ≡ length done + 1 = omega (arith, e) in
      cond-false (k == 1) d _ (other-test k 1 other) ∙ text-at done (k - 1) less

  pub line-put : (done : List Line) (k : ℕ) → ArePlain (done ++ line ∷ later) → k ≡ length done + 1 → with_line k t (text_of (done ++ line ∷ later)) ≡ text_of (done ++ t ∷ later)
  unfolding with_line
  line-put done k plain e = ap (λ ls. text_of (lines_with k t ls)) (text-back (done ++ line ∷ later) plain) ∙ ap text_of (with-at done k e)

pub label-put : (line : Line) (later done : List Line) (k : ℕ) → ArePlain (done ++ line ∷ later) → k ≡ length done + 1 →
    with_label k (text_of (done ++ line ∷ later)) ≡ text_of (done ++ label_alone line ∷ later)
label-put line later done k plain e =
    ap (λ ls. with_line k (label_alone (line_text k ls)) (text_of (done ++ line ∷ later))) (text-back (done ++ line ∷ later) plain)
    ∙ ap (λ (l : Line). with_line k (label_alone l) (text_of (done ++ line ∷ later))) (text-at [] line later done k e)
    ∙ line-put (label_alone line) line later done k plain e

-- ---- what is left of a line

front-plain : (p : ℕ → Bool) (l : List ℕ) → IsPlain l → IsPlain (take_while p l)
front-plain p [] h = refl
front-plain p (b ∷ bs) h =
    let parts = and_parts (is_other b) (list_all is_other bs) h in
    subst IsPlain (sym (take_while-cons p b bs)) (cond_both (p b) (b ∷ take_while p bs) [] IsPlain (λ e. rw parts.0 (front-plain p bs parts.1)) (λ e. refl))

value-plain : (l v : Line) → IsPlain l → IsPlain v → IsPlain (with_value l v)
value-plain [] v h g = refl
value-plain (b ∷ bs) v h g = list_all-append is_other (b ∷ bs) v ∙ rw h g

is-plain : (l : Line) → IsPlain (is_value l)
is-plain l = search rules

text-plain : (operation operands : Line) → IsPlain (value_text operation operands)
text-plain operation operands = search (rules, is-plain)

label-front : (l : Line) → IsPlain l → IsPlain (front_label l)
label-front l h = search (rules, front-plain)

pub label-plain : (line : Line) → IsPlain line → IsPlain (label_alone line)
unfolding label_alone
label-plain line h =
    value-plain (front_label line) (value_text (run is_name_byte (from_field Operation line)) (from_field Operands line)) (label-front line h)
    (text-plain (run is_name_byte (from_field Operation line)) (from_field Operands line))

-- a line by itself of which the label alone is left
label-text : (line : Line) → IsPlain line → 0 < length line → with_label 1 line ≡ with_newline (label_alone line) ++ []
unfolding with_line lines_with line_text
label-text line h some = rw (line-whole line h some) refl

some-newline : (l : List ℕ) → 0 < length ((l ++ 10 ∷ []) ++ [])
some-newline l = omega (arith, length-append (l ++ 10 ∷ []) [], length-append l (10 ∷ []))

pub label-none : (line : Line) → length line ≡ 0 → label_alone line ≡ 32 ∷ []
unfolding label_alone
label-none [] e = refl
label-none (b ∷ bs) e = absurd (omega (arith, e))

pub label-some : (line : Line) (mended : List ℕ) → IsPlain line → 0 < length line → mended ≡ with_label 1 line → 0 < length mended
label-some line mended h some is = let e : mended ≡ (label_alone line ++ codes "\n") ++ [] = is ∙ label-text line h some in rw e (some-newline (label_alone line))

pub label-first : (line left rest mended : List ℕ) → IsPlain line → 0 < length line → mended ≡ with_label 1 line → lines_of mended ≡ left ∷ lines_of rest → left ≡ label_alone line
label-first line left rest mended h some is first =
    let e : lines_of mended ≡ label_alone line ∷ lines_of [] = ap lines_of (is ∙ label-text line h some) ∙ line-first (label_alone line) [] (label-plain line h) in cc

pub ruleset labels = (label-none, label-some, label-first)
