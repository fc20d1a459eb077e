-- What a search that walks over lines finds.
use Rattle.std.proofs.Common.{◌≡◌, ◌≢◌, ℕ, zero, suc, ◌-◌, ◌<◌, ◌≤◌, true, false, List, [], ◌∷◌, ◌++◌, length, codes, append-nil, append_assoc, Option, None, Some, arith, refl, sym, ap, subst, ◌∙◌}
use Rattle.mx_line.specs.Lines.{lines_of}
use Rattle.mx_line.proofs.LineLemmas.{no-lines}
use Rattle.mx_stab.proofs.Orders.{all-both}
use Rattle.mx_asm.specs.Whole.{Line}
use Rattle.mx_asm.specs.declared.refused.Refused.{Refused}
use Rattle.mx_files.specs.Sources.{source_meaning}
use Rattle.mx_files.specs.declared.refusal.Refusal.{Refusal}
use Rattle.mx_marks.specs.Mending.{label_alone, with_blank, with_label, with_line, with_newline}
use Rattle.mx_walk.specs.Walks.{ArePlain, HasTurned, IsAt, IsPlain, IsRefused, IsText, Walk, text_of}
use Rattle.mx_walk.specs.declared.walk.Stop.{Stop}
use Rattle.mx_walk.proofs.PlainLines.{plain-lines, first-plain, text-back, line-put, label-put, label-plain}
use Rattle.mx_walk.proofs.Turns.{same-refusal, text-with}
use Rattle.mx_view.specs.declared.mending.Search.{Search}
use Rattle.mx_view.specs.declared.search.Finding.{Finding}
use Rattle.mx_view.specs.declared.search.Finding.TheVariants.{New, Again, Beyond, Whole}
use Rattle.mx_view.specs.declared.search.Looked.{Looked}
use Rattle.mx_view.specs.declared.search.Looked.TheVariants.{Next, Ended}
use Rattle.mx_view.specs.Listing.{refusal_in}
use Rattle.mx_view.specs.Mending.{HasGone, IsReplaced, IsStopped, IsTaken, is_found, left_as, to_come}
use Rattle.mx_view.specs.Search.{added_as, assembly_refusal, ended_as, found, found_with, kind_of, line_at_fault, looked_with, next_as}
use Rattle.mx_view.proofs.SearchTurns.{found-none, step}

-- ---- what is found goes by the lines of a source

same-run : (a b : List ℕ) → lines_of a ≡ lines_of b → refusal_in a ≡ refusal_in b
unfolding source_meaning
same-run a b e = rw e refl

same-label : (k : ℕ) (a b : List ℕ) → lines_of a ≡ lines_of b → with_label k a ≡ with_label k b
unfolding with_line
same-label k a b e = rw e refl

same-blank : (k : ℕ) (a b : List ℕ) → lines_of a ≡ lines_of b → with_blank k a ≡ with_blank k b
unfolding with_line
same-blank k a b e = rw e refl

same-next : (kind : Finding) (a b : List ℕ) (r : Refused) → lines_of a ≡ lines_of b → next_as kind a r ≡ next_as kind b r
same-next New a b r e = ap Next (same-label (line_at_fault r) a b e)
same-next Again a b r e = ap Next (same-blank (line_at_fault r) a b e)
same-next Beyond a b r e = refl
same-next Whole a b r e = refl

same-looked : (before : List Refused) (a b : List ℕ) (o : Option Refused) → lines_of a ≡ lines_of b → looked_with before a o ≡ looked_with before b o
same-looked before a b None e = ap (λ whole. Ended whole false) (same-run a b e)
same-looked before a b (Some r) e = same-next (kind_of before r) a b r e

-- what is found goes by the lines of a source
pub same-found : (n : ℕ) (before : List Refused) (a b : List ℕ) → lines_of a ≡ lines_of b → found n before a ≡ found n before b
unfolding found
same-found zero before a b e = refl
same-found (suc n) before a b e =
    ap (λ o. ended_as (found n) (found_with before o) (looked_with before a o)) (same-refusal a b e)
    ∙ ap (ended_as (found n) (found_with before (assembly_refusal b))) (same-looked before a b (assembly_refusal b) e)

-- ---- one source after another

pub found-once : (n : ℕ) (before lines : List Refused) (source : List ℕ) (r : Refused) (looked : Looked) → 0 < n → assembly_refusal source ≡ Some r →
    lines ≡ found_with before (Some r) → looked ≡ looked_with before source (Some r) → found n before source ≡ ended_as (found (n - 1)) lines looked
found-once n before lines source r looked some is are looks =
    step n before source some ∙ ap (λ o. ended_as (found (n - 1)) (found_with before o) (looked_with before source o)) is
    ∙ ap (λ l. ended_as (found (n - 1)) l (looked_with before source (Some r))) (sym are) ∙ ap (ended_as (found (n - 1)) lines) (sym looks)

pub found-nothing : (n : ℕ) (before : List Refused) (source : List ℕ) → n ≡ 0 → found n before source ≡ ended_as (found n) before (Ended None true)
found-nothing n before source e = found-none n before source (omega (arith, e))

pub found-all : (n : ℕ) (before : List Refused) (source : List ℕ) (whole : Option Refusal) → n ≢ 0 → assembly_refusal source ≡ None → whole ≡ refusal_in source →
    found n before source ≡ ended_as (found n) before (Ended whole false)
found-all n before source whole some is run =
    step n before source (omega (arith, some)) ∙ ap (λ o. ended_as (found (n - 1)) (found_with before o) (looked_with before source o)) is
    ∙ ap (λ x. ended_as (found (n - 1)) before (Ended x false)) (sym run)

-- ---- what is left of a line in its place

module _ (w : Walk) (text t : Line) (r : Refused) (later : List Line) where
  next-mended : (kind : Finding) → IsAt w → IsPlain text → ArePlain later → line_at_fault r ≡ w.number → Some t ≡ left_as kind text →
      next_as kind (w.front ++ text_of (text ∷ later)) r ≡ Next (w.front ++ text_of (t ∷ later))
  next-mended New h plain others at left =
      let both = all-both IsPlain h.text.lines (text ∷ later) h.text.plain (plain, others) in
      let is : t ≡ label_alone text = cc in
      ap Next (ap (with_label (line_at_fault r)) (text-with w.front h.text (text ∷ later))
      ∙ label-put text later h.text.lines (line_at_fault r) both (at ∙ h.number)
      ∙ ap (λ (l : Line). text_of (h.text.lines ++ l ∷ later)) (sym is) ∙ sym (text-with w.front h.text (t ∷ later)))
  next-mended Again h plain others at left =
      let both = all-both IsPlain h.text.lines (text ∷ later) h.text.plain (plain, others) in
      let is : t ≡ codes " " = cc in
      ap Next (ap (with_blank (line_at_fault r)) (text-with w.front h.text (text ∷ later))
      ∙ line-put (codes " ") text later h.text.lines (line_at_fault r) both (at ∙ h.number)
      ∙ ap (λ (l : Line). text_of (h.text.lines ++ l ∷ later)) (sym is) ∙ sym (text-with w.front h.text (t ∷ later)))
  next-mended Beyond h plain others at left = absurd (cc)
  next-mended Whole h plain others at left = absurd (cc)

  come-mended : (n : ℕ) (before : List Refused) → 0 < n → IsAt w → IsPlain text → ArePlain later → IsRefused w.front text r → line_at_fault r ≡ w.number →
      Some t ≡ left_as (kind_of before r) text → found n before (w.front ++ text_of (text ∷ later)) ≡ found (n - 1) (found_with before (Some r)) (w.front ++ text_of (t ∷ later))
  come-mended n before some h plain others refused at left =
      found-once n before (found_with before (Some r)) (w.front ++ text_of (text ∷ later)) r (looked_with before (w.front ++ text_of (text ∷ later)) (Some r)) some (refused later others) refl refl
      ∙ ap (ended_as (found (n - 1)) (found_with before (Some r))) (next-mended (kind_of before r) h plain others at left)

left-plain : (kind : Finding) (text t : Line) → IsPlain text → Some t ≡ left_as kind text → IsPlain t
left-plain New text t plain left = let is : t ≡ label_alone text = cc in subst IsPlain (sym is) (label-plain text plain)
left-plain Again text t plain left = let is : t ≡ codes " " = cc in rw is refl
left-plain Beyond text t plain left = absurd (cc)
left-plain Whole text t plain left = absurd (cc)

none-left : (kind : Finding) (before : List Refused) (r : Refused) (text : Line) → None ≡ left_as kind text → added_as kind before r ≡ before
none-left New before r text e = absurd (cc)
none-left Again before r text e = refl
none-left Beyond before r text e = refl
none-left Whole before r text e = refl

pub left-nothing : (before : List Refused) (r : Refused) (text : Line) → None ≡ left_as (kind_of before r) text → found_with before (Some r) ≡ before
left-nothing before r text e = none-left (kind_of before r) before r text e

pub left-is-plain : (before : List Refused) (r : Refused) (text t : Line) → IsPlain text → Some t ≡ left_as (kind_of before r) text → IsPlain t
left-is-plain before r text t plain left = left-plain (kind_of before r) text t plain left

pub replaced-so : (old new : Search) (stop : Stop) (t : Line) (next : Option Stop) → old.left ≢ 0 → IsAt old.walk → IsPlain stop.text → IsRefused old.walk.front stop.text stop.refused →
    line_at_fault stop.refused ≡ old.walk.number → Some t ≡ left_as (kind_of old.lines.items stop.refused) stop.text → new.left ≡ old.left - 1 →
    new.lines.items ≡ found_with old.lines.items (Some stop.refused) → HasTurned old.walk new.walk t next → IsReplaced old new stop.text next
replaced-so old new stop t next some h plain refused at left less are turned = record {
  text = t;
  plain = left-is-plain old.lines.items stop.refused stop.text t plain left;
  turned = turned;
  fewer = omega (arith, some, less);
  come = λ later others.
      come-mended old.walk stop.text t stop.refused later old.left old.lines.items (omega (arith, some)) h plain others refused at left
      ∙ ap (λ n. found n (found_with old.lines.items (Some stop.refused)) (old.walk.front ++ text_of (t ∷ later))) (sym less)
      ∙ ap (λ lines. found new.left lines (old.walk.front ++ text_of (t ∷ later))) (sym are);
}

-- ---- one text after another in the place of a line

same-text : (front next : List ℕ) → next ≡ front → IsText front → IsText next
same-text front next e h = record { lines = h.lines; plain = h.plain; is = e ∙ h.is }

same-come : (a b : Search) (later : List Line) → b.walk.front ≡ a.walk.front → b.left ≡ a.left → b.lines.items ≡ a.lines.items → to_come a later ≡ to_come b later
same-come a b later f n l =
    ap (λ (t : List ℕ). found a.left a.lines.items (t ++ text_of later)) (sym f) ∙ ap (λ m. found m a.lines.items (b.walk.front ++ text_of later)) (sym n)
    ∙ ap (λ lines. found b.left lines (b.walk.front ++ text_of later)) (sym l)

pub stopped-same : (a b c : Search) (line : Line) (stop : Stop) → IsStopped a b line stop → c.walk ≡ b.walk → c.left ≡ b.left → c.lines.items ≡ b.lines.items → IsStopped a c line stop
stopped-same a b c line stop h w n l =
    let front : c.walk.front ≡ b.walk.front = ap (λ (x : Walk). x.front) w in
    record {
      text = same-text b.walk.front c.walk.front front h.text;
      plain = h.plain;
      refused = subst (λ (t : List ℕ). IsRefused t stop.text stop.refused) (sym front) h.refused;
      at = λ kept. subst IsAt (sym w) (h.at kept);
      fewer = omega (arith, h.fewer, n);
      come = λ later plain. h.come later plain ∙ same-come b c (stop.text ∷ later) front n l;
    }

text-on : (front : List ℕ) (line : Line) (later : List Line) → front ++ text_of (line ∷ later) ≡ (front ++ with_newline line) ++ text_of later
text-on front line later = sym (append_assoc front (with_newline line) (text_of later))

pub taken-so : (a b c : Search) (line : Line) (stop : Stop) → IsStopped a b line stop → IsReplaced b c stop.text None → IsTaken a c line
taken-so a b c line stop h g = record {
  at = g.turned.0;
  fewer = omega (arith, h.fewer, g.fewer);
  come = λ later plain.
      h.come later plain ∙ g.come later plain
      ∙ ap (found c.left c.lines.items) (text-on b.walk.front g.text later ∙ ap (λ (t : List ℕ). t ++ text_of later) (sym g.turned.1));
}

-- the same line with its text
put-text : (front : List ℕ) (text t : Line) (r : Refused) → t ≡ text → IsRefused front text r → IsRefused front t r
put-text front text t r e h = subst (λ (l : Line). IsRefused front l r) (sym e) h

pub stopped-so : (a b c : Search) (line : Line) (stop next : Stop) → IsStopped a b line stop → IsReplaced b c stop.text (Some next) → IsStopped a c line next
stopped-so a b c line stop next h g = record {
  text = same-text b.walk.front c.walk.front g.turned.0 h.text;
  plain = subst IsPlain (sym g.turned.1) g.plain;
  refused = put-text c.walk.front g.text next.text next.refused g.turned.1 g.turned.2;
  at = g.turned.3;
  fewer = omega (arith, h.fewer, g.fewer);
  come = λ later plain.
      h.come later plain ∙ g.come later plain ∙ ap (λ (t : List ℕ). found c.left c.lines.items (t ++ text_of (g.text ∷ later))) (sym g.turned.0)
      ∙ ap (λ (l : Line). to_come c (l ∷ later)) (sym g.turned.1);
}

pub taken-first : (old new : Search) (line : Line) → new.left ≡ old.left → new.lines.items ≡ old.lines.items → HasTurned old.walk new.walk line None → IsTaken old new line
taken-first old new line n l turned = record {
  at = turned.0;
  fewer = omega (arith, n);
  come = λ later plain.
      ap (found old.left old.lines.items) (text-on old.walk.front line later ∙ ap (λ (t : List ℕ). t ++ text_of later) (sym turned.1))
      ∙ ap (λ m. found m old.lines.items (new.walk.front ++ text_of later)) (sym n) ∙ ap (λ lines. found new.left lines (new.walk.front ++ text_of later)) (sym l);
}

pub stopped-first : (old new : Search) (line : Line) (stop : Stop) → IsAt old.walk → IsPlain line → HasTurned old.walk new.walk line (Some stop) → IsStopped new new stop.text stop
stopped-first old new line stop h plain turned = record {
  text = same-text old.walk.front new.walk.front turned.0 h.text;
  plain = subst IsPlain (sym turned.1) plain;
  refused = put-text new.walk.front line stop.text stop.refused turned.1 turned.2;
  at = turned.3;
  fewer = omega arith;
  come = λ later others. refl;
}

from-first : (old mid : Search) (line : Line) (stop : Stop) (later : List Line) → mid.left ≡ old.left → mid.lines.items ≡ old.lines.items → HasTurned old.walk mid.walk line (Some stop) →
    to_come old (line ∷ later) ≡ to_come mid (stop.text ∷ later)
from-first old mid line stop later n l turned = same-come old mid (line ∷ later) turned.0 n l ∙ ap (λ (t : Line). to_come mid (t ∷ later)) (sym turned.1)

pub gone-first : (old mid new : Search) (line : Line) (stop : Stop) (gone : Option Stop) → mid.left ≡ old.left → mid.lines.items ≡ old.lines.items → HasTurned old.walk mid.walk line (Some stop) →
    HasGone mid new stop.text gone → HasGone old new line gone
gone-first old mid new line stop None n l turned h = record {
  at = h.at;
  fewer = omega (arith, h.fewer, n);
  come = λ later plain. from-first old mid line stop later n l turned ∙ h.come later plain;
}
gone-first old mid new line stop (Some next) n l turned h = record {
  text = h.text;
  plain = h.plain;
  refused = h.refused;
  at = h.at;
  fewer = omega (arith, h.fewer, n);
  come = λ later plain. from-first old mid line stop later n l turned ∙ h.come later plain;
}

pub ruleset mending = (left-nothing, left-is-plain, replaced-so, stopped-same, taken-so, stopped-so, taken-first, stopped-first, gone-first)

-- ---- where a walk ends

pub none-come : (n : ℕ) (before : List Refused) (front rest : List ℕ) → length rest ≡ 0 → found n before (front ++ text_of (lines_of rest)) ≡ found n before front
none-come n before front [] e = ap (λ ls. found n before (front ++ text_of ls)) no-lines ∙ ap (found n before) (append-nil front)
none-come n before front (b ∷ bs) e = absurd (omega (arith, e))

pub none-found : (n : ℕ) (before lines : List Refused) (source : List ℕ) → n ≤ 0 → lines ≡ before → found n before source ≡ record { lines = lines; whole = None; is_cut = true }
none-found n before lines source e is = subst (λ l. found n before source ≡ record { lines = l; whole = None; is_cut = true }) (sym is) (found-none n before source e)

pub all-come : (n : ℕ) (before : List Refused) (front source : List ℕ) → front ≡ [] → found n before (front ++ text_of (lines_of source)) ≡ found n before source
all-come n before front source e =
    ap (λ (t : List ℕ). found n before (t ++ text_of (lines_of source))) e ∙ same-found n before (text_of (lines_of source)) source (text-back (lines_of source) (plain-lines source))

pub next-come : (a b : Search) (source rest : List ℕ) (line : Line) → lines_of source ≡ line ∷ lines_of rest → IsTaken a b line → to_come a (lines_of source) ≡ to_come b (lines_of rest)
next-come a b source rest line e h = ap (to_come a) e ∙ h.come (lines_of rest) (plain-lines rest)

pub stop-come : (a b : Search) (source rest next : List ℕ) (line : Line) (stop : Stop) → lines_of source ≡ line ∷ lines_of rest → IsStopped a b line stop →
    lines_of next ≡ lines_of (b.walk.front ++ text_of (stop.text ∷ lines_of rest)) → to_come a (lines_of source) ≡ is_found b next
stop-come a b source rest next line stop e h is = ap (to_come a) e ∙ h.come (lines_of rest) (plain-lines rest) ∙ same-found b.left b.lines.items _ next (sym is)

pub stop-refused : (a b : Search) (rest next : List ℕ) (line : Line) (stop : Stop) → IsStopped a b line stop → lines_of next ≡ lines_of (b.walk.front ++ text_of (stop.text ∷ lines_of rest)) →
    assembly_refusal next ≡ Some stop.refused
stop-refused a b rest next line stop h is = same-refusal next _ is ∙ h.refused (lines_of rest) (plain-lines rest)

pub ruleset looking = (found-once, found-nothing, found-all)

pub ruleset walks = (none-come, all-come, next-come, stop-come, stop-refused, first-plain)
