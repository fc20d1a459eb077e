-- The turns of a walk.
use Rattle.std.proofs.Common.{◌≡◌, ◌≢◌, IfOk, IfErr, subst, ℕ, ◌+◌, Bool, true, false, cond, List, [], ◌∷◌, ◌++◌, fold, length, length-append, append_assoc, codes, Option, None, Some, Ok, Err, arith, refl, sym, ap, ◌∙◌}
use Rattle.std.specs.Result.{result_err}
use Rattle.std.proofs.lemmas.List.Sums.{fold-append}
use Rattle.mx_word.specs.Results.{map_ok}
use Rattle.mx_word.specs.declared.waits.Wait.{Wait}
use Rattle.mx_line.specs.Lines.{lines_of}
use Rattle.mx_mmo.specs.declared.items.Item.{Item}
use Rattle.mx_stab.proofs.Orders.{all-both}
use Rattle.mx_asm.specs.OnePass.{Assembly, Ended, Progress, Status, beginning, end_following, ended_main, ended_waits, line_answer, line_following, opened, status_with, with_opening, Tried}
use Rattle.mx_asm.specs.Faults.{no_memory}
use Rattle.mx_asm.specs.Whole.{Line, assembled_lines, line_after, lines_taken}
use Rattle.mx_asm.specs.declared.faults.AsmFault.{AsmFault}
use Rattle.mx_asm.specs.declared.refused.Refused.{Refused}
use Rattle.mx_asm.proofs.InTurn.{line-following, refusal-stays}
use Rattle.mx_asm.proofs.EndLaw.{whole-is}
use Rattle.mx_marks.specs.Mending.{with_newline}
use Rattle.mx_walk.specs.declared.walk.Stop.{Stop}
use Rattle.mx_walk.specs.Walks.{HasTurned, ArePlain, IsAt, IsPlain, IsRefused, IsText, Walk, source_refusal, text_of}
use Rattle.mx_walk.proofs.PlainLines.{plain-lines, line-first, text-lines, text-back, text-push, text-append}

-- ---- statuses, but for whether the opening was added

-- what a line leaves
abbrev after : Status → Line → Status
after a t = (line_following [] a t).1

opened-line : (a : Assembly) (t : Line) → after (Ok a) t ≡ after (Ok (opened a)) t
opened-line a t = ap (λ (p : Progress). p.1) (line-following (with_opening a.opened []) (Ok (opened a)) t)

opened-after : (a : Status) (t : Line) → after a t ≡ after (map_ok opened a) t
opened-after (Ok a) t = opened-line a t
opened-after (Err r) t = refl

same-after : (a b : Status) (t : Line) → map_ok opened a ≡ map_ok opened b → after a t ≡ after b t
same-after a b t e = opened-after a t ∙ ap (λ s. after s t) e ∙ sym (opened-after b t)

trie-alike : (long : Bool) (out next more others : List Item) (r : Refused) (trie : List ℕ) →
    (cond {A = Ended} long (out, Err r) (out ++ more, Ok trie)).1 ≡ (cond {A = Ended} long (next, Err r) (next ++ others, Ok trie)).1
trie-alike true out next more others r trie = refl
trie-alike false out next more others r trie = refl

main-alike : (f : Option AsmFault) (out next : List Item) (a : Assembly) → (ended_main out a f).1 ≡ (ended_main next (opened a) f).1
main-alike (Some fault) out next a = refl
main-alike None out next a = trie-alike _ out next _ _ _ _

waits-alike : (w : Option Wait) (out next : List Item) (a : Assembly) → (ended_waits out a w).1 ≡ (ended_waits next (opened a) w).1
waits-alike (Some wait) out next a = refl
waits-alike None out next a = main-alike _ out next a

opened-end : (a : Status) (out next : List Item) → (end_following out a).1 ≡ (end_following next (map_ok opened a)).1
opened-end (Ok a) out next = waits-alike _ _ _ a
opened-end (Err r) out next = refl

same-end : (a b : Status) (out next : List Item) → map_ok opened a ≡ map_ok opened b → (end_following out a).1 ≡ (end_following next b).1
same-end a b out next e = opened-end a out [] ∙ ap (λ s. (end_following [] s).1) e ∙ sym (opened-end b next [])

opened-twice : (a : Status) → map_ok opened (map_ok opened a) ≡ map_ok opened a
opened-twice (Ok a) = refl
opened-twice (Err r) = refl

-- ---- lines that were taken, and one more

next-after : (p : Progress) (line : Line) → (line_after p line).1 ≡ after p.1 line
next-after p line = ap (λ (q : Progress). q.1) (line-following p.0 p.1 line)

taken-push : (lines : List Line) (line : Line) → (lines_taken (lines ++ line ∷ [])).1 ≡ after (lines_taken lines).1 line
taken-push lines line = ap (λ (p : Progress). p.1) (fold-append line_after ([], Ok beginning) lines (line ∷ [])) ∙ next-after (lines_taken lines) line

stays : (p : Progress) (later : List Line) (r : Refused) → p.1 ≡ Err r → (fold line_after p later).1 ≡ Err r
stays p later r e = ap (λ (s : Status). (fold line_after (p.0, s) later).1) e ∙ ap (λ (q : Progress). q.1) (refusal-stays later p.0 r)

taken-refused : (done later : List Line) (line : Line) (r : Refused) → after (lines_taken done).1 line ≡ Err r → (lines_taken (done ++ line ∷ later)).1 ≡ Err r
taken-refused done later line r e =
    ap (λ (p : Progress). p.1) (fold-append line_after ([], Ok beginning) done (line ∷ later)) ∙ stays (line_after (lines_taken done) line) later r (next-after (lines_taken done) line ∙ e)

-- ---- what a source is refused with

pub same-refusal : (a b : List ℕ) → lines_of a ≡ lines_of b → source_refusal a ≡ source_refusal b
same-refusal a b e = ap (λ ls. result_err (assembled_lines ls).1) e

end-refusal : (lines : List Line) → result_err (assembled_lines lines).1 ≡ result_err (end_following (lines_taken lines).0 (lines_taken lines).1).1
end-refusal lines = ap (λ (e : Ended). result_err e.1) (sym (whole-is lines))

refused-here : (done later : List Line) (line : Line) (r : Refused) → ArePlain (done ++ line ∷ later) → after (lines_taken done).1 line ≡ Err r → source_refusal (text_of (done ++ line ∷ later)) ≡ Some r
refused-here done later line r plain e =
    let lines = done ++ line ∷ later in
    ap (λ ls. result_err (assembled_lines ls).1) (text-back lines plain) ∙ end-refusal lines ∙ ap (λ (s : Status). result_err (end_following (lines_taken lines).0 s).1) (taken-refused done later line r e)

-- ---- turns of a walk

-- the text of lines that were taken, with more lines
pub text-with : (front : List ℕ) (h : IsText front) (more : List Line) → front ++ text_of more ≡ text_of (h.lines ++ more)
text-with front h more = ap (λ (t : List ℕ). t ++ text_of more) h.is ∙ sym (text-append h.lines more)

pub at-start : (w : Walk) → w.assembler ≡ Ok beginning → w.front ≡ [] → w.number ≡ 1 → IsAt w
at-start w a f n = record { text = record { lines = []; plain = tt; is = f }; status = ap (map_ok opened) a; number = n }

pub at-next : (w v : Walk) (line : Line) (items : List Item) → IsAt w → IsPlain line → (items, v.assembler) ≡ line_following [] w.assembler line →
    v.front ≡ w.front ++ with_newline line → v.number ≡ w.number + 1 → IsAt v
at-next w v line items h plain is front number =
    let lines = h.text.lines in
    let size : length (lines ++ line ∷ []) ≡ length lines + 1 = length-append lines (line ∷ []) in
    record {
      text = record {
        lines = lines ++ line ∷ [];
        plain = all-both IsPlain lines (line ∷ []) h.text.plain (plain, tt);
        is = front ∙ ap (λ (t : List ℕ). t ++ with_newline line) h.text.is ∙ sym (text-push lines line);
      };
      status =
          ap (map_ok opened) (ap (λ (p : Progress). p.1) is ∙ same-after w.assembler (lines_taken lines).1 line h.status
          ∙ sym (taken-push lines line));
      number = omega (arith, number, h.number, size);
    }

pub at-kept : (w v : Walk) → IsAt w → v.assembler ≡ map_ok opened w.assembler → v.front ≡ w.front → v.number ≡ w.number → IsAt v
at-kept w v h a f n = record {
  text = record { lines = h.text.lines; plain = h.text.plain; is = f ∙ h.text.is };
  status = ap (map_ok opened) a ∙ opened-twice w.assembler ∙ h.status;
  number = n ∙ h.number;
}

pub refused-at : (w : Walk) (line : Line) (items : List Item) (r : Refused) → IsAt w → IsPlain line → (items, Err r) ≡ line_following [] w.assembler line → IsRefused w.front line r
refused-at w line items r h plain is = λ later others.
    ap source_refusal (text-with w.front h.text (line ∷ later))
    ∙ refused-here h.text.lines later line r (all-both IsPlain h.text.lines (line ∷ later) h.text.plain (plain, others))
    (sym (same-after w.assembler (lines_taken h.text.lines).1 line h.status) ∙ sym (ap (λ (p : Progress). p.1) is))

-- ---- what the assembler answers

module _ (w x : Walk) (line : Line) (out items : List Item) (a : Status) (t : Tried) where
  pub took : (v : Walk) (u : Unit {0}) → IsAt w → IsPlain line → x ≡ w → out ≡ [] → t ≡ Ok (Ok u) →
      (line_answer t ≢ Err no_memory → (items, status_with (line_answer t) a) ≡ line_following out x.assembler line) →
      v ≡ record { assembler = a; front = x.front ++ with_newline line; number = x.number + 1 } → HasTurned w v line None
  took v u h plain same none is taken e =
      let taken_so : (items, a) ≡ line_following [] x.assembler line = subst (λ l. (items, a) ≡ line_following l x.assembler line) none (subst (λ q. line_answer q ≢ Err no_memory → (items, status_with (line_answer q) a) ≡ line_following out x.assembler line) is taken (λ m. cc)) in (
        at-next x v line items (subst IsAt (sym same) h) plain (ap (λ (y : Walk). (items, y.assembler)) e ∙ taken_so) (ap (λ (y : Walk). y.front) e) (ap (λ (y : Walk). y.number) e),
        ap (λ (y : Walk). y.front) e ∙ ap (λ (y : Walk). y.front ++ with_newline line) same,
      )

  refused-so : (r : Refused) → IsAt x → IsPlain line → out ≡ [] → line_answer t ≡ Err r → r ≢ no_memory →
      (line_answer t ≢ Err no_memory → (items, status_with (line_answer t) a) ≡ line_following out x.assembler line) → IsRefused x.front line r
  refused-so r h plain none is memory taken =
      let taken_so : (items, Err r) ≡ line_following [] x.assembler line =
      subst (λ l. (items, Err r) ≡ line_following l x.assembler line) none
      (subst (λ q. q ≢ Err no_memory → (items, status_with q a) ≡ line_following out x.assembler line) is taken (λ m. let same : r ≡ no_memory = cc in memory same)) in
      refused-at x line items r h plain taken_so

  pub left-out : (r : Refused) (s : Stop) → IsAt w → IsPlain line → x ≡ w → out ≡ [] → t ≡ Ok (Err r) → r ≢ no_memory →
      (line_answer t ≢ Err no_memory → (items, status_with (line_answer t) a) ≡ line_following out x.assembler line) →
      IfOk t (λ answer. IfErr answer (λ (q : Refused). a ≡ map_ok opened x.assembler)) → s ≡ record { text = line; refused = r; is_kept = true } →
      HasTurned w (record { assembler = a; front = x.front; number = x.number }) line (Some s)
  left-out r s h plain same none is memory taken kept e =
      let at = subst IsAt (sym same) h in
      let left : a ≡ map_ok opened x.assembler = subst (λ q. IfOk q (λ answer. IfErr answer (λ (f : Refused). a ≡ map_ok opened x.assembler))) is kept in (
        ap (λ (y : Walk). y.front) same,
        ap (λ (y : Stop). y.text) e,
        subst (IsRefused x.front line) (sym (ap (λ (y : Stop). y.refused) e)) (refused-so r at plain none (ap line_answer is) memory taken),
        λ k. at-kept x (record { assembler = a; front = x.front; number = x.number }) at left refl refl,
      )

  pub lost : (r : Refused) (s : Stop) → IsAt w → IsPlain line → x ≡ w → out ≡ [] → t ≡ Err r → r ≢ no_memory →
      (line_answer t ≢ Err no_memory → (items, status_with (line_answer t) a) ≡ line_following out x.assembler line) → s ≡ record { text = line; refused = r; is_kept = false } →
      HasTurned w (record { assembler = a; front = x.front; number = x.number }) line (Some s)
  lost r s h plain same none is memory taken e = (
    ap (λ (y : Walk). y.front) same,
    ap (λ (y : Stop). y.text) e,
    subst (IsRefused x.front line) (sym (ap (λ (y : Stop). y.refused) e)) (refused-so r (subst IsAt (sym same) h) plain none (ap line_answer is) memory taken),
    λ k. let no : s.is_kept ≡ false = ap (λ (y : Stop). y.is_kept) e in absurd (cc),
  )

-- ---- where a walk ends

pub end-refused : (w : Walk) (out : List Item) → IsAt w → source_refusal w.front ≡ result_err (end_following out w.assembler).1
end-refused w out h =
    ap (λ ls. result_err (assembled_lines ls).1) (ap lines_of h.text.is ∙ text-back h.text.lines h.text.plain) ∙ end-refusal h.text.lines
    ∙ ap result_err (sym (same-end w.assembler (lines_taken h.text.lines).1 out (lines_taken h.text.lines).0 h.status))

-- the source that a text is refused in
pub text-source : (front rest : List ℕ) (text : Line) → IsText front → IsPlain text → lines_of (front ++ (with_newline text ++ rest)) ≡ lines_of (front ++ text_of (text ∷ lines_of rest))
text-source front rest text h plain =
    let first : lines_of (front ++ (with_newline text ++ rest)) ≡ h.lines ++ text ∷ lines_of rest =
    ap (λ (t : List ℕ). lines_of (t ++ (with_newline text ++ rest))) h.is ∙ text-lines h.lines (with_newline text ++ rest) h.plain ∙ ap (λ l. h.lines ++ l) (line-first text rest plain) in
    let second : lines_of (front ++ text_of (text ∷ lines_of rest)) ≡ h.lines ++ text ∷ lines_of rest =
    ap lines_of (text-with front h (text ∷ lines_of rest)) ∙ text-back (h.lines ++ text ∷ lines_of rest) (all-both IsPlain h.lines (text ∷ lines_of rest) h.plain (plain, plain-lines rest)) in
    first ∙ sym second

-- the same as it is joined
pub source-joined : (front rest : List ℕ) (text : Line) → IsText front → IsPlain text →
    lines_of (((front ++ text) ++ codes "\n") ++ rest) ≡ lines_of (front ++ (with_newline text ++ text_of (lines_of rest)))
source-joined front rest text h plain =
    ap lines_of (append_assoc (front ++ text) (codes "\n") rest ∙ append_assoc front text (codes "\n" ++ rest) ∙ ap (λ x. front ++ x) (sym (append_assoc text (codes "\n") rest)))
    ∙ text-source front rest text h plain

pub ruleset taking = (at-start, at-next, at-kept, refused-at, end-refused, source-joined)
