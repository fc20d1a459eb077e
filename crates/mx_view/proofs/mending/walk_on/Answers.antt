use Rattle.std.proofs.Common.{◌≡◌, ◌++◌, ◌∷◌, ◌∙◌, ℕ, List, IfOk, ap, subst, sym}
use Rattle.mx_line.specs.Lines.{lines_of}
use Rattle.mx_walk.specs.Walks.{text_of}
use Rattle.mx_view.specs.Mending.{HasGone, is_found_by}
use Rattle.mx_view.proofs.MendedLines.{stop-come, stop-refused}
use Rattle.mx_view.proofs.mending.walk_on.Goals as goal

pub look-requires : goal.look-requires
look-requires c =
    let gone = subst (λ m. HasGone c.loop-rest.s c.take_or_mend.new.s c.cut_line.result.0.now m) c.in-Some.is c.in_ok-stop.ensures in
    stop-refused c.loop-rest.s c.take_or_mend.new.s c.cut_line.result.1.now c.as_slice-in-Some.result.now c.cut_line.result.0.now c.in-Some.stop gone
    (ap lines_of c.as_slice-in-Some.ensures ∙ c.in_ok-source.ensures
    ∙ ap (λ (t : List ℕ). lines_of (c.take_or_mend.new.s.walk.front ++ text_of (t ∷ lines_of c.cut_line.result.1.now))) c.as_slice.ensures)

pub returns-in-Some-clause-looked : goal.returns-in-Some-clause-looked
returns-in-Some-clause-looked c =
    let gone = subst (λ m. HasGone c.loop-rest.s c.take_or_mend.new.s c.cut_line.result.0.now m) c.in-Some.is c.in_ok-stop.ensures in
    let come =
    stop-come c.loop-rest.s c.take_or_mend.new.s c.loop-rest.rest.now c.cut_line.result.1.now c.as_slice-in-Some.result.now c.cut_line.result.0.now c.in-Some.stop c.cut_line.ensures.line gone
    (ap lines_of c.as_slice-in-Some.ensures ∙ c.in_ok-source.ensures
    ∙ ap (λ (t : List ℕ). lines_of (c.take_or_mend.new.s.walk.front ++ text_of (t ∷ lines_of c.cut_line.result.1.now))) c.as_slice.ensures) in
    subst (λ x. IfOk c.look.result (λ looked. x ≡ is_found_by c.look.new.s looked)) (sym (c.loop-rest.invariant.2 ∙ come)) c.look.ensures.looked
