use Rattle.std.proofs.Common.{◌∙◌, refl, rules, subst, sym}
use Rattle.mx_walk.specs.Walks.{HasTurned}
use Rattle.mx_view.proofs.MendedLines.{replaced-so}
use Rattle.mx_view.proofs.mending.replace.Goals as goal

pub returns-in_ok-take-in-Some : goal.returns-in_ok-take-in-Some
returns-in_ok-take-in-Some c =
    replaced-so c.args.s.now _ c.args.stop.now c.in-Some.text c.in_ok-take-in-Some.field-0 (search rules) c.requires.at c.requires.plain c.requires.refused (search rules)
    (sym c.in-Some.is ∙ c.in_ok-add_found.ensures.left) refl c.in_ok-add_found.ensures.lines
    (subst (λ l. HasTurned c.args.s.now.walk c.take.new.self l c.in_ok-take-in-Some.field-0) c.as_slice.ensures c.in_ok-take-in-Some.ensures)
