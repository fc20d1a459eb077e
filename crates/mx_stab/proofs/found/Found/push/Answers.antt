use Rattle.std.proofs.Common.{ap, sym, ◌∙◌}
use Rattle.mx_stab.specs.Names.{is_above}
use Rattle.mx_stab.proofs.NameSets.{order-added}
use Rattle.mx_stab.proofs.found.Found.push.Goals as goal

pub invariant_of-self : goal.invariant_of-self
invariant_of-self c = (
  λ e. order-added c.push.result c.self.inside.symbols c.push.new.self _ c.args.name.now c.push.ensures.ok c.push.ensures.err (c.self.invariant.0 e) (sym c.in_ok-copy.ensures)
      (sym c.if-is_above.true ∙ c.is_above.ensures ∙ ap (is_above c.args.name.now) c.as_slice.ensures),
  λ x e. absurd (cc),
)
