use Rattle.std.proofs.Common.{ap, ◌∙◌}
use Rattle.mx_stab.proofs.Words.{is_above, is_among}
use Rattle.mx_stab.proofs.NameSets.{above-not-among}
use Rattle.mx_stab.proofs.found.Found.has.Goals as goal

pub returns-in-Some : goal.returns-in-Some
returns-in-Some c = c.contains.ensures ∙ c.self.invariant.1 c.in-Some.names c.in-Some.is c.args.name.now ∙ ap (is_among c.args.name.now) c.self.view_is

pub returns-else-not-is_above : goal.returns-else-not-is_above
returns-else-not-is_above c =
    above-not-among c.self.inside.symbols c.args.self.now c.args.name.now _ (c.self.invariant.0 c.in-None.is) (c.is_above.ensures ∙ ap (is_above c.args.name.now) c.as_slice.ensures) c.if-not-is_above.false c.self.view_is
