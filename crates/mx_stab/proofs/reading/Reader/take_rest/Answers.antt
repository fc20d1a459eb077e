use Rattle.std.proofs.Common.{sym, ◌∙◌}
use Rattle.mx_stab.proofs.Steps.{bare-went, rest-went}
use Rattle.mx_stab.proofs.reading.Reader.take_rest.Goals as goal

pub returns-then-not-has_character-clause-same : goal.returns-then-not-has_character-clause-same
returns-then-not-has_character-clause-same c = λ _.
    bare-went c.args.due.now.items c.note_subtrie.new.due.items c.args.self.now c.args.m c.args.node _ (sym c.has_character.ensures ∙ c.if-not-has_character.true) c.has.ensures c.in_ok-note_subtrie.ensures.items

pub returns-clause-same : goal.returns-clause-same
returns-clause-same c = λ ne.
    rest-went c.args.due.now.items c.args.self.now c.take_character.new.self _ c.depth-depth.result c.args.node c.args.m (sym c.has_character.ensures ∙ c.if-not-has_character.false) c.depth-depth.ensures
    (c.in_ok-take_character.ensures.same (λ e. cc)) (c.take_named.ensures.same ne)
