use Rattle.std.proofs.Common.{sym, ◌∙◌}
use Rattle.mx_stab.proofs.Steps.{node-cut, node-wide, node-went}
use Rattle.mx_stab.proofs.reading.Reader.take_node.Goals as goal

pub returns-in_default-clause-same : goal.returns-in_default-clause-same
returns-in_default-clause-same c = λ _. node-cut c.args.due.now.items c.args.self.now c.place-node.result c.in_default.ensures.none.1 c.place-node.ensures

pub returns-then-is_wide_bare-clause-same : goal.returns-then-is_wide_bare-clause-same
returns-then-is_wide_bare-clause-same c = λ _.
    node-wide c.args.due.now.items c.args.self.now c.in-Some.m c.place-node.result c.in-Some.ensures.byte c.place-node.ensures (sym c.is_wide_bare.ensures ∙ c.if-is_wide_bare.true)

pub returns-clause-same : goal.returns-clause-same
returns-clause-same c = λ _.
    node-went c.args.due.now.items c.note_node.new.due.items c.args.self.now c.next_byte.new.self c.in-Some.m c.place-node.result
    c.in-Some.ensures.byte c.in-Some.ensures.some c.place-node.ensures (sym c.is_wide_bare.ensures ∙ c.if-is_wide_bare.false) c.in_ok-note_node.ensures.items
