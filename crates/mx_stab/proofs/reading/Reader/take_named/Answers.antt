use Rattle.std.proofs.Common.{arith}
use Rattle.mx_stab.proofs.Steps.{symbol-went}
use Rattle.mx_stab.proofs.reading.Reader.take_named.Goals as goal

pub returns-clause-same : goal.returns-clause-same
returns-clause-same c = λ _.
    symbol-went c.args.due.now.items c.note_symbol.new.due.items c.args.self.now c.take_symbol.new.self c.args.depth c.args.node c.args.m
    (omega (arith, c.depth.ensures, c.if-depth-gt-LONGEST.false)) (c.in_ok-take_symbol.ensures.same (λ e. cc)) c.in_ok-note_symbol.ensures.items
