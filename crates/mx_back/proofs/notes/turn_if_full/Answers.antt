use Rattle.std.proofs.Common.{length, arith, ap}
use Rattle.mx_back.proofs.NoteLists.{full-notes, turned-notes}
use Rattle.mx_back.proofs.notes.turn_if_full.Goals as goal

pub returns-clause-same : goal.returns-clause-same
returns-clause-same c = λ kept l.
    let full = full-notes _ _ c.is_full.ensures c.if-not-is_full.false in
    turned-notes c.args.newer.now.items c.args.older.now.items c.turn.new.newer.items c.turn.new.older.items kept 1024 full l c.turn.ensures.none c.turn.ensures.moved

pub returns-clause-there : goal.returns-clause-there
returns-clause-there c = λ kept l m.
    let full = full-notes _ _ c.is_full.ensures c.if-not-is_full.false in
    omega (arith, l, full, ap length c.turn.ensures.none, ap length c.turn.ensures.moved)

pub returns-clause-fewer : goal.returns-clause-fewer
returns-clause-fewer c = omega (arith, ap length c.turn.ensures.none)
