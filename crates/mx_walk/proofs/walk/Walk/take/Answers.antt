use Rattle.mx_walk.proofs.Turns.{took, left-out, lost}
use Rattle.mx_walk.proofs.walk.Walk.take.Goals as goal

pub returns-in-Ok-Ok : goal.returns-in-Ok-Ok
returns-in-Ok-Ok c =
    took c.args.self.now _ c.args.line.now c.new-items.result c.try_line.new.out c.try_line.new.self c.try_line.result c.add.new.self c.in-Ok-Ok.field-0-0 c.requires.at c.requires.plain c.self.view_is c.new-items.ensures (cc)
    c.try_line.ensures.taken c.in_ok-add-in-Ok-Ok.ensures

pub returns-in-Ok-Err : goal.returns-in-Ok-Err
returns-in-Ok-Err c =
    left-out c.args.self.now _ c.args.line.now c.new-items.result c.try_line.new.out c.try_line.new.self c.try_line.result c.in-Ok-Err.refused c.in_ok-make_stop-in-Ok-Err.field-0 c.requires.at c.requires.plain c.self.view_is
    c.new-items.ensures (cc) c.in_ok-make_stop-in-Ok-Err.ensures.memory c.try_line.ensures.taken c.try_line.ensures.kept c.in_ok-make_stop-in-Ok-Err.ensures.stop

pub returns : goal.returns
returns c =
    lost c.args.self.now _ c.args.line.now c.new-items.result c.try_line.new.out c.try_line.new.self c.try_line.result c.in-Err.refused c.in_ok-make_stop-in-Err.field-0 c.requires.at c.requires.plain c.self.view_is c.new-items.ensures
    (cc) c.in_ok-make_stop-in-Err.ensures.memory c.try_line.ensures.taken c.in_ok-make_stop-in-Err.ensures.stop
