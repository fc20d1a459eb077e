use Rattle.mx_core.specs.Kept.{state_of}
use Rattle.mx_back.proofs.Histories.{popped-fits, popped-rest, popped-back, none-popped}
use Rattle.mx_back.proofs.back.Back.back.Goals as goal

pub undo-requires : goal.undo-requires
undo-requires c = popped-fits c.self.inside.notes c.args.self.now c.in-Some.note (state_of c.args.m.now) c.self.view_is c.in-Some.ensures.value c.requires

pub returns-in_default-clause-same : goal.returns-in_default-clause-same
returns-in_default-clause-same c = none-popped c.self.inside.notes c.pop.new.self c.args.self.now c.self.view_is c.in_default.ensures.value c.in_default.ensures.rest

pub returns-clause-ok : goal.returns-clause-ok
returns-clause-ok c = popped-back c.self.inside.notes c.pop.new.self c.args.self.now c.in-Some.note (state_of c.args.m.now) (state_of c.undo.new.self) c.self.view_is c.in-Some.ensures.value c.in-Some.ensures.rest c.undo.ensures

pub returns-clause-fits : goal.returns-clause-fits
returns-clause-fits c = popped-rest c.self.inside.notes c.pop.new.self c.args.self.now c.in-Some.note (state_of c.args.m.now) (state_of c.undo.new.self) c.self.view_is c.in-Some.ensures.value c.in-Some.ensures.rest c.undo.ensures c.requires
