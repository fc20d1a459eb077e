use Rattle.mx_core.specs.Kept.{state_of}
use Rattle.mx_back.proofs.Histories.{went-kept, went-fits}
use Rattle.mx_back.proofs.back.Back.step_if_usual.Goals as goal

pub returns-in-Some-clause-kept : goal.returns-in-Some-clause-kept
returns-in-Some-clause-kept c = λ t.
    went-kept c.self.inside.notes c.push.new.self c.in-Some.note c.args.self.now (state_of c.args.m.now) (state_of c.advance_noted.new.self) c.self.view_is c.push.ensures c.in-Some.ensures.back

pub returns-in-Some-clause-fits : goal.returns-in-Some-clause-fits
returns-in-Some-clause-fits c =
    went-fits c.self.inside.notes c.push.new.self c.in-Some.note c.args.self.now (state_of c.args.m.now) (state_of c.advance_noted.new.self) c.self.view_is c.push.ensures c.in-Some.ensures.back c.requires
