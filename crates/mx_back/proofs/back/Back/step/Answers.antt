use Rattle.mx_core.specs.Kept.{state_of}
use Rattle.mx_back.proofs.Histories.{went-kept, went-fits}
use Rattle.mx_back.proofs.back.Back.step.Goals as goal

pub returns-in-Went-clause-kept : goal.returns-in-Went-clause-kept
returns-in-Went-clause-kept c =
    went-kept c.self.inside.notes c.push.new.self c.in-Went.note c.args.self.now (state_of c.args.m.now) (state_of c.step_noted.new.self) c.self.view_is c.push.ensures c.in-Went.ensures.back

pub returns-in-Went-clause-fits : goal.returns-in-Went-clause-fits
returns-in-Went-clause-fits c =
    went-fits c.self.inside.notes c.push.new.self c.in-Went.note c.args.self.now (state_of c.args.m.now) (state_of c.step_noted.new.self) c.self.view_is c.push.ensures c.in-Went.ensures.back c.requires
