use Rattle.std.proofs.Common.{◌+◌}
use Rattle.mx_con.specs.SessionPlans.{most_input}
use Rattle.mx_con.proofs.ListedSessions.{lines-begun, lines-went, lines-over, lines-limit}
use Rattle.mx_con.proofs.StepBounds.{within-self, within-then}
use Rattle.mx_con.proofs.sessions.all_lines.Goals as goal

pub loop-turn-init : goal.loop-turn-init
loop-turn-init g c = record {
  rest = lines-begun _ _ _ _ (most_input + 1) c.args.steps c.args.dialog.now;
  bound = within-self _ _;
}

pub loop-turn-preserved : goal.loop-turn-preserved
loop-turn-preserved g c = record {
  rest = lines-went _ _ _ _ _ _ _ _ _ _ _ _ _ _ c.loop-turn-test.true c.loop-turn.invariant.rest c.in-Ok.ensures.part;
  bound = within-then _ _ _ _ c.loop-turn.invariant.bound c.in-Ok.ensures.bound;
}

pub returns-in-Err-clause-part : goal.returns-in-Err-clause-part
returns-in-Err-clause-part g c = lines-over _ _ _ _ _ _ _ _ _ _ _ _ c.in-Err.end _ c.loop-turn-test.true c.loop-turn.invariant.rest c.in-Err.ensures.part

pub returns-clause-part : goal.returns-clause-part
returns-clause-part g c = lines-limit _ _ _ _ _ _ _ _ _ _ _ c.loop-turn-test.false c.loop-turn.invariant.rest
