use Rattle.mx_con.proofs.StepBounds.{within-self, within-then}
use Rattle.mx_con.proofs.StepPlans.{runs-begun, runs-went, runs-paused, runs-over, runs-spent}
use Rattle.mx_con.proofs.steps.go_on.Goals as goal

pub loop-turn-init : goal.loop-turn-init
loop-turn-init g c = record {
  rest = runs-begun _ _ _ c.args.steps c.steps_left-most.result _ _ c.steps_left-most.ensures;
  bound = within-self _ _;
}

pub loop-turn-preserved : goal.loop-turn-preserved
loop-turn-preserved g c = record {
  rest = runs-went _ _ _ _ _ _ _ _ _ _ _ _ _ c.loop-turn-test.true c.loop-turn.invariant.rest (rw c.in-Ok-true.field-0-test at c.in-Ok-true.ensures.part);
  bound = within-then _ _ _ _ c.loop-turn.invariant.bound c.in-Ok-true.ensures.bound;
}

pub returns-in-Ok-false-clause-part : goal.returns-in-Ok-false-clause-part
returns-in-Ok-false-clause-part g c =
    runs-paused _ _ _ _ _ _ _ _ _ _ _ _ _ c.loop-turn-test.true c.loop-turn.invariant.rest (rw c.in-Ok-false.field-0-test at c.in-Ok-false.ensures.part)

pub returns-in-Err-clause-part : goal.returns-in-Err-clause-part
returns-in-Err-clause-part g c = runs-over _ _ _ _ _ _ _ _ _ _ _ _ c.in-Err.end _ c.loop-turn-test.true c.loop-turn.invariant.rest c.in-Err.ensures.part

pub returns-clause-part : goal.returns-clause-part
returns-clause-part g c = runs-spent _ _ _ _ _ _ _ _ _ _ _ c.loop-turn-test.false c.loop-turn.invariant.rest
