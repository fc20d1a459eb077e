use Rattle.mx_con.specs.Clauses.{world_of, StepsWithin}
use Rattle.mx_con.specs.SessionPlans.{continued_plan}
use Rattle.mx_core.specs.Kept.{state_of}
use Rattle.mx_con.proofs.StepPlans.{RunsLeft}
use Rattle.mx_con.proofs.steps.go_on.Given as goal

abbrev pub invariant-loop-turn : goal.invariant-loop-turn
invariant-loop-turn g l = record {
  rest : RunsLeft g.H.Host.told g.H.Host.faults l.fn.host l.host (world_of l.fn.runner (g.H.Host.told l.fn.host)) (world_of l.runner (g.H.Host.told l.host))
      l.most l.turn l.fn.steps l.pass (continued_plan l.fn.steps);
  bound : StepsWithin l.fn.steps (state_of l.fn.runner.machine) (state_of l.runner.machine);
}
