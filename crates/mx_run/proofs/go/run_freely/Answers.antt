use Rattle.mx_run.proofs.FreeRuns.{free-run}
use Rattle.mx_run.proofs.Runners.{run-is}
use Rattle.mx_run.proofs.go.run_freely.Goals as goal

pub returns-clause-plan : goal.returns-clause-plan
returns-clause-plan g c = λ t. (free-run _ _ _ _ _ c.new-flags.ensures (c.go_freely.ensures.both t)).window

pub returns-clause-run : goal.returns-clause-run
returns-clause-run g c =
    let e = c.go_freely.ensures in
    run-is _ _ _ _ _ _ _ _ _ _ (λ t. free-run _ _ _ _ _ c.new-flags.ensures (e.both t)) e.bound e.keeps
