use Rattle.mx_run.proofs.RunBoth.{free-both}
use Rattle.mx_run.proofs.Runners.{run-is}
use Rattle.mx_run.proofs.runner.Runner.go.Goals as goal

pub returns-then-is_empty-clause-plan : goal.returns-then-is_empty-clause-plan
returns-then-is_empty-clause-plan g c =
    let none = c.is_empty.ensures.only c.if-is_empty.true in
    rw (← c.self.view_is) (λ t. (free-both _ _ _ _ _ _ none (c.go_freely.ensures.both t)).window)

pub returns-then-is_empty-clause-run : goal.returns-then-is_empty-clause-run
returns-then-is_empty-clause-run g c =
    let e = c.go_freely.ensures in
    let none = c.is_empty.ensures.only c.if-is_empty.true in
    rw (← c.self.view_is) (run-is _ _ _ _ _ _ _ _ _ _ (λ t. free-both _ _ _ _ _ _ none (e.both t)) e.bound e.keeps)

pub returns-else-is_empty-clause-plan : goal.returns-else-is_empty-clause-plan
returns-else-is_empty-clause-plan g c = rw (← c.self.view_is) (λ t. (c.go_by_flags.ensures.both t).window)

pub returns-else-is_empty-clause-run : goal.returns-else-is_empty-clause-run
returns-else-is_empty-clause-run g c =
    let e = c.go_by_flags.ensures in
    rw (← c.self.view_is) (run-is _ _ _ _ _ _ _ _ _ _ e.both e.bound e.keeps)
