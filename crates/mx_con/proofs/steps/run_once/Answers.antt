use Rattle.std.proofs.Common.{ap}
use Rattle.mx_run.specs.FlagMaps.{flags_at}
use Rattle.mx_plan.proofs.KeptHosts.{keeps_host-kept}
use Rattle.mx_con.proofs.ListedRuns.{run-both}
use Rattle.mx_con.proofs.StepPlans.{one-run-part}
use Rattle.mx_con.proofs.steps.run_once.Goals as goal

pub returns-clause-part : goal.returns-clause-part
returns-clause-part g c =
    one-run-part _ _ _ _ _ c.args.steps c.steps_left.result c.args.pass _ _ c.go-end.result _ _ c.end_run.result
    c.steps_left.ensures (ap flags_at c.go-end.ensures.flags) (keeps_host-kept _ _ _ _ c.go-end.ensures.run.keeps)
    (λ t. run-both _ _ _ _ _ _ _ c.go-end.result (c.go-end.ensures.plan t) (λ ne u. c.go-end.ensures.run.listed t ne u))
    c.end_run.ensures.part c.end_run.ensures.lacked c.end_run.ensures.uncalled
