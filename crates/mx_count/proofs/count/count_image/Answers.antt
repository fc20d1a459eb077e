use Rattle.std.proofs.Common.{refl}
use Rattle.std.proofs.lemmas.Result.{err_from_is_err_and}
use Rattle.mx_count.specs.Runs.{by_counts}
use Rattle.mx_count.proofs.CountedRuns.{started-told, unstarted-told}
use Rattle.mx_count.proofs.LeftHosts.{started-left, unstarted-left}
use Rattle.mx_count.proofs.count.count_image.Goals as goal

-- ---- a machine starts

pub returns-clause-told : goal.returns-clause-told
returns-clause-told g c =
    started-told _ _ _ _ c.args.order.now c.args.arguments.now by_counts _ _
    (c.in_ok-machine.ensures.window (λ e. absurd (cc))) (c.in_ok-machine.ensures.list (λ e. absurd (cc))) c.count_machine.ensures.told

pub returns-clause-left : goal.returns-clause-left
returns-clause-left g c = λ t. started-left _ _ _ _ _ (c.in_ok-machine.ensures.window (λ e. absurd (cc))) (c.count_machine.ensures.left t)

-- ---- none does

pub returns-in_err-machine-clause-told : goal.returns-in_err-machine-clause-told
returns-in_err-machine-clause-told g c =
    let p = err_from_is_err_and c.from_residual.result c.from_residual.ensures.1 in
    rw (p.1, p.2) (unstarted-told _ _ _ _ c.args.order.now c.args.arguments.now by_counts _ c.in_err-machine.field-0.0 refl refl refl
    (λ ne. c.in_err-machine.ensures.window (λ e. ne (cc e))) (λ ne. c.in_err-machine.ensures.list (λ e. ne (cc e))))

pub returns-in_err-machine-clause-left : goal.returns-in_err-machine-clause-left
returns-in_err-machine-clause-left g c = λ t. unstarted-left c.args.order.now c.args.arguments.now _ _

pub returns-in_err-machine-clause-machine : goal.returns-in_err-machine-clause-machine
returns-in_err-machine-clause-machine g c =
    let p = err_from_is_err_and c.from_residual.result c.from_residual.ensures.1 in
    rw (p.1, p.2) ((λ e. absurd (c.in_err-machine.ensures.no_host_fault (cc)), λ e. absurd (c.in_err-machine.ensures.no_missing_file (cc)), c.in_err-machine.ensures.no_usage))
