use Rattle.std.proofs.Common.{refl}
use Rattle.std.proofs.lemmas.Result.{err_from_is_err_and}
use Rattle.mx_count.specs.Runs.{by_counts}
use Rattle.mx_count.proofs.CountedRuns.{meant-told, refused-told}
use Rattle.mx_count.proofs.LeftHosts.{meant-left, unmeant-left}
use Rattle.mx_count.proofs.count.count_assembled.Goals as goal

-- ---- there is an image

pub returns-clause-told : goal.returns-clause-told
returns-clause-told g c =
    meant-told _ _ _ _ c.args.order.now c.args.arguments.now by_counts c.args.source.now _ (c.in_ok-image.ensures.image (λ e. absurd (cc))) c.count_image.ensures.told

pub returns-clause-left : goal.returns-clause-left
returns-clause-left g c = λ t. meant-left c.args.order.now c.args.arguments.now _ _ _ _ (c.in_ok-image.ensures.image (λ e. absurd (cc))) (c.count_image.ensures.left t)

-- ---- there is none

pub returns-in_err-image-clause-told : goal.returns-in_err-image-clause-told
returns-in_err-image-clause-told g c =
    let p = err_from_is_err_and c.from_residual.result c.from_residual.ensures.1 in
    rw (p.1, p.2) (refused-told _ _ _ _ c.args.order.now c.args.arguments.now by_counts c.args.source.now c.in_err-image.field-0.0 refl refl refl
    (λ ne. c.in_err-image.ensures.image (λ e. ne (cc e))))

pub returns-in_err-image-clause-left : goal.returns-in_err-image-clause-left
returns-in_err-image-clause-left g c = λ t. unmeant-left c.args.order.now c.args.arguments.now _ _

pub returns-in_err-image-clause-machine : goal.returns-in_err-image-clause-machine
returns-in_err-image-clause-machine g c =
    let p = err_from_is_err_and c.from_residual.result c.from_residual.ensures.1 in
    rw (p.1, p.2) ((λ e. absurd (c.in_err-image.ensures.no_host_fault (cc)), λ e. absurd (c.in_err-image.ensures.no_missing_file (cc)), c.in_err-image.ensures.no_usage))
