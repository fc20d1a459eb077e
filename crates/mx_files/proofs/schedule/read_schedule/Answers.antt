use Rattle.std.proofs.lemmas.Result.{err_from_is_err_and}
use Rattle.mx_files.proofs.ReadSchedules.{schedule-read, schedule-unread}
use Rattle.mx_files.proofs.schedule.read_schedule.Goals as goal

pub returns-clause-works : goal.returns-clause-works
returns-clause-works g c = schedule-read _ _ _ _ _ _ _ c.check_schedule.ensures.value c.in_ok-bytes.ensures.works

pub returns-in_err-bytes-clause-works : goal.returns-in_err-bytes-clause-works
returns-in_err-bytes-clause-works g c =
    let p = err_from_is_err_and c.from_residual.result c.from_residual.ensures.1 in
    rw (p.1, p.2) (schedule-unread _ _ _ _ _ _ c.in_err-bytes.ensures.works)

pub returns-clause-causes : goal.returns-clause-causes
returns-clause-causes g c = (λ had e. absurd (c.check_schedule.ensures.no_host_fault e), λ n e. absurd (c.check_schedule.ensures.no_missing_file e), c.check_schedule.ensures.no_usage, c.in_ok-bytes.ensures.causes.3)

pub returns-in_err-bytes-clause-causes : goal.returns-in_err-bytes-clause-causes
returns-in_err-bytes-clause-causes g c =
    let p = err_from_is_err_and c.from_residual.result c.from_residual.ensures.1 in
    rw (p.1, p.2) ((λ had e. c.in_err-bytes.ensures.causes.0 had (cc e), λ n e. c.in_err-bytes.ensures.causes.1 n (cc e), c.in_err-bytes.ensures.causes.2, c.in_err-bytes.ensures.causes.3))

pub returns-clause-told : goal.returns-clause-told
returns-clause-told g c = λ t. ((schedule-read _ _ _ _ _ _ _ c.check_schedule.ensures.value c.in_ok-bytes.ensures.works).told t).ending

pub returns-in_err-bytes-clause-told : goal.returns-in_err-bytes-clause-told
returns-in_err-bytes-clause-told g c =
    let p = err_from_is_err_and c.from_residual.result c.from_residual.ensures.1 in
    rw (p.1, p.2) (λ t. ((schedule-unread _ _ _ _ _ _ c.in_err-bytes.ensures.works).told t).ending)
