use Rattle.std.proofs.Common.{refl}
use Rattle.std.proofs.lemmas.Result.{err_from_is_err_and}
use Rattle.mx_count.proofs.CountedRuns.{machine-told}
use Rattle.mx_count.proofs.count.count_machine.Goals as goal

pub returns-clause-told : goal.returns-clause-told
returns-clause-told g c = machine-told c.args.steps _ _ _ _ _ _ _ c.requires c.outcome_of.ensures.value c.in_ok-end.ensures.told

pub returns-in_err-end-clause-told : goal.returns-in_err-end-clause-told
returns-in_err-end-clause-told g c =
    let p = err_from_is_err_and c.from_residual.result c.from_residual.ensures.1 in
    rw (p.1, p.2) ((λ t ne. absurd (ne refl), λ t ne. absurd (ne refl)))

pub returns-clause-machine : goal.returns-clause-machine
returns-clause-machine g c = c.outcome_of.ensures.machine

pub returns-in_err-end-clause-machine : goal.returns-in_err-end-clause-machine
returns-in_err-end-clause-machine g c =
    let p = err_from_is_err_and c.from_residual.result c.from_residual.ensures.1 in
    rw (p.1, p.2) ((λ e. absurd (cc), λ e. absurd (cc), refl))
