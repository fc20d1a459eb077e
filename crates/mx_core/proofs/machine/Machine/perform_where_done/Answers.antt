use Rattle.mx_core.proofs.Results.Unchanged.{err_keeps}
use Rattle.mx_core.proofs.machine.Machine.perform_where_done.Goals as goal

pub returns-in-Err-clause-kept : goal.returns-in-Err-clause-kept
returns-in-Err-clause-kept c = λ _. err_keeps _ _ _ _ c.in-Err.ensures
