use Rattle.mx_files.proofs.LeastFaults.{faultless-named}
use Rattle.mx_files.proofs.schedule.check_schedule.Goals as goal

pub returns-in-None-clause-names : goal.returns-in-None-clause-names
returns-in-None-clause-names c = faultless-named _ (cc (c.in-None.ensures, c.as_slice.ensures))
