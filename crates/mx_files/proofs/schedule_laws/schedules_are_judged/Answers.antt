use Rattle.mx_files.proofs.LeastFaults.{schedule-refused}
use Rattle.mx_files.proofs.schedule_laws.schedules_are_judged.Goals as goal

pub returns-clause-refused : goal.returns-clause-refused
returns-clause-refused c = λ bytes place. schedule-refused bytes place
