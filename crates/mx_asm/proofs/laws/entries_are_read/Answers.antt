use Rattle.mx_asm.proofs.ReadEntries.{statement-listed, fault-listed, read-or-faulty}
use Rattle.mx_asm.proofs.laws.entries_are_read.Goals as goal

pub returns-clause-read : goal.returns-clause-read
returns-clause-read c = statement-listed

pub returns-clause-faulty : goal.returns-clause-faulty
returns-clause-faulty c = fault-listed

pub returns-clause-either : goal.returns-clause-either
returns-clause-either c = read-or-faulty
