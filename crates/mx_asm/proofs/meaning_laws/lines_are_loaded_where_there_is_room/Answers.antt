use Rattle.mx_asm.proofs.MeaningLaws.{page-refusal-is}
use Rattle.mx_asm.proofs.MeaningLines.{line-is-refused}
use Rattle.mx_asm.proofs.MeaningSources.{bytes-fault}
use Rattle.mx_asm.proofs.meaning_laws.lines_are_loaded_where_there_is_room.Goals as goal

pub returns-clause-fault : goal.returns-clause-fault
returns-clause-fault c = bytes-fault

pub returns-clause-first : goal.returns-clause-first
returns-clause-first c = page-refusal-is

pub returns-clause-line : goal.returns-clause-line
returns-clause-line c = line-is-refused
