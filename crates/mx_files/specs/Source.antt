-- The file that holds a source or an object, as it is read.
use Rattle.std.specs.Prelude.{ℕ, List, Result}
use Rattle.mx_host.specs.HostModel.{HostModel}
use Rattle.mx_host.specs.HostAnswer.{Then}
use Rattle.mx_plan.specs.Calls.{host}
use Rattle.mx_plan.specs.Plan.{end_of}
use Rattle.mx_files.specs.FilePlans.{file_plan}
use Rattle.mx_outcome.specs.declared.outcome.Outcome.{Outcome}

-- a source is read up to a shorter piece, or until more than 2^22 bytes were taken, and an object until more than 2^26
-- were
abbrev pub source_pieces : ℕ
source_pieces = 1025

abbrev pub object_pieces : ℕ
object_pieces = 16385

-- the bytes of the file of this name, in at most this many pieces
abbrev pub file_bytes : ℕ → List ℕ → HostModel → Then (Result (List ℕ) Outcome)
file_bytes most name m = end_of host (file_plan most name) m
