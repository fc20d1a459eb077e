-- The outcome of a source that is assembled, or refused, and the slot of its object file.
use Rattle.std.specs.Prelude.{ℕ, Result, Ok, Err}
use Rattle.mx_files.specs.declared.refusal.Refusal.{Refusal}
use Rattle.mx_outcome.specs.declared.outcome.Outcome.{Outcome}
use Rattle.mx_outcome.specs.declared.outcome.Outcome.TheVariants.{Done, Refused}

abbrev pub refused_with : Refusal → Outcome
refused_with r = Refused r.line r.fault r.from_line

-- the slot of the tool's object file
abbrev pub object_slot : ℕ
object_slot = 257

-- the outcome of a source that is assembled
abbrev pub assembled_outcome : Result (Unit {0}) Refusal → Outcome
assembled_outcome (Ok u) = Done 0
assembled_outcome (Err refusal) = refused_with refusal
