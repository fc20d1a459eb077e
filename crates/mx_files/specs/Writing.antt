-- Texts and lines that are written: whether all was, and the model after it.
use Rattle.std.specs.Prelude.{ℕ, Bool, true, false, List, Result, Ok, Err}
use Rattle.mx_host.specs.HostModel.{HostModel}
use Rattle.mx_host.specs.HostAnswer.{Then}
use Rattle.mx_plan.specs.Calls.{host}
use Rattle.mx_plan.specs.Plan.{end_of}
use Rattle.mx_files.specs.FilePlans.{write_piece, text_plan, lines_plan}
use Rattle.mx_outcome.specs.declared.outcome.Outcome.{Outcome}

abbrev pub was_put : Then (Result (Unit {0}) Outcome) → Then Bool
was_put (Ok u, m) = (true, m)
was_put (Err outcome, m) = (false, m)

-- by one call
abbrev pub put_piece : ℕ → List ℕ → HostModel → Then Bool
put_piece slot piece m = was_put (end_of host (write_piece slot piece) m)

-- in pieces, up to one that is not written
unfoldable pub put_text : ℕ → List ℕ → HostModel → Then Bool
put_text slot text m = was_put (end_of host (text_plan slot text) m)

-- lines in turn, up to one that is not written
unfoldable pub lines_put : List (List ℕ) → HostModel → Then Bool
lines_put lines m = was_put (end_of host (lines_plan lines) m)
