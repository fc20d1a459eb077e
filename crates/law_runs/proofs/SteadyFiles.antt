-- Where no call that is made fails, texts and lines are written the same whatever the count of calls, and whatever the list of those
-- that fail.
use Rattle.std.proofs.Common.{ℕ, List, Ok, Err}
use Rattle.std.specs.Prelude.{Result}
use Rattle.mx_host.specs.HostModel.{HostModel}
use Rattle.mx_host.proofs.Still.{still}
use Rattle.mx_plan.specs.Calls.{host}
use Rattle.mx_plan.specs.Plan.{end_of}
use Rattle.mx_plan.proofs.Spared.{Spared, uncalled, then, plan-spared}
use Rattle.mx_files.specs.FilePlans.{Part, write_piece, text_plan, lines_plan}
use Rattle.mx_files.specs.Writing.{was_put, put_piece, put_text, lines_put}
use Rattle.mx_outcome.specs.declared.outcome.Outcome.{Outcome}

put-case : (r : Result (Unit {0}) Outcome) (m : HostModel) → Spared m (was_put (r, m)) (was_put (r, still m))
put-case (Ok u) m = uncalled
put-case (Err outcome) m = uncalled

put-steady : (p : Part (Unit {0})) (m : HostModel) → Spared m (was_put (end_of host p m)) (was_put (end_of host p (still m)))
put-steady p m = then was_put (end_of host p m) (end_of host p (still m)) put-case (plan-spared p m)

pub piece-steady : (slot : ℕ) (piece : List ℕ) (m : HostModel) → Spared m (put_piece slot piece m) (put_piece slot piece (still m))
piece-steady slot piece m = put-steady (write_piece slot piece) m

pub text-steady : (slot : ℕ) (text : List ℕ) (m : HostModel) → Spared m (put_text slot text m) (put_text slot text (still m))
unfolding put_text
text-steady slot text m = put-steady (text_plan slot text) m

pub lines-steady : (lines : List (List ℕ)) (m : HostModel) → Spared m (lines_put lines m) (lines_put lines (still m))
unfolding lines_put
lines-steady lines m = put-steady (lines_plan lines) m
