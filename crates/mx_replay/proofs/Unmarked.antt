-- Without breaks and watches no step is marked.
use Rattle.std.proofs.Common.{◌≡◌, ◌<◌, ℕ, zero, suc, false, Ok, Err, None, arith, refl}
use Rattle.std.specs.Prelude.{Result, []}
use Rattle.mx_host.specs.HostModel.{HostModel}
use Rattle.mx_core.specs.State.{State}
use Rattle.mx_outcome.specs.declared.outcome.Outcome.{Outcome}
use Rattle.mx_run.specs.Runs.{Ended}
use Rattle.mx_run.specs.Turns.{Turn, went_on, halts, stops, turn}
use Rattle.mx_run.specs.declared.end.End.{End}
use Rattle.mx_run.specs.declared.end.End.TheVariants.{Halted, Stopped, Broke, Traced, Spent, OutOfMemory}
use Rattle.mx_replay.specs.Marks.{is_marked, marks_after, marks_from, marks_start, stops_at}
use Rattle.mx_replay.specs.Programs.{IsReached, step_of}
use Rattle.mx_replay.specs.Searches.{FoundAt, IsLast, IsNext}
use Rattle.mx_replay.specs.declared.program.Program.{Program}

-- ---- no step has the mark

none-turn : (s : State) (t : Turn) → (stops_at [] [] None).turn s t ≡ false
none-turn s (went_on u k trace) = refl
none-turn s (halts status u k) = refl
none-turn s (stops reason u k) = refl

none-from : (e : End) (s : State) (m : HostModel) → marks_from (stops_at [] [] None) e s m ≡ false
none-from Spent s m = none-turn s (turn s m)
none-from (Halted status) s m = refl
none-from (Stopped pc reason) s m = refl
none-from (Broke kind at traced) s m = refl
none-from (Traced trace) s m = refl
none-from OutOfMemory s m = refl

none-after : (r : Result Ended Outcome) → marks_after (stops_at [] [] None) r ≡ false
none-after (Err outcome) = refl
none-after (Ok e) = none-from e.end e.state e.host

none-start : (r : Result Ended Outcome) → marks_start (stops_at [] [] None) r ≡ false
none-start (Err outcome) = refl
none-start (Ok e) = refl

pub none-marked : (p : Program) (k : ℕ) → is_marked p (stops_at [] [] None) k ≡ false
unfolding is_marked
none-marked p zero = none-start (step_of p zero)
none-marked p (suc j) = none-after (step_of p j)

-- ---- what is answered then

pub none-next : (p : Program) (from until : ℕ) → IsNext p (stops_at [] [] None) from until None
none-next p from until = λ j a b. none-marked p j

pub none-last : (p : Program) (until : ℕ) → IsLast p (stops_at [] [] None) until None
none-last p until = λ j a. none-marked p j

pub gone : (p : Program) (until from at : ℕ) → from < until → IsReached p until at → FoundAt p until from at None
gone p until from at h reached = (λ _. reached, λ below. absurd (omega (arith, h, below)))

pub ruleset unmarking = (none-marked, none-next, none-last, gone)
