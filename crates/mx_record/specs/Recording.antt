-- A recorder at a step of a run.
use Rattle.std.specs.Prelude.{ℕ, ◌≡◌, ◌+◌, List, Option, Ok, map, string_bytes}
use Rattle.mx_word.specs.Results.{map_ok}
use Rattle.mx_code.specs.declared.trace.Trace.{Trace}
use Rattle.mx_core.specs.State.{State}
use Rattle.mx_replay.specs.Programs.{step_of}
use Rattle.mx_replay.specs.Searches.{Replayed}
use Rattle.mx_replay.specs.Visits.{trace_after}
use Rattle.mx_replay.specs.declared.program.Program.{Program}
use Rattle.mx_record.specs.Following.{HoldsStack}
use Rattle.mx_record.specs.Pictures.{picture_at}
use Rattle.mx_record.specs.Records.{Leads}
use Rattle.mx_record.specs.declared.changes.Record.{Record}

-- two replays of a run, of which one goes ahead, and the registers of the register stack where the other is
pub record Recorded : Type 0 where
  pub before : Replayed
  pub after : Replayed
  pub stacked : List ℕ

-- it has the registers of the state at step k
abbrev pub HoldsStep : List ℕ → Program → ℕ → Type 0
HoldsStep octas p k = (s : State) → map_ok (λ e. e.state) (step_of p k) ≡ Ok s → HoldsStack octas s.stack

-- programs with the same words, files and input, and the same run
pub record AreAlike (p q : Program) : Type 0 where
  pub words : map string_bytes q.words ≡ map string_bytes p.words
  pub order : q.order ≡ p.order
  pub form : q.form ≡ p.form
  pub input : q.input ≡ p.input
  pub files : q.files ≡ p.files

abbrev pub SameRun : Program → Program → Type 0
SameRun p q = (j : ℕ) → step_of q j ≡ step_of p j

-- both are at step k of the run of this program, and the registers are those of its state
pub record IsAt (r : Recorded) (p : Program) (k : ℕ) : Type 0 where
  pub program : r.before.program ≡ p
  pub step : r.before.at ≡ k
  pub together : r.after.at ≡ r.before.at
  pub same : SameRun r.before.program r.after.program
  pub stacked : HoldsStep r.stacked p k

-- it is at a step of its run
abbrev pub IsReady : Recorded → Type 0
IsReady r = IsAt r r.before.program r.before.at

-- this is the record of the turn after step k, and its trace
pub record IsRecordOf (p : Program) (k : ℕ) (made : Record × Option Trace) : Type 0 where
  pub leads : Leads made.0 (picture_at p k) (picture_at p (k + 1))
  pub traced : map_ok trace_after (step_of p k) ≡ Ok made.1
