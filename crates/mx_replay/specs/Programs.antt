-- A program that is run over a host in memory, and the steps of its run.
use Rattle.std.specs.Prelude.{ℕ, ◌≡◌, ◌≤◌, ◌<◌, Bool, false, true, List, [], ◌∷◌, length, map, string_bytes, Result, Ok, Err}
use Rattle.mx_host.specs.HostAnswer.{Then, with_file}
use Rattle.mx_host.specs.HostModel.{HostModel, start_model}
use Rattle.mx_host.specs.declared.files.StoredFile.{StoredFile}
use Rattle.mx_word.specs.Results.{map_ok}
use Rattle.mx_plan.specs.Calls.{host}
use Rattle.mx_plan.specs.Plan.{end_of}
use Rattle.mx_core.specs.State.{State}
use Rattle.mx_run.specs.Runs.{Ended, no_flags, run}
use Rattle.mx_run.specs.WildRuns.{window_machine}
use Rattle.mx_run.specs.declared.end.End.{End}
use Rattle.mx_run.specs.declared.end.End.TheVariants.{Halted, Stopped, Broke, Traced, Spent, OutOfMemory}
use Rattle.mx_outcome.specs.declared.outcome.Outcome.{Outcome}
use Rattle.mx_begin.specs.BeginPlans.{begin_plan}
use Rattle.mx_replay.specs.declared.program.Program.{Program}

-- ---- the start

-- a host with these files, put there one after another
unfoldable pub with_files : HostModel → List StoredFile → HostModel
with_files m [] = m
with_files m (f ∷ files) = with_files (with_file m f.name f.bytes) files

-- the host before the program begins: its files and its standard input
abbrev pub host_of : Program → HostModel
host_of p = with_files (start_model p.input []) p.files

-- the machine at its start and the host then, or the outcome where no machine starts
abbrev pub start_of : Program → Then (Result State Outcome)
start_of p = end_of host (begin_plan window_machine (map string_bytes p.words) p.order p.form) (host_of p)

-- the words name a file
pub record NamesFile (p : Program) : Type 0 where
  pub file : p.order.file < length p.words
  pub rest : p.order.rest ≤ length p.words

-- ---- the steps

-- what k turns from a start come to
abbrev pub run_from : ℕ → Then (Result State Outcome) → Result Ended Outcome
run_from k (Err outcome, m) = Err outcome
run_from k (Ok s, m) = Ok (run k no_flags false s m)

-- Step k of the run: what k turns from its start come to. Turn k leads from step k - 1 to it. A turn that halts or that
-- stops the machine is the last one, and all steps after it are as it left them.
unfoldable pub step_of : Program → ℕ → Result Ended Outcome
step_of p k = run_from k (start_of p)

-- the run goes on after step k
abbrev pub GoesOn : Program → ℕ → Type 0
GoesOn p k = map_ok (λ e. e.end) (step_of p k) ≡ Ok Spent

-- whether a run with this end has no further turn
abbrev pub is_over : End → Bool
is_over Spent = false
is_over (Halted status) = true
is_over (Stopped pc reason) = true
is_over (Broke kind at traced) = true
is_over (Traced trace) = true
is_over OutOfMemory = true

-- the run has ended at step k
abbrev pub HasEnded : Program → ℕ → Type 0
HasEnded p k = map_ok (λ e. is_over e.end) (step_of p k) ≡ Ok true

-- the step that one comes to who goes to step k: it is step k, or the last one where the run has ended before
pub record IsReached (p : Program) (k at : ℕ) : Type 0 where
  pub within : at ≤ k
  pub early : at < k → HasEnded p at
