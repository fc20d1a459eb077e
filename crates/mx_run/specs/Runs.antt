-- Runs: steps one after another, up to a bound, with breaks and traced steps, and what they come to.
use Rattle.std.specs.Prelude.{ℕ, ◌≡◌, ◌≤◌, ◌+◌, ◌%◌, ◌^◌, Bool}
use Rattle.mx_host.specs.HostModel.{HostModel}
use Rattle.mx_plan.specs.Plan.{end_of}
use Rattle.mx_core.specs.State.{State}
pub use Rattle.mx_run.specs.Ends.{FlagsOf, no_flags, break_of, Ended, ended}
use Rattle.mx_run.specs.RunPlans.{RunWorld, running, run_plan}
use Rattle.mx_run.specs.declared.end.End.{End}

-- an end, with what is left beside it
abbrev pub ended_by : End × RunWorld → Ended
ended_by t = ended t.0 t.1.0 t.1.1

-- at most n steps; with `pass` the first one is made also where the run would break before it
unfoldable pub run : ℕ → FlagsOf → Bool → State → HostModel → Ended
run n f pass s m = ended_by (end_of running (run_plan n f pass) (s, m))

-- the count of steps, which is one modulo 2^64, is up to n more
pub record IsLater (n : ℕ) (s t : State) : Type 0 where
  pub made : ℕ
  pub few : made ≤ n
  pub counted : t.steps % 2 ^ 64 ≡ (s.steps + made) % 2 ^ 64
