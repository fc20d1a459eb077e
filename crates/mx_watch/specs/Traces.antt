-- The traces of the steps that a run completes.
use Rattle.std.specs.Prelude.{ℕ, zero, suc, if◌then◌else◌, List, [], ◌∷◌}
use Rattle.mx_host.specs.HostModel.{HostModel}
use Rattle.mx_core.specs.State.{State}
use Rattle.mx_code.specs.declared.trace.Trace.{Trace}
use Rattle.mx_run.specs.Turns.{Turn, went_on, halts, stops, turn}
use Rattle.mx_run.specs.WildRuns.{MachineKind, ends_wild}

-- the trace of a turn that goes on is before those of the rest; a program that halts and a machine that stops have none
abbrev pub traces_after : (State → HostModel → List Trace) → Turn → List Trace
traces_after more (went_on s m trace) = trace ∷ more s m
traces_after more (halts status s m) = []
traces_after more (stops reason s m) = []

-- those of a run of at most n steps, of the machine of a kind and without flags
unfoldable pub traces : MachineKind → ℕ → State → HostModel → List Trace
traces kind zero s m = []
traces kind (suc n) s m = if ends_wild kind s then [] else traces_after (traces kind n) (turn s m)
