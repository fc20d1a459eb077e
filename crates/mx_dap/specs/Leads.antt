-- Where a request leads.
use Rattle.std.specs.Prelude.{ℕ, ◌≡◌, ◌⊎◌, ◌+◌, ◌-◌, ◌^◌, Option, None, Some, Result, IfOk, OnOk, min}
use Rattle.mx_debug.specs.Going.{GoesTo, GoesToLast, GoesToNext, depth_at}
use Rattle.mx_debug.specs.Sessions.{Debugged, KeepsProgram, KeepsStops}
use Rattle.mx_adapter.specs.Numbers.{Sent}
use Rattle.mx_word.specs.declared.no_memory.NoMemory.{NoMemory}
use Rattle.mx_dap.specs.Stops.{TellsWhere}
use Rattle.mx_dap.specs.declared.running.Work.{Work}
use Rattle.mx_dap.specs.declared.running.Work.TheVariants.{Begin, Tell, GoOn, GoBack, GoTo, Finish}

-- the step up to which a part of a run goes on: by 10^7 steps at most
abbrev pub part_end : ℕ → ℕ → ℕ
part_end at until = min (min (at + 10000000) (2 ^ 64 - 1)) until

-- Where a part of what is to be done leads: on to the next stop; back to the last one; to a step; or nowhere.
abbrev pub LeadsBy : Debugged → Work → ℕ → Type 0
LeadsBy d Begin at = at ≡ d.at
LeadsBy d (Tell reason) at = at ≡ d.at
LeadsBy d (GoOn depth until) at = GoesToNext (record d { most = part_end d.at until }) depth at
LeadsBy d (GoBack depth) at = GoesToLast d depth at
LeadsBy d (GoTo k) at = GoesTo d k at
LeadsBy d Finish at = at ≡ d.at

-- A part of what is to be done leads there; where nothing is left to do, what was sent last tells of that step.
pub record LeadsAndTells (old new : Debugged) (work : Work) (sent : Sent) (left : Result (Option Work) NoMemory) : Type 0 where
  pub program : KeepsProgram old new
  pub stops : KeepsStops old new
  pub leads : OnOk left (LeadsBy old work new.at)
  pub told : IfOk left (λ rest. rest ≡ None → TellsWhere new.at sent)

-- `stepBack` goes back to the last step that is in no call made before this one, or by a single instruction
abbrev pub StepsBack : Debugged → Work → Type 0
StepsBack d work = (work ≡ GoBack (Some (depth_at d))) ⊎ (work ≡ GoTo (d.at - 1))
