-- The words of clauses over file traps.
use Rattle.std.specs.Prelude.{ℕ, ◌≡◌, Option, Result, Ok, Err}
use Rattle.mx_mem.specs.Space.{Contents}
use Rattle.mx_host.specs.HostModel.{HostModel}
use Rattle.mx_alu.specs.declared.call.TrapCall.{TrapCall}
use Rattle.mx_plan.specs.Calls.{BothPlan, HostPlan}
use Rattle.mx_plan.specs.Clauses.{CarriesOutOnHost, CarriesOutOnSpace, KeepsHost}
use Rattle.mx_trap.specs.Requests.{request_of}
use Rattle.mx_trap.specs.declared.answer.TrapAnswer.{TrapAnswer}
use Rattle.mx_trap.specs.declared.answer.TrapAnswer.TheVariants.{Value, Halt, Stopped, OutOfMemory}
use Rattle.mx_trap.specs.declared.answer.TrapStop.{TrapStop}
use Rattle.mx_trap.specs.declared.answer.TrapStop.TheVariants.{TrapPagesFull}
use Rattle.mx_trap.specs.declared.requests.Request.{Request}

-- if a trap stops here, then for one page too many
abbrev pub StopsByPages : TrapAnswer → Type 0
StopsByPages (Value value) = Unit {0}
StopsByPages Halt = Unit {0}
StopsByPages (Stopped why) = why ≡ TrapPagesFull
StopsByPages OutOfMemory = Unit {0}

-- A trap is stopped exactly where its request is refused, by that stop, and then it left all as it was; else it stops for one
-- page too many alone.
abbrev pub IsStopped : Result Request TrapStop → TrapAnswer → Type 0 → Type 0
IsStopped (Err stop) answer Unchanged = (answer ≡ Stopped stop) × Unchanged
IsStopped (Ok request) answer Unchanged = StopsByPages answer

-- the same of a trap on a space and over a host, which are then as before; `holds` is what the space holds
abbrev pub StopsFirst : {M H Rest : Type 0} → (M → Contents Rest) → M → M → H → H → TrapCall → TrapAnswer → Type 0
StopsFirst holds first last old new call answer =
    IsStopped (request_of (holds first).bytes call) answer ((holds last ≡ holds first) × (new ≡ old))

-- A trap is carried out on a space and over a host; `says` is what the host tells.
abbrev pub CarriesOutTrap : {M H Rest : Type 0} → (M → Contents Rest) → (H → Option HostModel) → M → M → H → H → TrapAnswer → BothPlan TrapAnswer → Type 0
CarriesOutTrap holds says first last old new result plan =
    CarriesOutOnSpace (says old) (says new) (holds first) (holds last) OutOfMemory result plan

-- the same of a part of a trap, which gives something or ends it
abbrev pub CarriesOutTrapPart : {M H A Rest : Type 0} → (M → Contents Rest) → (H → Option HostModel) → M → M → H → H → Result A TrapAnswer → BothPlan (Result A TrapAnswer) → Type 0
CarriesOutTrapPart holds says first last old new result plan =
    CarriesOutOnSpace (says old) (says new) (holds first) (holds last) (Err OutOfMemory) result plan

-- A service is done over a host, where `says` is what that tells and `faults` its count of faults. Over one that tells its contents, the plan
-- is carried out; if the trap stops here, then for one page too many; and what is kept of a host is kept.
pub record DoesService {Host : Type 0} (says : Host → Option HostModel) (faults : Host → ℕ) (old new : Host) (result : TrapAnswer) (plan : HostPlan TrapAnswer) : Type 0 where
  pub told : CarriesOutOnHost (says old) (says new) OutOfMemory result plan
  pub stops : StopsByPages result
  pub keeps : KeepsHost (says old) (says new) (faults old) (faults new)
