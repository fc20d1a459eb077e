-- The words of clauses over a runner, a session and a host: `old` and `new` are what the host told before and after, r
-- and s the runners. The words of parts take the host itself before and after, with what it tells (`says`) and its count of
-- faults as functions.
use Rattle.std.specs.Prelude.{ℕ, ◌≡◌, ◌≢◌, ◌≤◌, ◌+◌, ◌-◌, IsTrue, false, List, Option, Result, Err}
use Rattle.mx_word.specs.Lists.{IsFront}
use Rattle.mx_word.specs.Results.{map_ok}
use Rattle.mx_host.specs.HostModel.{HostModel, tells, contents}
use Rattle.mx_host.specs.Keeping.{OnlyByFailure}
use Rattle.mx_plan.specs.Calls.{host, HostPlan}
use Rattle.mx_plan.specs.Clauses.{CarriesOut, KeepsHost}
use Rattle.mx_plan.specs.Plan.{Plan, Acts, Comes}
use Rattle.mx_plan.specs.Wild.{Course, ends, GoesAs, ComesBoth, IsRestBoth}
use Rattle.mx_plan.specs.Wild as wild
use Rattle.mx_cmd.specs.declared.command.Command.{Command}
use Rattle.mx_core.specs.Bounds.{as_list_state}
use Rattle.mx_core.specs.Kept.{state_of}
use Rattle.mx_run.specs.FlagMaps.{flags_at}
use Rattle.mx_run.specs.Running.{Running}
use Rattle.mx_core.specs.State.{State}
use Rattle.mx_run.specs.RunCourses as runs
use Rattle.mx_run.specs.Runs.{FlagsOf}
use Rattle.mx_run.specs.WildRuns.{list_machine}
use Rattle.mx_con.specs.Session.{session_goes}
use Rattle.mx_con.specs.SessionPlans.{SessionWorld, SessionPlan, Part, conversing, answered_plan}
use Rattle.mx_con.specs.declared.end.SessionEnd.{SessionEnd}
use Rattle.mx_con.specs.declared.end.SessionEnd.TheVariants.{HostFault, OutOfMemory}

-- the machine, the host and the flags
abbrev pub world_of : Running → Option HostModel → SessionWorld
world_of r told = ((state_of r.machine, contents told), flags_at r.flags)

-- a call carries out a plan over a runner and a host: the machine, the host and the flags
abbrev pub CarriesOutOnRunner : {Host A : Type 0} → (Host → Option HostModel) → Host → Host → Running → Running → A → A → SessionPlan A → Type 0
CarriesOutOnRunner says old new r s none result plan =
    CarriesOut conversing (says old) (world_of r (says old)) (world_of s (says new)) none result plan

-- ---- PARTS of a session

-- A part is done, or it ends the session. Over a host that tells its contents this is `Told` of it. Over every host, as long as the
-- slots of the console lead to the streams, it ends the session with a fault of the host only by a call that failed; and what
-- is kept of a host is kept.
pub record DoesSessionPart {Host A : Type 0} (says : Host → Option HostModel) (faults : Host → ℕ) (old new : Host) (result : Result A SessionEnd) (Told : Type 0) : Type 0 where
  pub told : IsTrue (tells (says old)) → Told
  pub cause : OnlyByFailure (says old) (Err HostFault) result (faults old) (faults new)
  pub keeps : KeepsHost (says old) (says new) (faults old) (faults new)

-- what is told of it is that it carries out its plan, from the world `first` to `last`: `told` is then `CarriesOut` of that
abbrev pub DoesPlan : {O : Type 0} {R : O → Type 0} {W Host A : Type 0} → Acts O R W → (Host → Option HostModel) → (Host → ℕ) → Host → Host → W → W →
    Result A SessionEnd → Plan O R (Result A SessionEnd) → Type 0
DoesPlan d says faults old new first last result plan = DoesSessionPart says faults old new result (Comes d first last (Err OutOfMemory) result plan)

-- over the host alone
abbrev pub DoesOnHost : {Host A : Type 0} → (Host → Option HostModel) → (Host → ℕ) → Host → Host → Result A SessionEnd → HostPlan (Result A SessionEnd) → Type 0
DoesOnHost says faults old new result plan = DoesPlan host says faults old new (contents (says old)) (contents (says new)) result plan

-- over the machine, the flags and the host
abbrev pub DoesOnRunner : {Host A : Type 0} → (Host → Option HostModel) → (Host → ℕ) → Host → Host → Running → Running → Result A SessionEnd → Part A → Type 0
DoesOnRunner says faults old new r s result plan =
    DoesPlan conversing says faults old new (world_of r (says old)) (world_of s (says new)) result plan

-- the reply to a command that makes no step; `shown` and `after` are the address of the octa that was shown last, before and after
abbrev pub Obeys : {Host : Type 0} → (Host → Option HostModel) → (Host → ℕ) → Host → Host → Running → Running → Option ℕ → Option ℕ →
    Result (Unit {0}) SessionEnd → Command → Type 0
Obeys says faults old new r s shown after result command =
    DoesOnRunner says faults old new r s (map_ok (λ u. after) result) (answered_plan shown command)

-- the reply to one that shows no octa
abbrev pub ObeysSilently : {Host : Type 0} → (Host → Option HostModel) → (Host → ℕ) → Host → Host → Running → Running →
    Result (Unit {0}) SessionEnd → Command → Type 0
ObeysSilently says faults old new r s result command = (shown : Option ℕ) → Obeys says faults old new r s shown shown result command

-- the count of steps is as it was, or has grown and is at most this many; the same holds over every host, and out of memory too
pub record StepsWithin (steps : ℕ) (s t : State) : Type 0 where
  pub grown : s.steps ≤ t.steps
  pub few : t.steps ≤ s.steps + (steps - s.steps)

-- SESSIONS

abbrev pub session_output : Course SessionEnd SessionWorld → List ℕ
session_output c = (wild.world_of c).0.1.output

-- over a host that tells its contents, the end and what it leaves are those of the session f, unless there was no memory
abbrev pub EndsAsSession : {Host : Type 0} → (Host → Option HostModel) → Host → Host → Running → Running → SessionEnd →
    (State → FlagsOf → HostModel → Course SessionEnd SessionWorld) → Type 0
EndsAsSession says old new r s result f =
    IsTrue (tells (says old)) → result ≢ OutOfMemory →
    ends result (world_of s (says new)) ≡ f (state_of r.machine) (flags_at r.flags) (contents (says old))

-- over a host that tells its contents, where there was no memory, what standard output then holds is a front of what the
-- session f gives it
abbrev pub EndsFront : Option HostModel → Option HostModel → Running → SessionEnd → (State → FlagsOf → HostModel → Course SessionEnd SessionWorld) → Type 0
EndsFront old new r result f =
    IsTrue (tells old) → result ≡ OutOfMemory →
    IsFront (contents new).output (session_output (f (state_of r.machine) (flags_at r.flags) (contents old)))

-- ---- BOTH MACHINES

-- the world of the list machine; where both go alike; and where something wild was passed: standard output still begins with what
-- was written then
abbrev pub as_list_world : SessionWorld → SessionWorld
as_list_world w = (runs.as_list_world w.0, w.1)

abbrev pub IsUntouched : SessionWorld → Type 0
IsUntouched w = runs.IsUntouched w.0

abbrev pub WritesOn : SessionWorld → SessionWorld → Type 0
WritesOn v w = runs.WritesOn v.0 w.0

-- how a part came to r and left w, beside what it comes to over the list machine
abbrev pub GoesAsList : {A : Type 0} → Course A SessionWorld → A → SessionWorld → Type 0
GoesAsList c r w = GoesAs as_list_world IsUntouched WritesOn c r w

-- what comes of a plan of a session over both machines, and what is left of one
abbrev pub ConversesBoth : {A : Type 0} → SessionWorld → SessionWorld → A → A → SessionPlan A → Type 0
ConversesBoth old new none result plan = ComesBoth conversing (session_goes list_machine) as_list_world IsUntouched WritesOn old new none result plan

abbrev pub RestsBoth : {A : Type 0} → SessionPlan A → SessionWorld → SessionPlan A → SessionWorld → Type 0
RestsBoth rest now whole start = IsRestBoth conversing (session_goes list_machine) as_list_world IsUntouched WritesOn rest now whole start

-- a part over both machines, the flags and the host
abbrev pub DoesOnBoth : {Host A : Type 0} → (Host → Option HostModel) → (Host → ℕ) → Host → Host → Running → Running → Result A SessionEnd → Part A → Type 0
DoesOnBoth says faults old new r s result plan =
    DoesSessionPart says faults old new result (ConversesBoth (world_of r (says old)) (world_of s (says new)) (Err OutOfMemory) result plan)

-- the same of a whole session
abbrev pub EndsAsListSession : {Host : Type 0} → (Host → Option HostModel) → Host → Host → Running → Running → SessionEnd →
    (State → FlagsOf → HostModel → Course SessionEnd SessionWorld) → Type 0
EndsAsListSession says old new r s result f =
    IsTrue (tells (says old)) → result ≢ OutOfMemory → (state_of r.machine).touched ≡ false →
    GoesAsList (f (as_list_state (state_of r.machine)) (flags_at r.flags) (contents (says old))) result (world_of s (says new))
