-- A run as a plan: the turns that it makes of the machine, one after another, up to its end (MMIXware, the part on
-- MMIX-SIM, the commands `b`, `t` and `c`).
use Rattle.std.specs.Prelude.{ℕ, zero, suc, ◌*◌, ◌/◌, ◌&&◌, not, ◌≡◌, ◌⊎◌, IsTrue, Bool, false, if◌then◌else◌, Option, None, Some, Result, Ok, Err}
use Rattle.mx_mem.specs.Space.{Contents}
use Rattle.mx_host.specs.HostModel.{HostModel}
use Rattle.mx_plan.specs.Plan.{Plan, returns, bind, Acts, Stops}
use Rattle.mx_plan.specs.Plan as plan
use Rattle.mx_plan.specs.Calls.{both}
use Rattle.mx_alu.specs.declared.call.TrapCall.{TrapCall}
use Rattle.mx_trap.specs.FileTraps.{trap_plan}
use Rattle.mx_trap.specs.Touches.{touches}
use Rattle.mx_core.specs.MachineSpace.{machine_contents, state_in}
use Rattle.mx_core.specs.State.{State}
use Rattle.mx_core.specs.Step.{Stepped, went, calls, stopped, step}
use Rattle.mx_core.specs.Way.Stepping.{step_needs_page}
use Rattle.mx_code.specs.declared.trace.Trace.{Trace}
use Rattle.mx_run.specs.Ends.{FlagsOf, Ended, break_of, trace_if}
use Rattle.mx_run.specs.Turns.{Answered, area_size, with_touch_if, turn, turn_answer}
use Rattle.mx_run.specs.declared.end.BreakKind.{BreakKind}
use Rattle.mx_run.specs.declared.end.BreakKind.TheVariants.{Execute}
use Rattle.mx_run.specs.declared.end.End.{End}
use Rattle.mx_run.specs.declared.end.End.TheVariants as end
use Rattle.mx_run.specs.declared.turn_answer.TurnAnswer.{TurnAnswer}
use Rattle.mx_run.specs.declared.turn_answer.TurnAnswer.TheVariants as answer

-- ---- the calls of a run

-- a turn of the machine over the host, which is a step or a file trap as a whole; or a look at the next address
pub data RunCall : Type 0 where
  turning : RunCall
  looking : RunCall

abbrev pub RunSays : RunCall → Type 0
RunSays turning = TurnAnswer
RunSays looking = ℕ

-- the machine and the host
abbrev pub RunWorld : Type 0
RunWorld = State × HostModel

-- an answer beside such a world; and the end of a run
abbrev pub beside_world : {A : Type 0} → Answered A → A × RunWorld
beside_world t = (t.0, (t.1, t.2))

abbrev pub ended_world : Ended → End × RunWorld
ended_world e = (e.end, (e.state, e.host))

abbrev pub run_act : (o : RunCall) → RunWorld → RunSays o × RunWorld
run_act turning w = beside_world (turn_answer (turn w.0 w.1))
run_act looking w = (w.0.pc, w)

-- A file trap that lacks memory leaves the bytes that it moved and the calls that it made, and nothing else changed; it
-- touches all the same.
pub record TrapLacks (call : TrapCall) (w v : RunWorld) : Type 0 where
  pub moved : Contents State
  pub stops : Stops both (moved, v.1) (trap_plan call) (machine_contents w.0, w.1)
  pub state : v.0 ≡ with_touch_if (touches (machine_contents w.0).bytes call) (state_in moved area_size)

abbrev pub CallLacks : Stepped → RunWorld → RunWorld → Type 0
CallLacks (calls call) w v = TrapLacks call w v
CallLacks (went t trace) w v = ⊥
CallLacks (stopped reason) w v = ⊥

-- A step lacks memory only where it stores to a page that is not there, and then nothing changed; a look takes none.
abbrev pub RunLacks : RunCall → RunWorld → RunWorld → Type 0
RunLacks turning w v = (IsTrue (step_needs_page w.0) × (v ≡ w)) ⊎ CallLacks (step w.0) w v
RunLacks looking w v = ⊥

unfoldable pub running : Acts RunCall RunSays RunWorld
running = record { act = run_act; Lacks = RunLacks }

abbrev pub RunPlan : Type 0 → Type 0
RunPlan A = Plan RunCall RunSays A

-- each call as a plan
unfoldable pub turn_plan : RunPlan TurnAnswer
turn_plan = plan.calls turning (λ answer. returns answer)

unfoldable pub look : RunPlan ℕ
look = plan.calls looking (λ pc. returns pc)

-- ---- a run

-- whether a run ends with a step: it breaks where the step read or wrote a tetra with that flag, and ends where the step was
-- to be traced
abbrev pub end_of_trace : Bool → Trace → Option (BreakKind × ℕ) → Result (Unit {0}) End
end_of_trace traced trace (Some (kind, n)) = Err (end.Broke kind (4 * n) (trace_if traced trace))
end_of_trace traced trace None = if traced then Err (end.Traced trace) else Ok tt

-- whether it ends with a turn from an address
abbrev pub end_of_turn : FlagsOf → ℕ → TurnAnswer → Result (Unit {0}) End
end_of_turn f pc (answer.Went trace) = end_of_trace (f (pc / 4)).t trace (break_of f trace)
end_of_turn f pc (answer.Halted status) = Err (end.Halted status)
end_of_turn f pc (answer.Stopped reason) = Err (end.Stopped pc reason)
end_of_turn f pc answer.OutOfMemory = Err end.OutOfMemory

-- a turn from an address, and whether the run ends with it
unfoldable pub ended_turn : FlagsOf → ℕ → RunPlan (Result (Unit {0}) End)
ended_turn f pc = bind (λ answer. returns (end_of_turn f pc answer)) turn_plan

-- at an address: the run breaks where the tetra there has the flag of its execution, but not with `pass`; else there is a
-- turn
abbrev pub step_at : FlagsOf → Bool → ℕ → RunPlan (Result (Unit {0}) End)
step_at f pass pc = if (f (pc / 4)).x && not pass then returns (Err (end.Broke Execute pc None)) else ended_turn f pc

-- a step of a run, or its end
unfoldable pub step_plan : FlagsOf → Bool → RunPlan (Result (Unit {0}) End)
step_plan f pass = bind (step_at f pass) look

-- what follows a step: the run goes on, or it ended
abbrev pub run_next : RunPlan End → Result (Unit {0}) End → RunPlan End
run_next more (Ok u) = more
run_next more (Err end) = returns end

-- at most n steps; with `pass` the first one is made also where the run would break before it
unfoldable pub run_plan : ℕ → FlagsOf → Bool → RunPlan End
run_plan zero f pass = returns end.Spent
run_plan (suc n) f pass = bind (run_next (run_plan n f false)) (step_plan f pass)

-- ---- where memory may not run out

-- what is asked of the state where a step goes on; a file trap is none that goes on
abbrev pub SparesOn : (State → Type 0) → Stepped → Type 0
SparesOn Next (went t trace) = Next t
SparesOn Next (calls call) = ⊥
SparesOn Next (stopped reason) = Unit {0}

-- of at most n steps from a state none is a file trap, and none stores to a page that is not there
unfoldable pub SparesMemory : ℕ → State → Type 0
SparesMemory zero s = Unit {0}
SparesMemory (suc n) s = (step_needs_page s ≡ false) × SparesOn (SparesMemory n) (step s)

-- what is left of that where this was answered and this state left, and steps are still to be made: no memory that runs out, and
-- the same of the steps that follow
abbrev pub SparesAfter : ℕ → TurnAnswer → State → Type 0
SparesAfter n (answer.Went trace) t = SparesMemory n t
SparesAfter n answer.OutOfMemory t = ⊥
SparesAfter n other t = Unit {0}

abbrev pub SparesStep : ℕ → Result (Unit {0}) End → State → Type 0
SparesStep n (Ok u) t = SparesMemory n t
SparesStep n (Err end.OutOfMemory) t = ⊥
SparesStep n (Err other) t = Unit {0}
