-- What a file trap does, answers and leaves (MMIXware, MMIX-SIM, "Simulating a simple operating
-- system").
use Rattle.std.specs.Prelude.{ℕ, ℤ, ◌==◌, List, Option, None, Some, Result, Ok, Err, if◌then◌else◌}
use Rattle.mx_mem.specs.Space.{Contents}
use Rattle.mx_host.specs.HostModel.{HostModel}
use Rattle.mx_host.specs.declared.faults.HostFault.{HostFault}
use Rattle.mx_host.specs.declared.slots.Mode.{Mode}
use Rattle.mx_host.specs.declared.slots.Mode.TheVariants.{TextRead, TextWrite, BinaryRead, BinaryWrite, BinaryReadWrite}
use Rattle.mx_plan.specs.Plan.{returns, bind, end_of}
use Rattle.mx_plan.specs.Calls.{HostPlan, BothPlan, both, need, look, on_host, open_plan, close_plan, seek_plan, tell_plan}
use Rattle.mx_alu.specs.declared.call.TrapCall.{TrapCall}
use Rattle.mx_trap.specs.Services.{z_of}
use Rattle.mx_trap.specs.Requests.{bytes_from, request_of}
use Rattle.mx_trap.specs.Moves.{Leaves, leaving, minus_one, fread, fgets, fwrite, fputs}
use Rattle.mx_trap.specs.declared.answer.TrapAnswer.{TrapAnswer}
use Rattle.mx_trap.specs.declared.answer.TrapAnswer.TheVariants.{Value, Halt, Stopped}
use Rattle.mx_trap.specs.declared.answer.TrapStop.{TrapStop}
use Rattle.mx_trap.specs.declared.requests.Request.{Request}
use Rattle.mx_trap.specs.declared.requests.Request.TheVariants.{Ending, Opening, Closing, Reading, ReadingLine, Writing, WritingText, Seeking, Telling}

-- ---- services that move no bytes

-- 0 where a call was done, and -1 where it failed or was misused
abbrev pub done_value : {E : Type 0} → Result (Unit {0}) E → HostPlan TrapAnswer
done_value (Ok u) = returns (Value 0)
done_value (Err e) = returns (Value minus_one)

-- the mode of this number
abbrev pub mode_of : ℕ → Option Mode
mode_of q =
    if q == 0 then Some TextRead
    else if q == 1 then Some TextWrite
    else if q == 2 then Some BinaryRead
    else if q == 3 then Some BinaryWrite
    else if q == 4 then Some BinaryReadWrite
    else None

abbrev pub fopen_in : ℕ → List ℕ → Option Mode → HostPlan TrapAnswer
fopen_in slot name None = returns (Value minus_one)
fopen_in slot name (Some mode) = bind (λ u. bind done_value (open_plan slot name mode)) need

-- Fopen of the file of this name in the mode of this number, once there is memory for the name; where there is no such mode,
-- no call is made
unfoldable pub fopen : ℕ → List ℕ → ℕ → HostPlan TrapAnswer
fopen slot name mode = fopen_in slot name (mode_of mode)

unfoldable pub fclose : ℕ → HostPlan TrapAnswer
fclose slot = bind done_value (close_plan slot)

unfoldable pub fseek : ℕ → ℤ → HostPlan TrapAnswer
fseek slot to = bind done_value (seek_plan slot to)

abbrev pub place_value : Result ℕ HostFault → HostPlan TrapAnswer
place_value (Ok place) = returns (Value place)
place_value (Err e) = returns (Value minus_one)

-- Ftell: the place
unfoldable pub ftell : ℕ → HostPlan TrapAnswer
ftell slot = bind place_value (tell_plan slot)

-- ---- a whole trap

-- how a request is carried out, where these are the bytes of the space
abbrev pub carried_out : ℕ → (ℕ → ℕ) → Request → BothPlan TrapAnswer
carried_out slot bytes Ending = returns Halt
carried_out slot bytes (Opening at size mode) = on_host (fopen slot (bytes_from bytes at size) mode)
carried_out slot bytes Closing = on_host (fclose slot)
carried_out slot bytes (Reading at size) = fread slot at size
carried_out slot bytes (ReadingLine at size) = fgets slot at size
carried_out slot bytes (Writing at size) = on_host (fwrite slot (bytes_from bytes at size))
carried_out slot bytes (WritingText at size) = on_host (fputs slot (bytes_from bytes at size))
carried_out slot bytes (Seeking to) = on_host (fseek slot to)
carried_out slot bytes Telling = on_host (ftell slot)

-- a request that is refused stops before any call
abbrev pub answer_to : ℕ → (ℕ → ℕ) → Result Request TrapStop → BothPlan TrapAnswer
answer_to slot bytes (Ok request) = carried_out slot bytes request
answer_to slot bytes (Err stop) = returns (Stopped stop)

-- a file trap: the bytes of the space are looked at, and what they ask for is carried out
unfoldable pub trap_plan : TrapCall → BothPlan TrapAnswer
trap_plan call = bind (λ bytes. answer_to (z_of call.word) bytes (request_of bytes call)) look

-- the answer of a file trap, and the space and the model after it
unfoldable pub trap_answer : {Rest : Type 0} → Contents Rest → HostModel → TrapCall → Leaves TrapAnswer Rest
trap_answer s m call = leaving (end_of both (trap_plan call) (s, m))
