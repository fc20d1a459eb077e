-- Lines over the host, as plans: each is written by one call, and read byte by byte.
use Rattle.std.specs.Prelude.{◌≡◌, ℕ, zero, suc, ◌+◌, ◌-◌, ◌==◌, Bool, true, false, if◌then◌else◌, List, [], ◌∷◌, ◌++◌, codes, length, take, slice_index, Option, None, Some, Result, Ok, Err}
use Rattle.mx_word.specs.Results.{map_ok}
use Rattle.mx_host.specs.declared.faults.HostFault.{HostFault}
use Rattle.mx_host.specs.declared.faults.HostFault.TheVariants.{Failed, Misused}
use Rattle.mx_host.specs.declared.faults.HostFault.TheVariants as fault
use Rattle.mx_plan.specs.Plan.{Plan, returns, bind}
use Rattle.mx_plan.specs.Calls.{HostPlan, read_plan, write_plan, need}
use Rattle.mx_show.specs.Texts.{ended}
use Rattle.mx_con.specs.declared.end.SessionEnd.{SessionEnd}
use Rattle.mx_con.specs.declared.end.SessionEnd.TheVariants.{Quit, Limit, HostFault as BadHost, OutOfMemory}

-- the slots of the console's input and output
abbrev pub input_slot : ℕ
input_slot = 258

abbrev pub output_slot : ℕ
output_slot = 259

-- how the session ends by a fault of the host
abbrev pub end_of : HostFault → SessionEnd
end_of Failed = BadHost
end_of Misused = BadHost
end_of fault.OutOfMemory = OutOfMemory

-- what follows where a part of a session was done; where that ended the session, nothing does
abbrev pub on_ok : {O : Type 0} {R : O → Type 0} {A B : Type 0} → (A → Plan O R (Result B SessionEnd)) → Result A SessionEnd → Plan O R (Result B SessionEnd)
on_ok more (Ok x) = more x
on_ok more (Err end) = returns (Err end)

-- ---- WRITING: a write that is not done ends the session

abbrev pub written : Result (Unit {0}) HostFault → Result (Unit {0}) SessionEnd
written (Ok u) = Ok tt
written (Err why) = Err (end_of why)

unfoldable pub text_plan : List ℕ → HostPlan (Result (Unit {0}) SessionEnd)
text_plan text = bind (λ r. returns (written r)) (write_plan output_slot text)

-- a line is made, which takes memory, and written with its newline
unfoldable pub line_plan : List ℕ → HostPlan (Result (Unit {0}) SessionEnd)
line_plan line = bind (λ u. text_plan (ended line)) need

unfoldable pub lines_plan : List (List ℕ) → HostPlan (Result (Unit {0}) SessionEnd)
lines_plan [] = returns (Ok tt)
lines_plan (line ∷ lines) = bind (on_ok (λ u. lines_plan lines)) (line_plan line)

-- ---- READING

-- a byte; nothing at the end of the input
abbrev pub byte_of : Result (List ℕ) HostFault → Result (Option ℕ) SessionEnd
byte_of (Ok []) = Ok None
byte_of (Ok (b ∷ bs)) = Ok (Some b)
byte_of (Err why) = Err (end_of why)

unfoldable pub byte_plan : HostPlan (Result (Option ℕ) SessionEnd)
byte_plan = bind (λ r. returns (byte_of r)) (read_plan input_slot 1)

-- whether more of a line follows, where the input ends: a line that it ends within counts without a newline
abbrev pub last_line : List ℕ → Result Bool SessionEnd
last_line [] = Err Quit
last_line (b ∷ bs) = Ok false

-- the same after a byte, and the line with it: a newline ends a line
abbrev pub byte_added : List ℕ → ℕ → Result Bool SessionEnd × List ℕ
byte_added got b = if b == 10 then (Ok false, got) else (Ok true, got ++ b ∷ [])

abbrev pub Added : ℕ → List ℕ → List ℕ → Result Bool SessionEnd → Type 0
Added b old new result = (result, new) ≡ byte_added old b

-- whether more of a line follows; its bytes so far; and how many more bytes of input may be taken
abbrev pub Growing : Type 0
Growing = Result (Bool × List ℕ × ℕ) SessionEnd

-- a byte that a line goes on with takes memory
abbrev pub with_byte : List ℕ → ℕ → ℕ → HostPlan Growing
with_byte got left b = if b == 10 then returns (Ok (false, got, left)) else bind (λ u. returns (Ok (true, got ++ b ∷ [], left))) need

-- what follows the reading of a byte, with which at most `left` more may be taken
abbrev pub after_byte : ℕ → List ℕ → Result (Option ℕ) SessionEnd → HostPlan Growing
after_byte left got (Err end) = returns (Err end)
after_byte left got (Ok None) = returns (map_ok (λ more. (more, got, left + 1)) (last_line got))
after_byte left got (Ok (Some b)) = with_byte got left b

-- a byte more of a line
unfoldable pub grown_plan : ℕ → List ℕ → HostPlan Growing
grown_plan left got = bind (after_byte left got) byte_plan

-- a line, and how many more bytes of input may be taken
abbrev pub LineRead : Type 0
LineRead = Result (List ℕ × ℕ) SessionEnd

abbrev pub after_growing : (List ℕ → HostPlan LineRead) → Bool × List ℕ × ℕ → HostPlan LineRead
after_growing more (true, got, left) = more got
after_growing more (false, got, left) = returns (Ok (got, left))

-- a line, after the bytes of it that were read, where this many more bytes may be taken
unfoldable pub reading_plan : ℕ → List ℕ → HostPlan LineRead
reading_plan zero got = returns (Err Limit)
reading_plan (suc left) got = bind (on_ok (after_growing (reading_plan left))) (grown_plan left got)

-- the prompt, and a line
abbrev pub prompt : List ℕ
prompt = codes "mmix> "

unfoldable pub asking_plan : ℕ → HostPlan LineRead
asking_plan left = bind (on_ok (λ u. reading_plan left [])) (text_plan prompt)

-- a last carriage return is dropped
unfoldable pub without_return : List ℕ → List ℕ
without_return line = if slice_index line (length line - 1) == 13 then take (length line - 1) line else line
