-- A session does not lack memory: no call that the host answers does, no turn and no run.
use Rattle.std.proofs.Common.{◌≡◌, ℕ, zero, suc, ◌/◌, ◌≤◌, List, [], ◌∷◌, length, take, drop, Bool, true, false, cond, Option, None, Some, refl, arith}
use Rattle.std.specs.Prelude.{Result}
use Rattle.mx_host.specs.HostAnswer.{Then, bytes_at, read_answer, read_from, read_lead, write_answer, write_to, write_lead}
use Rattle.mx_host.specs.HostModel.{HostModel, counted, is_failing, slot_at, is_read_only, is_write_only}
use Rattle.mx_host.specs.declared.faults.HostFault.{HostFault}
use Rattle.mx_host.specs.declared.slots.Slot.{Slot}
use Rattle.mx_host.specs.declared.slots.Slot.TheVariants.{Closed, Open}
use Rattle.mx_host.specs.declared.slots.Mode.{Mode}
use Rattle.mx_host.specs.declared.slots.Lead.{Lead}
use Rattle.mx_host.specs.declared.slots.Lead.TheVariants.{Input, Output, Errors, File}
use Rattle.mx_plan.specs.Calls.{HostCall, reading, writing, host}
use Rattle.mx_plan.specs.Taking.{CanSay}
use Rattle.mx_plan.specs.Wild.{Course, ends, meets_wild, course, carried}
use Rattle.mx_plan.proofs.WildLaws.{Answers, EndsSo, course_gives}
use Rattle.mx_core.specs.State.{State}
use Rattle.mx_code.specs.declared.trace.Trace.{Trace}
use Rattle.mx_run.specs.RunPlans.{turning, RunWorld, running, end_of_trace, end_of_turn}
use Rattle.mx_run.specs.Runs.{FlagsOf, break_of}
use Rattle.mx_run.specs.Turns.{Turn, went_on, halts, stops, turn, turn_answer}
use Rattle.mx_run.specs.WildRuns.{MachineKind, ends_wild, run_goes, run_by}
use Rattle.mx_run.specs.declared.end.BreakKind.{BreakKind}
use Rattle.mx_run.specs.declared.end.End.{End}
use Rattle.mx_run.specs.declared.turn_answer.TurnAnswer.{TurnAnswer}
use Rattle.mx_run.specs.declared.turn_answer.TurnAnswer.TheVariants as answer
use Rattle.mx_con.specs.Session.{keeping_flags, command_ends_wild, session_goes, session}
use Rattle.mx_con.specs.SessionPlans.{SessionCall, of_host, of_turn, of_run, replying, SessionWorld, conversing, session_plan}
use Rattle.mx_con.specs.Told.{is_end_told, is_told}
use Rattle.mx_con.specs.declared.end.SessionEnd.{SessionEnd}
use Rattle.mx_run.proofs.RunCases.{OnOr, AnyWay, run-ends-so}
use Rattle.mx_con.proofs.WalkedPlans.{is_call_told, is_host_told, is_turn_told, is_run_told, SessionTold, session-gives}

-- ---- calls of a host

abbrev CallTold : {A : Type 0} → Result A HostFault → Type 0
CallTold r = is_call_told r ≡ true

either : {A : Type 0} (Such : A → Type 0) (b : Bool) (x y : Then A) → Such x.0 → Such y.0 → Such (cond b x y).0
either Such true x y h k = h
either Such false x y h k = k

lead-written : (m : HostModel) (slot : ℕ) (from : List ℕ) (l : Lead) (mode : Mode) (place : ℕ) → CallTold (write_lead m slot from l mode place).0
lead-written m slot from Input mode place = refl
lead-written m slot from Output mode place = refl
lead-written m slot from Errors mode place = refl
lead-written m slot from (File at) mode place = refl

slot-written : (m : HostModel) (slot : ℕ) (from : List ℕ) (s : Slot) → CallTold (write_to m slot from s).0
slot-written m slot from Closed = refl
slot-written m slot from (Open l mode place) = either CallTold (is_read_only mode) _ _ refl (lead-written m slot from l mode place)

write-told : (m : HostModel) (slot : ℕ) (from : List ℕ) → CallTold (write_answer m slot from).0
unfolding write_answer
write-told m slot from = either CallTold (is_failing m) _ _ refl (slot-written (counted m) slot from (slot_at m slot))

-- at most as many bytes are read as were asked for
abbrev ReadSo : ℕ → Result (List ℕ) HostFault → Type 0
ReadSo len r = CanSay (reading 258 len) r × CallTold r

take-most : (n : ℕ) (xs : List ℕ) → length (take n xs) ≤ n
take-most zero xs = omega arith
take-most (suc n) [] = omega arith
take-most (suc n) (x ∷ xs) = let rest = take-most n xs in omega (arith, rest)

lead-read : (m : HostModel) (slot len : ℕ) (l : Lead) (mode : Mode) (place : ℕ) → ReadSo len (read_lead m slot len l mode place).0
lead-read m slot len Input mode place = (take-most len m.input, refl)
lead-read m slot len Output mode place = (tt, refl)
lead-read m slot len Errors mode place = (tt, refl)
lead-read m slot len (File at) mode place = (take-most len (drop place (bytes_at m.files at)), refl)

slot-read : (m : HostModel) (slot len : ℕ) (s : Slot) → ReadSo len (read_from m slot len s).0
slot-read m slot len Closed = (tt, refl)
slot-read m slot len (Open l mode place) = either (ReadSo len) (is_write_only mode) _ _ (tt, refl) (lead-read m slot len l mode place)

read-told : (m : HostModel) (slot len : ℕ) → ReadSo len (read_answer m slot len).0
unfolding read_answer
read-told m slot len = either (ReadSo len) (is_failing m) _ _ (tt, refl) (slot-read (counted m) slot len (slot_at m slot))

host-told : (o : HostCall) (m : HostModel) → CanSay o (host.act o m).0 × (is_host_told o (host.act o m).0 ≡ true)
unfolding host
host-told (reading slot len) m = read-told m slot len
host-told (writing slot from) m = (tt, write-told m slot from)
host-told other m = (tt, refl)

-- ---- turns and runs

abbrev TurnTold : TurnAnswer → Type 0
TurnTold a = is_turn_told a ≡ true

abbrev RunTold : End → Type 0
RunTold end = is_run_told end ≡ true

turn-told : (t : Turn) → TurnTold (turn_answer t).0
turn-told (went_on s m trace) = refl
turn-told (halts status s m) = refl
turn-told (stops reason s m) = refl

turning-told : (kind : MachineKind) (w : RunWorld) → Answers TurnTold (run_goes kind turning w)
unfolding running
turning-told kind w = by (ends_wild kind w.0)
  where
    by : (b : Bool) → Answers TurnTold (cond b (meets_wild w) (carried running turning w))
    by true = tt
    by false = turn-told (turn w.0 w.1)

abbrev EndsTold : End → RunWorld → Type 0
EndsTold end w = RunTold end

trace-told : (n : ℕ) (traced : Bool) (trace : Trace) (b : Option (BreakKind × ℕ)) (v : RunWorld) → OnOr (AnyWay n) EndsTold (end_of_trace traced trace b) v
trace-told n traced trace (Some (kind, at)) v = refl
trace-told n true trace None v = refl
trace-told n false trace None v = tt

answer-told : (n : ℕ) (f : FlagsOf) (pc : ℕ) (a : TurnAnswer) (v : RunWorld) → TurnTold a → OnOr (AnyWay n) EndsTold (end_of_turn f pc a) v
answer-told n f pc (answer.Went trace) v h = trace-told n (f (pc / 4)).t trace (break_of f trace) v
answer-told n f pc (answer.Halted status) v h = refl
answer-told n f pc (answer.Stopped reason) v h = refl
answer-told n f pc answer.OutOfMemory v h = h

run-told : (kind : MachineKind) (n : ℕ) (f : FlagsOf) (pass : Bool) (s : State) (m : HostModel) → EndsSo EndsTold (run_by kind n f pass s m)
run-told kind n f pass s m =
    run-ends-so kind f (λ w a v. TurnTold a) AnyWay EndsTold (record { spent = λ w g. refl; broken = λ k w x g. refl; turned = λ k a w v g h. answer-told k f w.0.pc a v h })
    (λ t k tame. turn-told (turn t k)) n pass s m tt

-- ---- the calls of a session, and a session

turn-flags : (f : FlagsOf) (c : Course TurnAnswer RunWorld) → Answers TurnTold c → Answers (SessionTold of_turn) (keeping_flags f c)
turn-flags f (ends a w) h = (tt, h)
turn-flags f (meets_wild w) h = tt

run-flags : (n : ℕ) (pass : Bool) (f : FlagsOf) (c : Course End RunWorld) → EndsSo EndsTold c → Answers (SessionTold (of_run n pass)) (keeping_flags f c)
run-flags n pass f (ends end w) h = (tt, h)
run-flags n pass f (meets_wild w) h = tt

call-told : (kind : MachineKind) (o : SessionCall) (w : SessionWorld) → Answers (SessionTold o) (session_goes kind o w)
unfolding conversing
call-told kind (of_host o) w = host-told o w.0.1
call-told kind of_turn w = turn-flags w.1 (run_goes kind turning w.0) (turning-told kind w.0)
call-told kind (of_run n pass) w = run-flags n pass w.1 (run_by kind n w.1 pass w.0.0 w.0.1) (run-told kind n w.1 pass w.0.0 w.0.1)
call-told kind (replying shown command) w = by (command_ends_wild kind shown command)
  where
    by : (b : Bool) → Answers (SessionTold (replying shown command)) (cond b (meets_wild w) (carried conversing (replying shown command) w))
    by true = tt
    by false = (tt, refl)
call-told kind other w = (tt, refl)

of-told : (c : Course SessionEnd SessionWorld) → Answers (λ end. is_end_told end ≡ true) c → is_told c ≡ true
of-told (ends end w) h = h
of-told (meets_wild w) h = refl

pub sessions-told : (kind : MachineKind) (steps : ℕ) (s : State) (f : FlagsOf) (m : HostModel) → is_told (session kind steps s f m) ≡ true
unfolding session
sessions-told kind steps s f m =
    of-told (course (session_goes kind) (session_plan steps) ((s, m), f))
    (course_gives (session_goes kind) SessionTold (λ end. is_end_told end ≡ true) (call-told kind) (session_plan steps) ((s, m), f) (session-gives steps))

pub ruleset telling = (sessions-told)
