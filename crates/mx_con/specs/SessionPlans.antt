-- A session as a plan: what is asked of the host, of the machine and of the flags, line after line, up to its end (MMIXware,
-- the part on MMIX-SIM, interactive commands).
-- What a session remembers from line to line, the octa that was shown last and the bytes that may still be taken, is handed
-- on from plan to plan; the world holds what stays: the machine, the host and the flags.
use Rattle.std.specs.Prelude.{ℕ, zero, suc, ◌+◌, ◌-◌, ◌^◌, ◌==◌, ◌≡◌, Bool, true, false, if◌then◌else◌, List, Option, None, Some, Result, Ok, Err}
use Rattle.mx_host.specs.HostModel.{HostModel}
use Rattle.mx_plan.specs.Plan.{Plan, returns, calls, bind, Acts, Stops, end_of}
use Rattle.mx_plan.specs.Calls.{HostCall, HostSays, HostPlan, host}
use Rattle.mx_code.specs.declared.trace.Trace.{Trace}
use Rattle.mx_run.specs.RunPlans.{turning, RunWorld, running, run_plan}
use Rattle.mx_run.specs.Runs.{FlagsOf}
use Rattle.mx_run.specs.declared.end.BreakKind.{BreakKind}
use Rattle.mx_run.specs.declared.end.End.{End}
use Rattle.mx_run.specs.declared.end.End.TheVariants as ending
use Rattle.mx_run.specs.declared.turn_answer.TurnAnswer.{TurnAnswer}
use Rattle.mx_run.specs.declared.turn_answer.TurnAnswer.TheVariants as answer
use Rattle.mx_cmd.specs.Commands.{command_of}
use Rattle.mx_cmd.specs.declared.command.Command.{Command}
use Rattle.mx_cmd.specs.declared.command.Command.TheVariants.{Step, Continue, Quit as QuitCommand}
use Rattle.mx_con.specs.ConsoleTexts.{break_text}
use Rattle.mx_show.specs.Texts.{trace_text}
use Rattle.mx_con.specs.Judgement.{bad_text, command_bad}
use Rattle.mx_con.specs.LinePlans.{on_ok, line_plan, lines_plan, asking_plan, without_return}
use Rattle.mx_con.specs.Replies.{Reply, reply_to}
use Rattle.mx_con.specs.declared.dialog.Dialog.{Dialog}
use Rattle.mx_con.specs.declared.end.SessionEnd.{SessionEnd}
use Rattle.mx_con.specs.declared.end.SessionEnd.TheVariants.{Halted, Stopped, Spent, Quit, Limit, OutOfMemory}
use Rattle.mx_con.specs.declared.judgement.Bad.{Bad}
use Rattle.mx_con.specs.declared.judgement.Bad.TheVariants.{UnknownCommand}

-- ---- the world and its calls

-- the machine and the host, and the flags
abbrev pub SessionWorld : Type 0
SessionWorld = RunWorld × FlagsOf

-- A call of the host; one turn of the machine; a run of at most so many steps, by the flags, as a whole; a good command that makes no
-- step, which changes the machine and the flags and answers what is shown; or a look: at the count of steps, at the next address, at
-- the line of a step that was made, at why a command is bad.
pub data SessionCall : Type 0 where
  of_host : HostCall → SessionCall
  of_turn : SessionCall
  of_run : ℕ → Bool → SessionCall
  replying : Option ℕ → Command → SessionCall
  counting : SessionCall
  locating : SessionCall
  tracing : Trace → SessionCall
  judging : Option ℕ → Command → SessionCall

-- a reply answers the address of the octa that was shown last, and the lines to write
abbrev pub SessionSays : SessionCall → Type 0
SessionSays (of_host o) = HostSays o
SessionSays of_turn = TurnAnswer
SessionSays (of_run n pass) = End
SessionSays (replying shown command) = Option ℕ × List (List ℕ)
SessionSays counting = ℕ
SessionSays locating = ℕ
SessionSays (tracing trace) = List ℕ
SessionSays (judging shown command) = Option Bad

-- an answer of the host, beside a machine and flags; an answer of a run, beside flags; and that of a reply, beside a host
abbrev pub beside_machine : {A : Type 0} → SessionWorld → A × HostModel → A × SessionWorld
beside_machine w t = (t.0, ((w.0.0, t.1), w.1))

abbrev pub beside_flags : {A : Type 0} → FlagsOf → A × RunWorld → A × SessionWorld
beside_flags f t = (t.0, (t.1, f))

abbrev pub answered_reply : HostModel → Reply → (Option ℕ × List (List ℕ)) × SessionWorld
answered_reply m r = ((r.shown, r.lines), ((r.state, m), r.flags))

abbrev pub session_act : (o : SessionCall) → SessionWorld → SessionSays o × SessionWorld
session_act (of_host o) w = beside_machine w (host.act o w.0.1)
session_act of_turn w = beside_flags w.1 (running.act turning w.0)
session_act (of_run n pass) w = beside_flags w.1 (end_of running (run_plan n w.1 pass) w.0)
session_act (replying shown command) w = answered_reply w.0.1 (reply_to w.0.0 w.1 shown command)
session_act counting w = (w.0.0.steps, w)
session_act locating w = (w.0.0.pc, w)
session_act (tracing trace) w = (trace_text trace w.0.0, w)
session_act (judging shown command) w = (command_bad w.0.0 shown command, w)

-- A run lacks memory where its plan may stop; a command that lacks it changes nothing; a look takes none.
abbrev pub SessionLacks : SessionCall → SessionWorld → SessionWorld → Type 0
SessionLacks (of_host o) w v = (v.0.0 ≡ w.0.0) × ((v.1 ≡ w.1) × host.Lacks o w.0.1 v.0.1)
SessionLacks of_turn w v = running.Lacks turning w.0 v.0 × (v.1 ≡ w.1)
SessionLacks (of_run n pass) w v = Stops running v.0 (run_plan n w.1 pass) w.0 × (v.1 ≡ w.1)
SessionLacks (replying shown command) w v = v ≡ w
SessionLacks counting w v = ⊥
SessionLacks locating w v = ⊥
SessionLacks (tracing trace) w v = ⊥
SessionLacks (judging shown command) w v = ⊥

unfoldable pub conversing : Acts SessionCall SessionSays SessionWorld
conversing = record { act = session_act; Lacks = SessionLacks }

abbrev pub SessionPlan : Type 0 → Type 0
SessionPlan A = Plan SessionCall SessionSays A

-- a part of a session: it is done with a value, or it ends the session
abbrev pub Part : Type 0 → Type 0
Part A = SessionPlan (Result A SessionEnd)

-- a plan of the host; and each other call as a plan
unfoldable pub host_in_session : {A : Type 0} → HostPlan A → SessionPlan A
host_in_session (returns a) = returns a
host_in_session (calls o k) = calls (of_host o) (λ r. host_in_session (k r))

unfoldable pub turn_made : SessionPlan TurnAnswer
turn_made = calls of_turn (λ answer. returns answer)

unfoldable pub run_made : ℕ → Bool → SessionPlan End
run_made n pass = calls (of_run n pass) (λ end. returns end)

unfoldable pub reply_plan : Option ℕ → Command → SessionPlan (Option ℕ × List (List ℕ))
reply_plan shown command = calls (replying shown command) (λ r. returns r)

unfoldable pub count_plan : SessionPlan ℕ
count_plan = calls counting (λ n. returns n)

unfoldable pub place_plan : SessionPlan ℕ
place_plan = calls locating (λ pc. returns pc)

unfoldable pub trace_plan : Trace → SessionPlan (List ℕ)
trace_plan trace = calls (tracing trace) (λ text. returns text)

unfoldable pub judge_plan : Option ℕ → Command → SessionPlan (Option Bad)
judge_plan shown command = calls (judging shown command) (λ bad. returns bad)

-- ---- STEPS

-- the line of a step that was made
unfoldable pub traced_plan : Trace → Part (Unit {0})
traced_plan trace = bind (λ text. host_in_session (line_plan text)) (trace_plan trace)

abbrev pub after_turn : ℕ → TurnAnswer → Part (Unit {0})
after_turn pc (answer.Went trace) = traced_plan trace
after_turn pc (answer.Halted status) = returns (Err (Halted status))
after_turn pc (answer.Stopped reason) = returns (Err (Stopped pc reason))
after_turn pc answer.OutOfMemory = returns (Err OutOfMemory)

unfoldable pub turn_at : ℕ → Part (Unit {0})
turn_at pc = bind (after_turn pc) turn_made

unfoldable pub turned_plan : Part (Unit {0})
turned_plan = bind turn_at place_plan

-- one step, whatever the flags, where this many may be made in all and this many were
abbrev pub step_if : ℕ → ℕ → Part (Unit {0})
step_if steps made = if steps - made == 0 then returns (Err Spent) else turned_plan

unfoldable pub stepped_plan : ℕ → Part (Unit {0})
stepped_plan steps = bind (step_if steps) count_plan

-- ---- RUNS: up to a break, a traced step or an end; whether the run goes on then, which it does after a traced step

abbrev pub going : Bool → Part (Unit {0}) → Part Bool
going more p = bind (on_ok (λ u. returns (Ok more))) p

abbrev pub broke_plan : BreakKind → ℕ → Part (Unit {0})
broke_plan kind at = host_in_session (line_plan (break_text kind at))

abbrev pub break_plan : BreakKind → ℕ → Option Trace → Part (Unit {0})
break_plan kind at None = broke_plan kind at
break_plan kind at (Some trace) = bind (on_ok (λ u. broke_plan kind at)) (traced_plan trace)

abbrev pub after_end : End → Part Bool
after_end (ending.Halted status) = returns (Err (Halted status))
after_end (ending.Stopped pc reason) = returns (Err (Stopped pc reason))
after_end (ending.Broke kind at traced) = going false (break_plan kind at traced)
after_end (ending.Traced trace) = going true (traced_plan trace)
after_end ending.Spent = returns (Err Spent)
after_end ending.OutOfMemory = returns (Err OutOfMemory)

abbrev pub run_from : ℕ → Bool → ℕ → Part Bool
run_from steps pass made = bind after_end (run_made (steps - made) pass)

unfoldable pub one_run_plan : ℕ → Bool → Part Bool
one_run_plan steps pass = bind (run_from steps pass) count_plan

abbrev pub run_on : Part (Unit {0}) → Bool → Part (Unit {0})
run_on more goes = if goes then more else returns (Ok tt)

-- at most this many runs, each of which makes a step
unfoldable pub runs_plan : ℕ → ℕ → Bool → Part (Unit {0})
runs_plan zero steps pass = returns (Err Spent)
runs_plan (suc n) steps pass = bind (on_ok (run_on (runs_plan n steps false))) (one_run_plan steps pass)

unfoldable pub continued_plan : ℕ → Part (Unit {0})
continued_plan steps = bind (λ made. runs_plan (steps - made) steps true) count_plan

-- ---- COMMANDS: what each leaves as the address of the octa that was shown last

abbrev pub showing : Option ℕ → Part (Unit {0}) → Part (Option ℕ)
showing shown p = bind (on_ok (λ u. returns (Ok shown))) p

abbrev pub refused : Option ℕ → Bad → Part (Option ℕ)
refused shown bad = showing shown (host_in_session (line_plan (bad_text bad)))

abbrev pub replied : Option ℕ × List (List ℕ) → Part (Option ℕ)
replied r = showing r.0 (host_in_session (lines_plan r.1))

-- a bad command changes nothing
abbrev pub judged : Option ℕ → Command → Option Bad → Part (Option ℕ)
judged shown command (Some bad) = refused shown bad
judged shown command None = bind replied (reply_plan shown command)

-- a command that makes no step
unfoldable pub answered_plan : Option ℕ → Command → Part (Option ℕ)
answered_plan shown command = bind (judged shown command) (judge_plan shown command)

unfoldable pub command_plan : ℕ → Option ℕ → Option Command → Part (Option ℕ)
command_plan steps shown None = refused shown UnknownCommand
command_plan steps shown (Some Step) = showing shown (stepped_plan steps)
command_plan steps shown (Some Continue) = showing shown (continued_plan steps)
command_plan steps shown (Some QuitCommand) = returns (Err Quit)
command_plan steps shown (Some command) = answered_plan shown command

-- ---- LINES

abbrev pub with_left : ℕ → Option ℕ → Dialog
with_left left shown = record { shown = shown; left = left }

-- a line that was read is carried out
abbrev pub line_done : ℕ → Option ℕ → List ℕ × ℕ → Part Dialog
line_done steps shown line =
    bind (on_ok (λ s. returns (Ok (with_left line.1 s)))) (command_plan steps shown (command_of (without_return line.0)))

unfoldable pub one_line_plan : ℕ → Dialog → Part Dialog
one_line_plan steps d = bind (on_ok (line_done steps d.shown)) (host_in_session (asking_plan d.left))

-- at most this many lines: each takes a byte of the input or ends the session
unfoldable pub lines_of_session : ℕ → ℕ → Dialog → Part Dialog
lines_of_session zero steps d = returns (Err Limit)
lines_of_session (suc n) steps d = bind (on_ok (lines_of_session n steps)) (one_line_plan steps d)

-- the most bytes of input
abbrev pub most_input : ℕ
most_input = 2 ^ 32

-- all lines end the session
abbrev pub end_of_session : Result Dialog SessionEnd → SessionPlan SessionEnd
end_of_session (Ok d) = returns Limit
end_of_session (Err end) = returns end

-- a session, with at most this many steps of the machine in all
unfoldable pub session_plan : ℕ → SessionPlan SessionEnd
session_plan steps = bind end_of_session (lines_of_session (most_input + 1) steps (with_left most_input None))
