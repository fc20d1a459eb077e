-- Steps and runs of the console go alike over the list machine, up to what is wild.
use Rattle.std.proofs.Common.{◌≡◌, ◌≢◌, ℕ, ◌-◌, ◌==◌, List, Bool, true, false, cond, Option, None, Some, Ok, Err, refl, sym, ◌∙◌, ap, subst}
use Rattle.std.specs.Prelude.{Result}
use Rattle.mx_host.specs.HostModel.{HostModel}
use Rattle.mx_plan.specs.Plan.{returns, bind, end_of, Comes}
use Rattle.mx_plan.specs.Wild.{Course, ends, meets_wild, then_on, course, GoesAs}
use Rattle.mx_core.specs.Bounds.{as_list_state}
use Rattle.mx_core.specs.State.{State}
use Rattle.mx_code.specs.declared.trace.Trace.{Trace}
use Rattle.mx_run.specs.Clauses as run
use Rattle.mx_run.specs.RunCourses as runs
use Rattle.mx_run.specs.RunPlans.{RunWorld, running, run_plan}
use Rattle.mx_run.specs.Runs.{FlagsOf, Ended, ended}
use Rattle.mx_run.specs.Turns.{Answered, turn, turn_answer}
use Rattle.mx_run.specs.WildRuns.{list_machine, run_by, turn_is_wild, HasWindow}
use Rattle.mx_run.specs.declared.end.BreakKind.{BreakKind}
use Rattle.mx_run.specs.declared.end.End.{End}
use Rattle.mx_run.specs.declared.end.End.TheVariants as ending
use Rattle.mx_run.specs.declared.turn_answer.TurnAnswer.{TurnAnswer}
use Rattle.mx_run.specs.declared.turn_answer.TurnAnswer.TheVariants as answer
use Rattle.mx_run.proofs.ListSteps.{list-window, turn-listed-so}
use Rattle.mx_run.proofs.ListTurns.{wild-listed}
use Rattle.mx_show.specs.Texts.{trace_text}
use Rattle.mx_con.specs.Clauses.{IsUntouched, GoesAsList}
use Rattle.mx_con.specs.ConsoleTexts.{break_text}
use Rattle.mx_con.specs.LinePlans.{line_plan}
use Rattle.mx_con.specs.Session.{keeping_flags, session_goes}
use Rattle.mx_con.specs.SessionPlans.{SessionWorld, Part, conversing, host_in_session, turn_made, count_plan, place_plan, trace_plan, traced_plan, after_turn, turn_at, turned_plan, stepped_plan, going, broke_plan, break_plan, after_end}
use Rattle.mx_con.specs.declared.end.SessionEnd.{SessionEnd}
use Rattle.mx_con.specs.declared.end.SessionEnd.TheVariants.{Halted, Stopped, Spent, OutOfMemory}
use Rattle.mx_con.proofs.HeldSessions.{streams-end}
use Rattle.mx_con.proofs.QuietTraces.{Outside, AnswerOutside, turn-outside, EndOutside}
use Rattle.mx_con.proofs.SameTexts.{same-trace}
use Rattle.mx_con.proofs.SessionBoth.{Listed, listed-returns, listed-host, listed-then}

-- ---- lines on steps and on the ends of runs

listed-traced : (trace : Trace) (s : State) (m : HostModel) (f : FlagsOf) → Outside trace.writes → IsUntouched ((s, m), f) → Listed (traced_plan trace) ((s, m), f)
unfolding traced_plan trace_plan bind end_of course conversing
listed-traced trace s m f o u =
    let last = end_of conversing (host_in_session (line_plan (trace_text trace s))) ((s, m), f) in
    subst (λ (text : List ℕ). GoesAsList (course (session_goes list_machine) (host_in_session (line_plan text)) ((as_list_state s, m), f)) last.0 last.1) (sym (same-trace trace s o))
    (listed-host (line_plan (trace_text trace s)) s m f u)

-- an answer after a part
listed-going : (more : Bool) (p : Part (Unit {0})) (w : SessionWorld) → Listed p w → Listed (going more p) w
listed-going more p w h = listed-then (λ (u : Unit {0}). returns (Ok more)) p w h (λ x v u. listed-returns (Ok more) v u)

listed-break : (kind : BreakKind) (at : ℕ) (traced : Option Trace) (s : State) (m : HostModel) (f : FlagsOf) → EndOutside (ending.Broke kind at traced) → IsUntouched ((s, m), f) →
    Listed (break_plan kind at traced) ((s, m), f)
listed-break kind at None s m f o u = listed-host (line_plan (break_text kind at)) s m f u
listed-break kind at (Some trace) s m f o u =
    listed-then (λ (x : Unit {0}). broke_plan kind at) (traced_plan trace) ((s, m), f) (listed-traced trace s m f o u)
    (λ x v k. listed-host (line_plan (break_text kind at)) v.0.0 v.0.1 v.1 k)

pub listed-end : (end : End) (s : State) (m : HostModel) (f : FlagsOf) → EndOutside end → IsUntouched ((s, m), f) → Listed (after_end end) ((s, m), f)
listed-end (ending.Halted status) s m f o u = listed-returns (Err (Halted status)) ((s, m), f) u
listed-end (ending.Stopped pc reason) s m f o u = listed-returns (Err (Stopped pc reason)) ((s, m), f) u
listed-end (ending.Broke kind at traced) s m f o u = listed-going false (break_plan kind at traced) ((s, m), f) (listed-break kind at traced s m f o u)
listed-end (ending.Traced trace) s m f o u = listed-going true (traced_plan trace) ((s, m), f) (listed-traced trace s m f o u)
listed-end ending.Spent s m f o u = listed-returns (Err Spent) ((s, m), f) u
listed-end ending.OutOfMemory s m f o u = listed-returns (Err OutOfMemory) ((s, m), f) u

-- ---- one step

listed-after : (pc : ℕ) (a : TurnAnswer) (s : State) (m : HostModel) (f : FlagsOf) → AnswerOutside a → IsUntouched ((s, m), f) → Listed (after_turn pc a) ((s, m), f)
listed-after pc (answer.Went trace) s m f o u = listed-traced trace s m f o u
listed-after pc (answer.Halted status) s m f o u = listed-returns (Err (Halted status)) ((s, m), f) u
listed-after pc (answer.Stopped reason) s m f o u = listed-returns (Err (Stopped pc reason)) ((s, m), f) u
listed-after pc answer.OutOfMemory s m f o u = listed-returns (Err OutOfMemory) ((s, m), f) u

-- what the list machine goes on with after a turn, where that is not wild
abbrev on-turn : ℕ → FlagsOf → Answered TurnAnswer → Course (Result (Unit {0}) SessionEnd) SessionWorld
on-turn pc f a = course (session_goes list_machine) (after_turn pc a.0) ((a.1, a.2), f)

listed-turned : (s : State) (m : HostModel) (f : FlagsOf) → HasWindow s → IsUntouched ((s, m), f) → Listed turned_plan ((s, m), f)
unfolding turned_plan place_plan turn_at turn_made bind end_of course conversing running
listed-turned s m f h u = by (turn_is_wild (as_list_state s)) refl (turn-listed-so s m (list-window s h) u)
  where
    by : (b : Bool) → turn_is_wild (as_list_state s) ≡ b → run.TurnGoesAsList b (as_list_state s) m (turn_answer (turn s m)) →
        GoesAsList (then_on (λ r v. course (session_goes list_machine) (after_turn s.pc r) v) (keeping_flags f (cond b (meets_wild (as_list_state s, m))
        (ends (turn_answer (turn (as_list_state s) m)).0 ((turn_answer (turn (as_list_state s) m)).1, (turn_answer (turn (as_list_state s) m)).2)))))
        (end_of conversing (after_turn s.pc (turn_answer (turn s m)).0) (((turn_answer (turn s m)).1, (turn_answer (turn s m)).2), f)).0
        (end_of conversing (after_turn s.pc (turn_answer (turn s m)).0) (((turn_answer (turn s m)).1, (turn_answer (turn s m)).2), f)).1
    by true e g = (streams-end turned_plan ((s, m), f)).growing
    by false e g =
        let last = end_of conversing (after_turn s.pc (turn_answer (turn s m)).0) (((turn_answer (turn s m)).1, (turn_answer (turn s m)).2), f) in
        subst (λ (x : Answered TurnAnswer). GoesAsList (on-turn s.pc f x) last.0 last.1) g.0
        (listed-after s.pc (turn_answer (turn s m)).0 (turn_answer (turn s m)).1 (turn_answer (turn s m)).2 f (turn-outside s m (sym (wild-listed s h.window h.machine u) ∙ e)) g.1)

pub listed-stepped : (steps : ℕ) (s : State) (m : HostModel) (f : FlagsOf) → HasWindow s → IsUntouched ((s, m), f) → Listed (stepped_plan steps) ((s, m), f)
unfolding stepped_plan count_plan bind end_of course conversing
listed-stepped steps s m f h u = by (steps - s.steps == 0)
  where
    by : (b : Bool) → Listed (cond b (returns (Err Spent)) turned_plan) ((s, m), f)
    by true = listed-returns (Err Spent) ((s, m), f) u
    by false = listed-turned s m f h u

-- ---- what the code tells of a run, over both machines

pub run-both : (n : ℕ) (f : FlagsOf) (pass : Bool) (s t : State) (m k : HostModel) (end : End) → Comes running (s, m) (t, k) ending.OutOfMemory end (run_plan n f pass) →
    (end ≢ ending.OutOfMemory → s.touched ≡ false → run.GoesAsList (run_by list_machine n f pass (as_list_state s) m) end (t, k)) → runs.RunsBoth (s, m) (t, k) ending.OutOfMemory end (run_plan n f pass)
unfolding run_by
run-both n f pass s t m k end c g = record { window = c; list = λ u ne. g ne u }
