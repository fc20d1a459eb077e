-- Where no call that is made fails, a session comes to the same whatever the count of calls, and whatever the list of
-- those that fail.
use Rattle.std.proofs.Common.{ℕ, Bool, true, false, cond}
use Rattle.mx_host.proofs.Still.{still}
use Rattle.mx_host.specs.HostAnswer.{Then}
use Rattle.mx_host.specs.HostModel.{HostModel}
use Rattle.mx_plan.specs.Calls.{HostSays}
use Rattle.mx_plan.specs.Plan.{returns, calls, end_of}
use Rattle.mx_plan.specs.Wild.{Course, ends, meets_wild, world_of, course, carried}
use Rattle.mx_plan.proofs.Spared.{Spares, uncalled, after, plan-spared}
use Rattle.mx_plan.proofs.WildLaws.{SparedCourse, course_still, course_spared}
use Rattle.mx_core.specs.State.{State}
use Rattle.mx_run.proofs.SteadyRuns.{turn_still, turn-steady}
use Rattle.mx_run.specs.WildRuns.{run_goes, run_by}
use Rattle.mx_run.specs.RunPlans.{RunCall, turning, looking, RunWorld, running, run_plan}
use Rattle.mx_run.specs.Runs.{FlagsOf}
use Rattle.mx_run.specs.Turns.{Turn, went_on, halts, stops, turn, turn_answer}
use Rattle.mx_run.specs.WildRuns.{MachineKind, ends_wild, host_after}
use Rattle.mx_run.specs.declared.turn_answer.TurnAnswer.{TurnAnswer}
use Rattle.mx_con.specs.Session.{keeping_flags, command_ends_wild, session_goes, session}
use Rattle.mx_con.specs.SessionPlans.{SessionCall, of_host, of_turn, of_run, replying, SessionSays, SessionWorld, conversing, session_plan}
use Rattle.mx_con.specs.declared.end.SessionEnd.{SessionEnd}

-- ---- runs

abbrev run_host : RunWorld → HostModel
run_host w = w.1

abbrev run_still : RunWorld → RunWorld
run_still w = (w.0, still w.1)

abbrev answered : Turn → Course TurnAnswer RunWorld
answered t = ends (turn_answer t).0 ((turn_answer t).1, (turn_answer t).2)

answered-spared : (t : Turn) → Spares (host_after t) (run_host (world_of (answered t))) (course_still run_still (answered t)) (answered (turn_still t))
answered-spared (went_on s m trace) = uncalled
answered-spared (halts status s m) = uncalled
answered-spared (stops reason s m) = uncalled

run-call-spared : (kind : MachineKind) (o : RunCall) (w : RunWorld) → SparedCourse run_host run_still w (run_goes kind o w) (run_goes kind o (run_still w))
unfolding running
run-call-spared kind turning w = by (ends_wild kind w.0)
  where
    by : (b : Bool) → SparedCourse run_host run_still w (cond b (meets_wild w) (answered (turn w.0 w.1))) (cond b (meets_wild (run_still w)) (answered (turn w.0 (still w.1))))
    by true = uncalled
    by false = after answered (turn-steady w.0 w.1) (answered-spared (turn w.0 w.1))
run-call-spared kind looking w = uncalled

-- ---- sessions

abbrev pub world_host : SessionWorld → HostModel
world_host w = w.0.1

abbrev pub world_still : SessionWorld → SessionWorld
world_still w = (run_still w.0, w.1)

flags-spared : {A : Type 0} {m : HostModel} (f : FlagsOf) (t u : Course A RunWorld) → Spares m (run_host (world_of t)) (course_still run_still t) u →
    Spares m (world_host (world_of (keeping_flags f t))) (course_still world_still (keeping_flags f t)) (keeping_flags f u)
flags-spared {A} f t u h = after (keeping_flags f) h (by t)
  where
    by : (t : Course A RunWorld) → Spares (run_host (world_of t)) (world_host (world_of (keeping_flags f t))) (course_still world_still (keeping_flags f t)) (keeping_flags f (course_still run_still t))
    by (ends a w) = uncalled
    by (meets_wild w) = uncalled

call-spared : (kind : MachineKind) (o : SessionCall) (w : SessionWorld) → SparedCourse world_host world_still w (session_goes kind o w) (session_goes kind o (world_still w))
unfolding conversing run_by end_of
call-spared kind (of_host o) w =
    let say : Then (HostSays o) → Course (SessionSays (of_host o)) SessionWorld = λ t. ends t.0 ((w.0.0, t.1), w.1) in
    after say (plan-spared (calls o (λ r. returns r)) w.0.1) uncalled
call-spared kind of_turn w = flags-spared w.1 (run_goes kind turning w.0) (run_goes kind turning (run_still w.0)) (run-call-spared kind turning w.0)
call-spared kind (of_run n pass) w =
    flags-spared w.1 (course (run_goes kind) (run_plan n w.1 pass) w.0) (course (run_goes kind) (run_plan n w.1 pass) (run_still w.0))
    (course_spared run_host run_still (run_goes kind) (run-call-spared kind) (run_plan n w.1 pass) w.0)
call-spared kind (replying shown command) w = by (command_ends_wild kind shown command)
  where
    by : (b : Bool) → SparedCourse world_host world_still w (cond b (meets_wild w) (carried conversing (replying shown command) w)) (cond b (meets_wild (world_still w)) (carried conversing (replying shown command) (world_still w)))
    by true = uncalled
    by false = uncalled
call-spared kind other w = uncalled

pub session-steady : (kind : MachineKind) (steps : ℕ) (s : State) (f : FlagsOf) (m : HostModel) →
    SparedCourse world_host world_still ((s, m), f) (session kind steps s f m) (session kind steps s f (still m))
unfolding session
session-steady kind steps s f m = course_spared world_host world_still (session_goes kind) (call-spared kind) (session_plan steps) ((s, m), f)
