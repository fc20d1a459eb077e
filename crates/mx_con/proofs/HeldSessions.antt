-- What every call of a host keeps, every session over it keeps.
use Rattle.std.proofs.Common.{◌≢◌, ℕ, Bool, true, false, cond, Option, Result, Err, refl, ap, IsTrue}
use Rattle.mx_host.specs.HostModel.{HostModel, tells, contents}
use Rattle.mx_host.specs.Keeping.{Keeps}
use Rattle.mx_plan.specs.Clauses.{KeepsHost}
use Rattle.mx_plan.specs.Plan.{Comes, Stops, end_of}
use Rattle.mx_plan.specs.Wild.{Course, ends, meets_wild, world_of, course, carried}
use Rattle.mx_plan.specs.Calls.{host}
use Rattle.mx_plan.specs.Held.{Held, KeepsStreams, OnlyAdds}
use Rattle.mx_plan.proofs.HeldLaws.{held-end, held-stop, held-on}
use Rattle.mx_plan.proofs.Streams.{streams-held}
use Rattle.mx_plan.proofs.WildLaws.{course_held}
use Rattle.mx_run.specs.WildRuns.{run_goes, run_by}
use Rattle.mx_run.specs.RunPlans.{RunCall, turning, looking, RunWorld, running, run_plan}
use Rattle.mx_run.specs.Runs.{FlagsOf}
use Rattle.mx_run.specs.WildRuns.{MachineKind, ends_wild}
use Rattle.mx_run.proofs.HeldRuns.{run-held}
use Rattle.mx_con.specs.Session.{keeping_flags, command_ends_wild, session_goes}
use Rattle.mx_con.specs.SessionPlans.{SessionCall, of_host, of_turn, of_run, replying, SessionWorld, SessionPlan, Part, conversing}
use Rattle.mx_con.specs.declared.end.SessionEnd.{SessionEnd}
use Rattle.mx_con.specs.declared.end.SessionEnd.TheVariants.{OutOfMemory}

abbrev pub Beside : (HostModel → HostModel → Type 0) → SessionWorld → SessionWorld → Type 0
Beside Rel v w = Rel v.0.1 w.0.1

abbrev OverRuns : (HostModel → HostModel → Type 0) → RunWorld → RunWorld → Type 0
OverRuns Rel v w = Rel v.1 w.1

pub session-held : (Rel : HostModel → HostModel → Type 0) → Held host Rel → Held conversing (Beside Rel)
unfolding conversing
session-held Rel h = record {
  self = λ w. h.self w.0.1;
  through = λ u v w a b. h.through u.0.1 v.0.1 w.0.1 a b;
  acting = acts;
  lacking = lacks;
  between = lies;
}
  where
    run : Held running (OverRuns Rel)
    run = run-held Rel h

    acts : (o : SessionCall) (w : SessionWorld) → Rel w.0.1 (conversing.act o w).1.0.1
    acts (of_host o) w = h.acting o w.0.1
    acts of_turn w = run.acting turning w.0
    acts (of_run n pass) w = held-end running (OverRuns Rel) run (run_plan n w.1 pass) w.0
    acts other w = h.self w.0.1

    lacks : (o : SessionCall) (w v : SessionWorld) → conversing.Lacks o w v → Rel w.0.1 v.0.1
    lacks (of_host o) w v l = h.lacking o w.0.1 v.0.1 l.1.1
    lacks of_turn w v l = run.lacking turning w.0 v.0 l.0
    lacks (of_run n pass) w v l = held-stop running (OverRuns Rel) run (run_plan n w.1 pass) v.0 w.0 l.0
    lacks (replying shown command) w v l = rw l (h.self w.0.1)
    lacks other w v l = absurd l

    lies : (o : SessionCall) (w v : SessionWorld) → conversing.Lacks o w v → Rel v.0.1 (conversing.act o w).1.0.1
    lies (of_host o) w v l = h.between o w.0.1 v.0.1 l.1.1
    lies of_turn w v l = run.between turning w.0 v.0 l.0
    lies (of_run n pass) w v l = held-on running (OverRuns Rel) run (run_plan n w.1 pass) v.0 w.0 l.0
    lies (replying shown command) w v l = rw l (h.self w.0.1)
    lies other w v l = absurd l

-- ---- plans

pub streams-end : {A : Type 0} (p : SessionPlan A) (w : SessionWorld) → KeepsStreams w.0.1 (end_of conversing p w).1.0.1
streams-end p w = held-end conversing (Beside KeepsStreams) (session-held KeepsStreams streams-held) p w

pub streams-stop : {A : Type 0} (p : SessionPlan A) (v w : SessionWorld) → Stops conversing v p w → KeepsStreams w.0.1 v.0.1
streams-stop p v w s = held-stop conversing (Beside KeepsStreams) (session-held KeepsStreams streams-held) p v w s

pub output-front : {A : Type 0} (p : SessionPlan A) (v w : SessionWorld) → Stops conversing v p w → OnlyAdds v.0.1 (end_of conversing p w).1.0.1
output-front p v w s = (held-on conversing (Beside KeepsStreams) (session-held KeepsStreams streams-held) p v w s).growing

pub ruleset laws = (streams-stop, output-front)

-- ---- what a session keeps

ended-streams : {A : Type 0} (v w : SessionWorld) (none r : A) (p : SessionPlan A) → Comes conversing v w none r p → r ≢ none → KeepsStreams v.0.1 w.0.1
ended-streams {A} v w none r p c ne = rw (ap (λ (t : A × SessionWorld). t.1.0.1) (c.ending ne)) (streams-end p v)

pub part-streams : {A : Type 0} (v w : SessionWorld) (r : Result A SessionEnd) (p : Part A) → Comes conversing v w (Err OutOfMemory) r p → KeepsStreams v.0.1 w.0.1
part-streams v w (Err OutOfMemory) p c = streams-stop p w v (c.stopping refl)
part-streams v w r p c = ended-streams v w (Err OutOfMemory) r p c (λ e. absurd (cc))

pub session-streams : (v w : SessionWorld) (r : SessionEnd) (p : SessionPlan SessionEnd) → Comes conversing v w OutOfMemory r p → KeepsStreams v.0.1 w.0.1
session-streams v w OutOfMemory p c = streams-stop p w v (c.stopping refl)
session-streams v w end p c = ended-streams v w OutOfMemory end p c (λ e. absurd (cc))

pub keeps-by : (old new : Option HostModel) (earlier later : ℕ) → KeepsHost old new earlier later → (IsTrue (tells old) → KeepsStreams (contents old) (contents new)) → Keeps old new earlier later
keeps-by old new earlier later h k = record {
  telling = h.0;
  counting = h.1;
  input = λ t. (k t).input;
  output = λ t. (k t).output;
  errors = λ t. (k t).errors;
  growing = λ t. (k t).growing;
}

-- ---- over either machine

run-goes-on : (Rel : HostModel → HostModel → Type 0) → Held host Rel → (kind : MachineKind) (o : RunCall) (w : RunWorld) → Rel w.1 (world_of (run_goes kind o w)).1
run-goes-on Rel h kind turning w = by (ends_wild kind w.0)
  where
    by : (b : Bool) → Rel w.1 (world_of (cond b (meets_wild w) (carried running turning w))).1
    by true = h.self w.1
    by false = (run-held Rel h).acting turning w
run-goes-on Rel h kind looking w = (run-held Rel h).acting looking w

flags-kept : (Rel : HostModel → HostModel → Type 0) {A : Type 0} (f : FlagsOf) (m : HostModel) (c : Course A RunWorld) → Rel m (world_of c).1 → Rel m (world_of (keeping_flags f c)).0.1
flags-kept Rel f m (ends a w) h = h
flags-kept Rel f m (meets_wild w) h = h

call-goes-on : (Rel : HostModel → HostModel → Type 0) → Held host Rel → (kind : MachineKind) (o : SessionCall) (w : SessionWorld) → Beside Rel w (world_of (session_goes kind o w))
unfolding run_by
call-goes-on Rel h kind of_turn w = flags-kept Rel w.1 w.0.1 (run_goes kind turning w.0) (run-goes-on Rel h kind turning w.0)
call-goes-on Rel h kind (of_run n pass) w =
    flags-kept Rel w.1 w.0.1 (course (run_goes kind) (run_plan n w.1 pass) w.0)
    (course_held (run_goes kind) (OverRuns Rel) (λ v. h.self v.1) (λ u v x a b. h.through u.1 v.1 x.1 a b) (run-goes-on Rel h kind) (run_plan n w.1 pass) w.0)
call-goes-on Rel h kind (replying shown command) w = by (command_ends_wild kind shown command)
  where
    by : (b : Bool) → Beside Rel w (world_of (cond b (meets_wild w) (carried conversing (replying shown command) w)))
    by true = h.self w.0.1
    by false = (session-held Rel h).acting (replying shown command) w
call-goes-on Rel h kind other w = (session-held Rel h).acting other w

pub course-keeps : {A : Type 0} (Rel : HostModel → HostModel → Type 0) → Held host Rel → (kind : MachineKind) (p : SessionPlan A) (w : SessionWorld) → Beside Rel w (world_of (course (session_goes kind) p w))
course-keeps Rel h kind p w = course_held (session_goes kind) (Beside Rel) (λ v. h.self v.0.1) (λ u v x a b. h.through u.0.1 v.0.1 x.0.1 a b) (call-goes-on Rel h kind) p w
