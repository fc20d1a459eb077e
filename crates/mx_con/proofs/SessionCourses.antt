-- What the plans of a session come to: over the host alone, one after another, and over either machine.
use Rattle.std.proofs.Common.{◌≡◌, inl, inr, refl, sym, ◌∙◌, ap, ℕ}
use Rattle.mx_host.specs.HostModel.{HostModel}
use Rattle.mx_plan.specs.Plan.{returns, calls, bind, end_of, Stops}
use Rattle.mx_plan.specs.Calls.{host, HostPlan}
use Rattle.mx_plan.specs.Wild.{Course, ends, then_on, course, carried}
use Rattle.mx_core.specs.State.{State}
use Rattle.mx_run.specs.WildRuns.{run_goes, run_by}
use Rattle.mx_run.specs.RunPlans.{turning, looking, RunWorld, RunPlan, running, run_plan}
use Rattle.mx_run.specs.Runs.{FlagsOf}
use Rattle.mx_run.specs.WildRuns.{MachineKind, window_machine}
use Rattle.mx_con.specs.Session.{keeping_flags, session_goes, session_ended, session}
use Rattle.mx_con.specs.SessionPlans.{SessionCall, of_run, SessionSays, SessionWorld, SessionPlan, conversing, beside_machine, host_in_session, session_plan}

-- ---- over the host alone

pub end_on_host : {A : Type 0} (p : HostPlan A) (s : State) (m : HostModel) (f : FlagsOf) → end_of conversing (host_in_session p) ((s, m), f) ≡ beside_machine ((s, m), f) (end_of host p m)
unfolding host_in_session end_of conversing
end_on_host (returns a) s m f = refl
end_on_host (calls o k) s m f = end_on_host (k (host.act o m).0) s (host.act o m).1 f

pub stops_on_host : {A : Type 0} (p : HostPlan A) (s : State) (m n : HostModel) (f : FlagsOf) → Stops host n p m → Stops conversing ((s, n), f) (host_in_session p) ((s, m), f)
unfolding host_in_session Stops conversing
stops_on_host (returns a) s m n f h = absurd h
stops_on_host (calls o k) s m n f (inl e) = inl (refl, (refl, e))
stops_on_host (calls o k) s m n f (inr h) = inr (stops_on_host (k (host.act o m).0) s (host.act o m).1 n f h)

pub course_on_host : {A : Type 0} (kind : MachineKind) (p : HostPlan A) (s : State) (m : HostModel) (f : FlagsOf) →
    course (session_goes kind) (host_in_session p) ((s, m), f) ≡ ends (end_of host p m).0 ((s, (end_of host p m).1), f)
unfolding host_in_session course end_of conversing
course_on_host kind (returns a) s m f = refl
course_on_host kind (calls o k) s m f = course_on_host kind (k (host.act o m).0) s (host.act o m).1 f

-- ---- one plan, and then another

pub end_then : {A B : Type 0} (f : A → SessionPlan B) (p : SessionPlan A) (w : SessionWorld) → end_of conversing (bind f p) w ≡ end_of conversing (f (end_of conversing p w).0) (end_of conversing p w).1
unfolding bind end_of
end_then f (returns a) w = refl
end_then f (calls o k) w = end_then f (k (conversing.act o w).0) (conversing.act o w).1

-- ---- over a window of registers, what a plan comes to is its end

pub run-window : {A : Type 0} (p : RunPlan A) (w : RunWorld) → course (run_goes window_machine) p w ≡ ends (end_of running p w).0 (end_of running p w).1
unfolding course end_of running
run-window (returns a) w = refl
run-window (calls turning k) w = run-window (k (running.act turning w).0) (running.act turning w).1
run-window (calls looking k) w = run-window (k (running.act looking w).0) (running.act looking w).1

call-window : (o : SessionCall) (w : SessionWorld) → session_goes window_machine o w ≡ carried conversing o w
unfolding conversing running run_by
call-window (of_run n pass) w = ap (keeping_flags w.1) (run-window (run_plan n w.1 pass) w.0)
call-window other w = refl

pub window-course : {A : Type 0} (p : SessionPlan A) (w : SessionWorld) → course (session_goes window_machine) p w ≡ ends (end_of conversing p w).0 (end_of conversing p w).1
unfolding course end_of
window-course (returns a) w = refl
window-course {A} (calls o k) w =
    ap (λ (c : Course (SessionSays o) SessionWorld). then_on (λ r v. course (session_goes window_machine) (k r) v) c) (call-window o w) ∙ window-course (k (conversing.act o w).0) (conversing.act o w).1

pub session-end : (steps : ℕ) (s : State) (f : FlagsOf) (m : HostModel) → session_ended (end_of conversing (session_plan steps) ((s, m), f)) ≡ session window_machine steps s f m
unfolding session
session-end steps s f m = sym (window-course (session_plan steps) ((s, m), f))

pub ruleset courses = (session-end)
