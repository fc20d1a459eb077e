-- What a session's clauses say, from the plan that it carries out.
use Rattle.std.proofs.Common.{◌≡◌, ◌≢◌, ℕ, Option, ◌∙◌, ap, subst, IsTrue}
use Rattle.mx_word.specs.Lists.{IsFront}
use Rattle.mx_host.specs.HostModel.{HostModel, tells, contents}
use Rattle.mx_host.specs.Keeping.{Keeps}
use Rattle.mx_plan.specs.Clauses.{KeepsHost}
use Rattle.mx_plan.specs.Plan.{Comes}
use Rattle.mx_plan.specs.Wild.{ends}
use Rattle.mx_core.specs.State.{State}
use Rattle.mx_run.specs.Runs.{FlagsOf}
use Rattle.mx_run.specs.WildRuns.{window_machine}
use Rattle.mx_con.specs.Clauses.{session_output}
use Rattle.mx_con.specs.Session.{session_ended, session}
use Rattle.mx_con.specs.SessionPlans.{SessionWorld, conversing, session_plan}
use Rattle.mx_con.specs.declared.end.SessionEnd.{SessionEnd}
use Rattle.mx_con.specs.declared.end.SessionEnd.TheVariants.{OutOfMemory}
use Rattle.mx_con.proofs.HeldSessions.{session-streams, keeps-by, output-front}
use Rattle.mx_con.proofs.SessionCourses.{session-end}

pub session-told : (steps : ℕ) (s t : State) (f g : FlagsOf) (m n : HostModel) (end : SessionEnd) → Comes conversing ((s, m), f) ((t, n), g) OutOfMemory end (session_plan steps) → end ≢ OutOfMemory →
    ends end ((t, n), g) ≡ session window_machine steps s f m
session-told steps s t f g m n end c ne = ap session_ended (c.ending ne) ∙ session-end steps s f m

pub session-begun : (steps : ℕ) (s t : State) (f g : FlagsOf) (m n : HostModel) (end : SessionEnd) → Comes conversing ((s, m), f) ((t, n), g) OutOfMemory end (session_plan steps) → end ≡ OutOfMemory →
    IsFront n.output (session_output (session window_machine steps s f m))
session-begun steps s t f g m n end c e =
    subst (λ r. IsFront n.output (session_output r)) (session-end steps s f m) (output-front (session_plan steps) ((t, n), g) ((s, m), f) (c.stopping e))

pub session-keeps : (old new : Option HostModel) (earlier later steps : ℕ) (s t : State) (f g : FlagsOf) (end : SessionEnd) →
    (IsTrue (tells old) → Comes conversing ((s, contents old), f) ((t, contents new), g) OutOfMemory end (session_plan steps)) → KeepsHost old new earlier later → Keeps old new earlier later
session-keeps old new earlier later steps s t f g end c h =
    keeps-by old new earlier later h (λ u. session-streams ((s, contents old), f) ((t, contents new), g) end (session_plan steps) (c u))

pub ruleset sessions = (session-told, session-begun)
