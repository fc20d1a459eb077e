-- Parts of a session over the window's machine and over the list that it represents: one after another, and what is left of a whole.
use Rattle.std.proofs.Common.{◌≢◌, Ok, Err, refl, sym, subst}
use Rattle.std.specs.Prelude.{Result}
use Rattle.mx_word.proofs.Fronts.{front-through}
use Rattle.mx_host.specs.HostModel.{HostModel}
use Rattle.mx_plan.specs.Plan.{returns, bind, end_of, Comes}
use Rattle.mx_plan.specs.Calls.{host, HostPlan}
use Rattle.mx_plan.specs.Wild.{Course, ends, meets_wild, then_on, course, alike}
use Rattle.mx_plan.proofs.BothWorlds.{both-then, rest-both, whole-both}
use Rattle.mx_plan.proofs.WildLaws.{course_bind}
use Rattle.mx_core.specs.Bounds.{as_list_state}
use Rattle.mx_core.specs.State.{State}
use Rattle.mx_run.specs.Runs.{FlagsOf}
use Rattle.mx_run.specs.WildRuns.{list_machine}
use Rattle.mx_con.specs.Clauses.{as_list_world, IsUntouched, WritesOn, GoesAsList, ConversesBoth, RestsBoth}
use Rattle.mx_con.specs.LinePlans.{on_ok}
use Rattle.mx_con.specs.Session.{session_goes}
use Rattle.mx_con.specs.SessionPlans.{SessionWorld, SessionPlan, Part, conversing, host_in_session}
use Rattle.mx_con.specs.declared.end.SessionEnd.{SessionEnd}
use Rattle.mx_con.specs.declared.end.SessionEnd.TheVariants.{OutOfMemory}
use Rattle.mx_con.proofs.HeldSessions.{streams-end, part-streams}
use Rattle.mx_con.proofs.Rests.{rest-ended, returned}
use Rattle.mx_con.proofs.SessionCourses.{end_on_host, course_on_host, end_then}

-- a part only adds to standard output, so what something wild was passed before stays so
pub writes : {A : Type 0} (p : Part A) (v w : SessionWorld) (r : Result A SessionEnd) → Comes conversing v w (Err OutOfMemory) r p → (x : SessionWorld) → WritesOn x v → WritesOn x w
writes p v w r c x h = front-through x.0.1.output v.0.1.output w.0.1.output h (part-streams v w r p c).growing

-- ---- plans that go alike: beside its end over the window, what a plan comes to over the list

abbrev pub Listed : {A : Type 0} → SessionPlan A → SessionWorld → Type 0
Listed p w = GoesAsList (course (session_goes list_machine) p (as_list_world w)) (end_of conversing p w).0 (end_of conversing p w).1

pub listed-returns : {A : Type 0} (a : A) (w : SessionWorld) → IsUntouched w → Listed (returns a) w
unfolding course end_of
listed-returns a w u = (refl, (refl, u))

pub listed-host : {A : Type 0} (p : HostPlan A) (s : State) (m : HostModel) (f : FlagsOf) → IsUntouched ((s, m), f) → Listed (host_in_session p) ((s, m), f)
listed-host {A} p s m f u =
    subst (λ (t : A × SessionWorld). GoesAsList (course (session_goes list_machine) (host_in_session p) ((as_list_state s, m), f)) t.0 t.1) (sym (end_on_host p s m f))
    (subst (λ (c : Course A SessionWorld). GoesAsList c (end_of host p m).0 ((s, (end_of host p m).1), f)) (sym (course_on_host list_machine p (as_list_state s) m f)) (refl, (refl, u)))

-- what follows
pub goes-on : {A B : Type 0} (f : A → SessionPlan B) (x : A) (mid new : SessionWorld) (r : B) (c : Course A SessionWorld) → GoesAsList c x mid → ((v : SessionWorld) → WritesOn v mid → WritesOn v new) →
    (IsUntouched mid → GoesAsList (course (session_goes list_machine) (f x) (as_list_world mid)) r new) → GoesAsList (then_on (λ a v. course (session_goes list_machine) (f a) v) c) r new
goes-on {A} f x mid new r (ends a v) h through next =
    subst (λ (b : A). GoesAsList (course (session_goes list_machine) (f b) v) r new) (sym h.0)
    (subst (λ (u : SessionWorld). GoesAsList (course (session_goes list_machine) (f x) u) r new) (sym h.1.0) (next h.1.1))
goes-on f x mid new r (meets_wild v) h through next = through v h

pub listed-bind : {A B : Type 0} (f : A → SessionPlan B) (p : SessionPlan A) (w : SessionWorld) → Listed p w →
    (IsUntouched (end_of conversing p w).1 → Listed (f (end_of conversing p w).0) (end_of conversing p w).1) → Listed (bind f p) w
listed-bind {A} {B} f p w h next =
    let x = (end_of conversing p w).0 in
    let mid = (end_of conversing p w).1 in
    let last = end_of conversing (f x) mid in
    subst (λ (t : B × SessionWorld). GoesAsList (course (session_goes list_machine) (bind f p) (as_list_world w)) t.0 t.1) (sym (end_then f p w))
    (subst (λ (c : Course B SessionWorld). GoesAsList c last.0 last.1) (sym (course_bind (session_goes list_machine) f p (as_list_world w)))
    (goes-on f x mid last.1 last.0 (course (session_goes list_machine) p (as_list_world w)) h (λ v k. front-through v.0.1.output mid.0.1.output last.1.0.1.output k (streams-end (f x) mid).growing) next))

pub listed-ok : {A B : Type 0} (f : A → Part B) (r : Result A SessionEnd) (w : SessionWorld) → IsUntouched w → ((x : A) → Listed (f x) w) → Listed (on_ok f r) w
listed-ok f (Ok x) w u h = h x
listed-ok f (Err end) w u h = listed-returns (Err end) w u

-- a part, and then another
pub listed-then : {A B : Type 0} (f : A → Part B) (p : Part A) (w : SessionWorld) → Listed p w → ((x : A) (v : SessionWorld) → IsUntouched v → Listed (f x) v) → Listed (bind (on_ok f) p) w
listed-then f p w h next = listed-bind (on_ok f) p w h (λ u. listed-ok f (end_of conversing p w).0 (end_of conversing p w).1 u (λ x. next x (end_of conversing p w).1 u))

-- what the code knows of a plan over the window, where the plan goes alike, is what is asked of it over both
pub listed-both : {A : Type 0} (p : SessionPlan A) (none r : A) (v w : SessionWorld) → (IsUntouched v → Listed p v) → Comes conversing v w none r p → ConversesBoth v w none r p
listed-both {A} p none r v w h c = record {
  window = c;
  list = λ u ne. subst (λ (t : A × SessionWorld). GoesAsList (course (session_goes list_machine) p (as_list_world v)) t.0 t.1) (sym (c.ending ne)) (h u);
}

-- ---- parts over both machines

pub then-both : {A B : Type 0} (f : A → Part B) (p : Part A) (x : A) (v w u : SessionWorld) (r : Result B SessionEnd) → ConversesBoth v w (Err OutOfMemory) (Ok x) p → ConversesBoth w u (Err OutOfMemory) r (f x) →
    ConversesBoth v u (Err OutOfMemory) r (bind (on_ok f) p)
then-both f p x v w u r h n =
    both-then conversing (session_goes list_machine) as_list_world IsUntouched WritesOn (on_ok f) p (Ok x) (Err OutOfMemory) (Err OutOfMemory) r v w u (λ e. absurd (cc)) (writes (f x) w u r n.window) h n

-- ---- what is left of a whole

pub all-both : {A : Type 0} (p : SessionPlan A) (w : SessionWorld) → RestsBoth p w p w
all-both p w = record { window = record { ending = refl; stopping = λ v h. h }; list = λ u. alike u refl }

-- the next part of it is done
pub rest-next : {A B : Type 0} (f : A → Part B) (p : Part A) (x : A) (v w start : SessionWorld) (whole : Part B) → RestsBoth (bind (on_ok f) p) v whole start → ConversesBoth v w (Err OutOfMemory) (Ok x) p →
    RestsBoth (f x) w whole start
rest-next f p x v w start whole r h =
    rest-both conversing (session_goes list_machine) as_list_world IsUntouched WritesOn (on_ok f) p (Ok x) (Err OutOfMemory) v w start whole (λ e. absurd (cc)) (writes p v w (Ok x) h.window) h r

pub done-both : {A : Type 0} (r : Result A SessionEnd) (w : SessionWorld) → r ≢ Err OutOfMemory → ConversesBoth w w (Err OutOfMemory) r (returns r)
done-both r w ne = listed-both (returns r) (Err OutOfMemory) r w w (listed-returns r w) (returned conversing r w ne)

-- an answer is left
pub rest-answer : {A : Type 0} (r : Result A SessionEnd) (w start : SessionWorld) (whole : Part A) → r ≢ Err OutOfMemory → RestsBoth (returns r) w whole start → ConversesBoth start w (Err OutOfMemory) r whole
rest-answer r w start whole ne l =
    whole-both conversing (session_goes list_machine) as_list_world IsUntouched WritesOn (returns r) whole (Err OutOfMemory) r w w start (λ v h. h) (done-both r w ne) l

-- or ends the session
pub rest-over : {A B : Type 0} (f : A → Part B) (p : Part A) (end : SessionEnd) (v w start : SessionWorld) (whole : Part B) → RestsBoth (bind (on_ok f) p) v whole start → ConversesBoth v w (Err OutOfMemory) (Err end) p →
    ConversesBoth start w (Err OutOfMemory) (Err end) whole
rest-over f p end v w start whole r h = record {
  window = rest-ended conversing f p end v w start whole r.window h.window;
  list = λ u ne. (rest-answer (Err end) w start whole ne
      (rest-both conversing (session_goes list_machine) as_list_world IsUntouched WritesOn (on_ok f) p (Err end) (Err OutOfMemory) v w start whole (λ e. ne (cc)) (writes p v w (Err end) h.window) h r)).list u ne;
}

-- a part that ends the session, whatever would follow
pub over-both : {A B : Type 0} (f : A → Part B) (p : Part A) (end : SessionEnd) (v w : SessionWorld) → ConversesBoth v w (Err OutOfMemory) (Err end) p → ConversesBoth v w (Err OutOfMemory) (Err end) (bind (on_ok f) p)
over-both f p end v w h = rest-over f p end v w v (bind (on_ok f) p) (all-both (bind (on_ok f) p) v) h
