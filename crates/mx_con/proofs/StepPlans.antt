-- Steps and runs as plans.
use Rattle.std.proofs.Common.{◌≡◌, ◌≢◌, ◌⊎◌, inl, inr, ℕ, suc, ◌+◌, ◌-◌, ◌<◌, ◌≤◌, ◌==◌, Bool, true, false, cond, Option, None, Some, Result, Ok, Err, arith, refl, sym, ◌∙◌, ap, subst, IsTrue}
use Rattle.std.proofs.lemmas.Bool.Decides.{nat_tests}
use Rattle.mx_host.specs.HostModel.{HostModel, tells, contents}
use Rattle.mx_plan.specs.Plan.{returns, bind, end_of, Stops, Comes}
use Rattle.mx_plan.specs.Calls.{host, HostPlan}
use Rattle.mx_plan.specs.Wild.{Course, ends, meets_wild, then_on, course, GoesAs, alike}
use Rattle.mx_plan.proofs.Plans.{stops_first}
use Rattle.mx_plan.proofs.WildLaws.{EndsSo}
use Rattle.mx_plan.specs.Clauses.{KeepsHost}
use Rattle.mx_core.specs.Bounds.{as_list_state}
use Rattle.mx_core.specs.State.{State}
use Rattle.mx_code.specs.declared.trace.Trace.{Trace}
use Rattle.mx_run.specs.RunCourses as runs
use Rattle.mx_run.specs.WildRuns.{run_goes, run_by}
use Rattle.mx_run.specs.RunPlans.{turning, RunWorld, running, turn_plan, run_plan}
use Rattle.mx_run.specs.Runs.{FlagsOf}
use Rattle.mx_run.specs.WildRuns.{list_machine}
use Rattle.mx_run.specs.declared.end.BreakKind.{BreakKind}
use Rattle.mx_run.specs.declared.end.End.{End}
use Rattle.mx_run.specs.declared.end.End.TheVariants as ending
use Rattle.mx_run.specs.declared.turn_answer.TurnAnswer.{TurnAnswer}
use Rattle.mx_run.specs.declared.turn_answer.TurnAnswer.TheVariants as answer
use Rattle.mx_con.specs.ConsoleTexts.{break_text}
use Rattle.mx_show.specs.Texts.{trace_text}
use Rattle.mx_con.specs.LinePlans.{on_ok, line_plan}
use Rattle.mx_con.specs.Session.{keeping_flags, session_goes}
use Rattle.mx_con.specs.SessionPlans.{SessionWorld, Part, conversing, beside_machine, beside_flags, host_in_session, turn_made, run_made, count_plan, place_plan, trace_plan, traced_plan, after_turn, turn_at, turned_plan, stepped_plan, going, broke_plan, break_plan, after_end, one_run_plan, run_on, runs_plan, continued_plan}
use Rattle.mx_con.specs.declared.end.SessionEnd.{SessionEnd}
use Rattle.mx_con.specs.declared.end.SessionEnd.TheVariants.{Halted, Stopped, Spent, OutOfMemory}
use Rattle.mx_con.specs.Clauses.{DoesSessionPart, DoesPlan, DoesOnHost, GoesAsList, ConversesBoth, RestsBoth}
use Rattle.mx_con.proofs.ListedRuns.{listed-end}
use Rattle.mx_con.proofs.Parts.{IsLeft, part-after, part-with, part-over, part-alone, all-left, next-left, over-left, answer-left}
use Rattle.mx_con.proofs.QuietTraces.{EndOutside, run-outside}
use Rattle.mx_con.proofs.Rests.{bind-comes, then-comes, part-ends, returned}
use Rattle.mx_con.proofs.SessionBoth.{writes, listed-both, rest-next, rest-over, rest-answer}
use Rattle.mx_con.proofs.SessionCourses.{end_on_host, stops_on_host}

-- ---- over the host alone

pub host-comes : {A : Type 0} (p : HostPlan A) (s : State) (m n : HostModel) (f : FlagsOf) (none r : A) → Comes host m n none r p → Comes conversing ((s, m), f) ((s, n), f) none r (host_in_session p)
host-comes {A} p s m n f none r c = record {
  ending = λ ne. ap (λ (t : A × HostModel). beside_machine ((s, m), f) t) (c.ending ne) ∙ sym (end_on_host p s m f);
  stopping = λ e. stops_on_host p s m n f (c.stopping e);
}

-- the line of a step
pub traced-comes : (trace : Trace) (s : State) (m n : HostModel) (f : FlagsOf) (r : Result (Unit {0}) SessionEnd) → Comes host m n (Err OutOfMemory) r (line_plan (trace_text trace s)) →
    Comes conversing ((s, m), f) ((s, n), f) (Err OutOfMemory) r (traced_plan trace)
unfolding traced_plan trace_plan bind end_of Stops conversing
traced-comes trace s m n f r c =
    let h = host-comes (line_plan (trace_text trace s)) s m n f (Err OutOfMemory) r c in
    record { ending = λ ne. h.ending ne; stopping = λ e. inr (h.stopping e) }

-- ---- breaks

pub broke-comes : (kind : BreakKind) (at : ℕ) (s : State) (m n : HostModel) (f : FlagsOf) (r : Result (Unit {0}) SessionEnd) → Comes host m n (Err OutOfMemory) r (line_plan (break_text kind at)) →
    Comes conversing ((s, m), f) ((s, n), f) (Err OutOfMemory) r (break_plan kind at None)
broke-comes kind at s m n f r c = host-comes (line_plan (break_text kind at)) s m n f (Err OutOfMemory) r c

pub traced-broke : (kind : BreakKind) (at : ℕ) (trace : Trace) (s : State) (m k n : HostModel) (f : FlagsOf) (u : Unit {0}) (r : Result (Unit {0}) SessionEnd) →
    Comes host m k (Err OutOfMemory) (Ok u) (line_plan (trace_text trace s)) → Comes host k n (Err OutOfMemory) r (line_plan (break_text kind at)) →
    Comes conversing ((s, m), f) ((s, n), f) (Err OutOfMemory) r (break_plan kind at (Some trace))
traced-broke kind at trace s m k n f u r h c =
    then-comes conversing (λ (v : Unit {0}). broke_plan kind at) (traced_plan trace) u ((s, m), f) ((s, k), f) ((s, n), f) r
    ((traced-comes trace s m k f (Ok u) h).ending (λ e. absurd (cc))) (broke-comes kind at s k n f r c)

pub untraced-broke : (kind : BreakKind) (at : ℕ) (trace : Trace) (s : State) (m n : HostModel) (f : FlagsOf) (end : SessionEnd) →
    Comes host m n (Err OutOfMemory) (Err end) (line_plan (trace_text trace s)) → Comes conversing ((s, m), f) ((s, n), f) (Err OutOfMemory) (Err end) (break_plan kind at (Some trace))
untraced-broke kind at trace s m n f end c =
    part-ends conversing (λ (v : Unit {0}). broke_plan kind at) (traced_plan trace) end ((s, m), f) ((s, n), f) (traced-comes trace s m n f (Err end) c)

-- ---- the end of a run

goes-on-so : (more : Bool) (p : Part (Unit {0})) (v w : SessionWorld) → Comes conversing v w (Err OutOfMemory) (Ok tt) p → Comes conversing v w (Err OutOfMemory) (Ok more) (going more p)
goes-on-so more p v w c =
    then-comes conversing (λ (u : Unit {0}). returns (Ok more)) p tt v w w (Ok more) (c.ending (λ e. absurd (cc))) (returned conversing (Ok more) w (λ e. absurd (cc)))

pub broke-ended : {Host : Type 0} {says : Host → Option HostModel} {faults : Host → ℕ} {a b : Host} (kind : BreakKind) (at : ℕ) (traced : Option Trace) (v w : SessionWorld) →
    DoesPlan conversing says faults a b v w (Ok tt) (break_plan kind at traced) → DoesPlan conversing says faults a b v w (Ok false) (after_end (ending.Broke kind at traced))
broke-ended kind at traced v w h = part-with (λ (u : Unit {0}). false) (Ok tt) h (λ c. goes-on-so false (break_plan kind at traced) v w c)

pub broke-over : {Host : Type 0} {says : Host → Option HostModel} {faults : Host → ℕ} {a b : Host} (kind : BreakKind) (at : ℕ) (traced : Option Trace) (v w : SessionWorld) (end : SessionEnd) →
    DoesPlan conversing says faults a b v w (Err end) (break_plan kind at traced) → DoesPlan conversing says faults a b v w (Err end) (after_end (ending.Broke kind at traced))
broke-over kind at traced v w end h = part-over end h (λ c. part-ends conversing (λ (u : Unit {0}). returns (Ok false)) (break_plan kind at traced) end v w c)

pub traced-ended : {Host : Type 0} {says : Host → Option HostModel} {faults : Host → ℕ} {a b : Host} (trace : Trace) (s : State) (f : FlagsOf) → DoesOnHost says faults a b (Ok tt) (line_plan (trace_text trace s)) →
    DoesPlan conversing says faults a b ((s, contents (says a)), f) ((s, contents (says b)), f) (Ok true) (after_end (ending.Traced trace))
traced-ended trace s f h = part-with (λ (u : Unit {0}). true) (Ok tt) h (λ c. goes-on-so true (traced_plan trace) _ _ (traced-comes trace s _ _ f (Ok tt) c))

pub traced-over : {Host : Type 0} {says : Host → Option HostModel} {faults : Host → ℕ} {a b : Host} (trace : Trace) (s : State) (f : FlagsOf) (end : SessionEnd) → DoesOnHost says faults a b (Err end) (line_plan (trace_text trace s)) →
    DoesPlan conversing says faults a b ((s, contents (says a)), f) ((s, contents (says b)), f) (Err end) (after_end (ending.Traced trace))
traced-over trace s f end h = part-over end h (λ c. part-ends conversing (λ (u : Unit {0}). returns (Ok true)) (traced_plan trace) end _ _ (traced-comes trace s _ _ f (Err end) c))

pub halted-ended : (status : ℕ) (w : SessionWorld) → Comes conversing w w (Err OutOfMemory) (Err (Halted status)) (after_end (ending.Halted status))
halted-ended status w = returned conversing (Err (Halted status)) w (λ e. absurd (cc))

pub stopped-ended : (pc reason : ℕ) (w : SessionWorld) → Comes conversing w w (Err OutOfMemory) (Err (Stopped pc reason)) (after_end (ending.Stopped pc reason))
stopped-ended pc reason w = returned conversing (Err (Stopped pc reason)) w (λ e. absurd (cc))

pub spent-ended : (w : SessionWorld) → Comes conversing w w (Err OutOfMemory) (Err Spent) (after_end ending.Spent)
spent-ended w = returned conversing (Err Spent) w (λ e. absurd (cc))

pub ruleset ended_runs = (halted-ended, stopped-ended, spent-ended)

-- ---- one run

wanting : (end : End) → (end ≡ ending.OutOfMemory) ⊎ (end ≢ ending.OutOfMemory)
wanting ending.OutOfMemory = inl refl
wanting (ending.Halted status) = inr (λ e. absurd (cc))
wanting (ending.Stopped pc reason) = inr (λ e. absurd (cc))
wanting (ending.Broke kind at traced) = inr (λ e. absurd (cc))
wanting (ending.Traced trace) = inr (λ e. absurd (cc))
wanting ending.Spent = inr (λ e. absurd (cc))

-- a run, as a call
run-comes : (n : ℕ) (pass : Bool) (f : FlagsOf) (end : End) (s t : State) (m k : HostModel) → Comes running (s, m) (t, k) ending.OutOfMemory end (run_plan n f pass) →
    Comes conversing ((s, m), f) ((t, k), f) ending.OutOfMemory end (run_made n pass)
unfolding run_made end_of Stops conversing
run-comes n pass f end s t m k c = record { ending = λ ne. ap (λ (x : End × RunWorld). beside_flags f x) (c.ending ne); stopping = λ e. inl (c.stopping e, refl) }

-- and the lines on its end; where it lacked memory, no call of the host follows
abbrev Finishes : End → State → HostModel → HostModel → FlagsOf → Result Bool SessionEnd → Type 0
Finishes end t k u f r = end ≢ ending.OutOfMemory → Comes conversing ((t, k), f) ((t, u), f) (Err OutOfMemory) r (after_end end)

run-from : (n : ℕ) (pass : Bool) (f : FlagsOf) (end : End) (s t : State) (m k u : HostModel) (r : Result Bool SessionEnd) → Comes conversing ((s, m), f) ((t, k), f) ending.OutOfMemory end (run_made n pass) →
    Finishes end t k u f r → (end ≡ ending.OutOfMemory → r ≡ Err OutOfMemory) → (end ≡ ending.OutOfMemory → u ≡ k) → (end ≡ ending.OutOfMemory) ⊎ (end ≢ ending.OutOfMemory) →
    Comes conversing ((s, m), f) ((t, u), f) (Err OutOfMemory) r (bind after_end (run_made n pass))
run-from n pass f end s t m k u r h c lacked same (inl e) = record {
  ending = λ ne. absurd (ne (lacked e));
  stopping = λ o. stops_first conversing after_end (run_made n pass) ((t, u), f) ((s, m), f)
      (subst (λ (x : HostModel). Stops conversing ((t, x), f) (run_made n pass) ((s, m), f)) (sym (same e)) (h.stopping e));
}
run-from n pass f end s t m k u r h c lacked same (inr ne) =
    bind-comes conversing after_end (run_made n pass) end ((s, m), f) ((t, k), f) ((t, u), f) (Err OutOfMemory) r (h.ending ne) (c ne)

one-run-comes : (steps n : ℕ) (pass : Bool) (f : FlagsOf) (end : End) (s t : State) (m k u : HostModel) (r : Result Bool SessionEnd) → n ≡ steps - s.steps →
    Comes running (s, m) (t, k) ending.OutOfMemory end (run_plan n f pass) → Finishes end t k u f r → (end ≡ ending.OutOfMemory → r ≡ Err OutOfMemory) → (end ≡ ending.OutOfMemory → u ≡ k) →
    Comes conversing ((s, m), f) ((t, u), f) (Err OutOfMemory) r (one_run_plan steps pass)
unfolding one_run_plan count_plan bind end_of Stops conversing
one-run-comes steps n pass f end s t m k u r e h c lacked same =
    let run = run-comes (steps - s.steps) pass f end s t m k (subst (λ i. Comes running (s, m) (t, k) ending.OutOfMemory end (run_plan i f pass)) e h) in
    let from = run-from (steps - s.steps) pass f end s t m k u r run c lacked same (wanting end) in
    record { ending = λ ne. from.ending ne; stopping = λ o. inr (from.stopping o) }

-- over the list machine: its course of the run, and the lines on its end
run-listed : (c : Course End RunWorld) (end : End) (t : State) (k u : HostModel) (f : FlagsOf) (r : Result Bool SessionEnd) → EndsSo (λ end w. EndOutside end) c → GoesAs runs.as_list_world runs.IsUntouched runs.WritesOn c end (t, k) →
    Comes conversing ((t, k), f) ((t, u), f) (Err OutOfMemory) r (after_end end) → r ≢ Err OutOfMemory →
    GoesAsList (then_on (λ e v. course (session_goes list_machine) (after_end e) v) (keeping_flags f c)) r ((t, u), f)
run-listed (ends e v) end t k u f r o h c ne =
    let goes = (listed-both (after_end end) (Err OutOfMemory) r ((t, k), f) ((t, u), f) (listed-end end t k f (subst EndOutside h.0 o)) c).list h.1.1 ne in
    subst (λ (x : End). GoesAsList (course (session_goes list_machine) (after_end x) (v, f)) r ((t, u), f)) (sym h.0)
    (subst (λ (x : RunWorld). GoesAsList (course (session_goes list_machine) (after_end end) (x, f)) r ((t, u), f)) (sym h.1.0) goes)
run-listed (meets_wild v) end t k u f r o h c ne = writes (after_end end) ((t, k), f) ((t, u), f) r c (v, f) h

one-run-both : (steps n : ℕ) (pass : Bool) (f : FlagsOf) (end : End) (s t : State) (m k u : HostModel) (r : Result Bool SessionEnd) → n ≡ steps - s.steps →
    runs.RunsBoth (s, m) (t, k) ending.OutOfMemory end (run_plan n f pass) → Finishes end t k u f r → (end ≡ ending.OutOfMemory → r ≡ Err OutOfMemory) → (end ≡ ending.OutOfMemory → u ≡ k) →
    ConversesBoth ((s, m), f) ((t, u), f) (Err OutOfMemory) r (one_run_plan steps pass)
unfolding one_run_plan count_plan run_made bind course run_by conversing
one-run-both steps n pass f end s t m k u r e h c lacked same = record {
  window = one-run-comes steps n pass f end s t m k u r e h.window c lacked same;
  list = λ un ne.
      let well : end ≢ ending.OutOfMemory = λ o. ne (lacked o) in
      run-listed (course (run_goes list_machine) (run_plan (steps - s.steps) f pass) (as_list_state s, m)) end t k u f r (run-outside (steps - s.steps) f pass (as_list_state s) m)
      (subst (λ (i : ℕ). GoesAs runs.as_list_world runs.IsUntouched runs.WritesOn (course (run_goes list_machine) (run_plan i f pass) (as_list_state s, m)) end (t, k)) e (h.list un well)) (c well) ne;
}

one-run-made : (steps n : ℕ) (pass : Bool) (f g : FlagsOf) (end : End) (s t : State) (m k u : HostModel) (r : Result Bool SessionEnd) → n ≡ steps - s.steps → g ≡ f →
    runs.RunsBoth (s, m) (t, k) ending.OutOfMemory end (run_plan n f pass) → Finishes end t k u g r → (end ≡ ending.OutOfMemory → r ≡ Err OutOfMemory) → (end ≡ ending.OutOfMemory → u ≡ k) →
    ConversesBoth ((s, m), f) ((t, u), g) (Err OutOfMemory) r (one_run_plan steps pass)
one-run-made steps n pass f g end s t m k u r e fl h c lacked same = rw fl (one-run-both steps n pass f end s t m k u r e h (subst (λ x. Finishes end t k u x r) fl c) lacked same)

pub one-run-part : {Host : Type 0} (says : Host → Option HostModel) (faults : Host → ℕ) (a b c : Host) (steps n : ℕ) (pass : Bool) (f g : FlagsOf) (end : End) (s t : State) (r : Result Bool SessionEnd) → n ≡ steps - s.steps →
    g ≡ f → KeepsHost (says a) (says b) (faults a) (faults b) → (IsTrue (tells (says a)) → runs.RunsBoth (s, contents (says a)) (t, contents (says b)) ending.OutOfMemory end (run_plan n f pass)) →
    (end ≢ ending.OutOfMemory → DoesPlan conversing says faults b c ((t, contents (says b)), g) ((t, contents (says c)), g) r (after_end end)) →
    (end ≡ ending.OutOfMemory → r ≡ Err OutOfMemory) → (end ≡ ending.OutOfMemory → c ≡ b) →
    DoesSessionPart says faults a c r (ConversesBoth ((s, contents (says a)), f) ((t, contents (says c)), g) (Err OutOfMemory) r (one_run_plan steps pass))
one-run-part {Host} says faults a b c steps n pass f g end s t r e fl h run k lacked same = by (wanting end)
  where
    made : IsTrue (tells (says a)) → ConversesBoth ((s, contents (says a)), f) ((t, contents (says c)), g) (Err OutOfMemory) r (one_run_plan steps pass)
    made v =
        one-run-made steps n pass f g end s t (contents (says a)) (contents (says b)) (contents (says c)) r e fl (run v)
        (λ ne. (k ne).told (subst IsTrue (sym h.0) v)) lacked (λ o. ap (λ (x : Host). contents (says x)) (same o))

    by : (end ≡ ending.OutOfMemory) ⊎ (end ≢ ending.OutOfMemory) → DoesSessionPart says faults a c r (ConversesBoth ((s, contents (says a)), f) ((t, contents (says c)), g) (Err OutOfMemory) r (one_run_plan steps pass))
    by (inl o) = part-alone (subst (λ (x : Host). KeepsHost (says a) (says x) (faults a) (faults x)) (sym (same o)) h) (λ x. let lost = lacked o in absurd (cc)) made
    by (inr ne) = part-after h (k ne) (λ x. x) (λ v x. made v)

-- ---- one step

no-steps : (n : ℕ) → n ≢ 0 → (n == 0) ≡ false
no-steps n ne = grind (arith, nat_tests)

pub step-spent : (steps : ℕ) (w : SessionWorld) → steps - w.0.0.steps ≡ 0 → Comes conversing w w (Err OutOfMemory) (Err Spent) (stepped_plan steps)
unfolding stepped_plan count_plan bind end_of Stops conversing
step-spent steps w e = record {
  ending = λ ne. sym (ap (λ (n : ℕ). end_of conversing (cond (n == 0) (returns (Err Spent)) turned_plan) w) e);
  stopping = λ h. absurd (cc);
}

step-from : (steps : ℕ) (s : State) (m : HostModel) (f : FlagsOf) (u : SessionWorld) (r : Result (Unit {0}) SessionEnd) → steps - s.steps ≢ 0 →
    Comes conversing ((s, m), f) u (Err OutOfMemory) r (turn_at s.pc) → Comes conversing ((s, m), f) u (Err OutOfMemory) r (stepped_plan steps)
unfolding stepped_plan turned_plan count_plan place_plan bind end_of Stops conversing
step-from steps s m f u r ne c =
    let e = no-steps (steps - s.steps) ne in
    record {
      ending = λ no. c.ending no ∙ sym (ap (λ (b : Bool). end_of conversing (cond b (returns (Err Spent)) turned_plan) ((s, m), f)) e);
      stopping = λ h. inr (subst (λ (b : Bool). Stops conversing u (cond b (returns (Err Spent)) turned_plan) ((s, m), f)) (sym e) (inr (c.stopping h)));
    }

-- a turn, as a call
turn-comes : (f : FlagsOf) (a : TurnAnswer) (s t : State) (m k : HostModel) → Comes running (s, m) (t, k) answer.OutOfMemory a turn_plan → Comes conversing ((s, m), f) ((t, k), f) answer.OutOfMemory a turn_made
unfolding turn_made turn_plan end_of Stops conversing
turn-comes f a s t m k c = record { ending = λ ne. ap (λ (x : TurnAnswer × RunWorld). beside_flags f x) (c.ending ne); stopping = λ e. by (c.stopping e) }
  where
    by : running.Lacks turning (s, m) (t, k) ⊎ ⊥ → (running.Lacks turning (s, m) (t, k) × (f ≡ f)) ⊎ ⊥
    by (inl l) = inl (l, refl)
    by (inr x) = absurd x

turned : (pc : ℕ) (a : TurnAnswer) (s t : State) (m k : HostModel) (f : FlagsOf) (u : SessionWorld) (r : Result (Unit {0}) SessionEnd) → a ≢ answer.OutOfMemory →
    Comes running (s, m) (t, k) answer.OutOfMemory a turn_plan → Comes conversing ((t, k), f) u (Err OutOfMemory) r (after_turn pc a) → Comes conversing ((s, m), f) u (Err OutOfMemory) r (turn_at pc)
unfolding turn_at
turned pc a s t m k f u r ne h c =
    bind-comes conversing (after_turn pc) turn_made a ((s, m), f) ((t, k), f) u (Err OutOfMemory) r ((turn-comes f a s t m k h).ending ne) c

turn-lacked : (pc : ℕ) (s t : State) (m k : HostModel) (f : FlagsOf) → Comes running (s, m) (t, k) answer.OutOfMemory answer.OutOfMemory turn_plan →
    Comes conversing ((s, m), f) ((t, k), f) (Err OutOfMemory) (Err OutOfMemory) (turn_at pc)
unfolding turn_at
turn-lacked pc s t m k f h = record {
  ending = λ no. absurd (no refl);
  stopping = λ e. stops_first conversing (after_turn pc) turn_made ((t, k), f) ((s, m), f) ((turn-comes f answer.OutOfMemory s t m k h).stopping refl);
}

-- as the code has them: how many steps are left, the flags after the step, and the machine of which the line tells
pub stepped-went : (steps left : ℕ) (trace : Trace) (s t seen : State) (m k n : HostModel) (f g : FlagsOf) (r : Result (Unit {0}) SessionEnd) → left ≡ steps - s.steps → left ≢ 0 → g ≡ f → seen ≡ t →
    Comes running (s, m) (t, k) answer.OutOfMemory (answer.Went trace) turn_plan → Comes host k n (Err OutOfMemory) r (line_plan (trace_text trace seen)) →
    Comes conversing ((s, m), f) ((t, n), g) (Err OutOfMemory) r (stepped_plan steps)
stepped-went steps left trace s t seen m k n f g r e ne fl at h c =
    rw fl (step-from steps s m f ((t, n), f) r (subst (λ i. i ≢ 0) e ne) (turned s.pc (answer.Went trace) s t m k f ((t, n), f) r (λ o. absurd (cc)) h
    (traced-comes trace t k n f r (subst (λ (x : State). Comes host k n (Err OutOfMemory) r (line_plan (trace_text trace x))) at c))))

pub stepped-halted : (steps left status : ℕ) (s t : State) (m k : HostModel) (f g : FlagsOf) → left ≡ steps - s.steps → left ≢ 0 → g ≡ f → Comes running (s, m) (t, k) answer.OutOfMemory (answer.Halted status) turn_plan →
    Comes conversing ((s, m), f) ((t, k), g) (Err OutOfMemory) (Err (Halted status)) (stepped_plan steps)
stepped-halted steps left status s t m k f g e ne fl h =
    rw fl (step-from steps s m f ((t, k), f) (Err (Halted status)) (subst (λ i. i ≢ 0) e ne)
    (turned s.pc (answer.Halted status) s t m k f ((t, k), f) (Err (Halted status)) (λ o. absurd (cc)) h (returned conversing (Err (Halted status)) ((t, k), f) (λ o. absurd (cc)))))

pub stepped-stopped : (steps left pc reason : ℕ) (s t : State) (m k : HostModel) (f g : FlagsOf) → left ≡ steps - s.steps → left ≢ 0 → g ≡ f → pc ≡ s.pc →
    Comes running (s, m) (t, k) answer.OutOfMemory (answer.Stopped reason) turn_plan → Comes conversing ((s, m), f) ((t, k), g) (Err OutOfMemory) (Err (Stopped pc reason)) (stepped_plan steps)
stepped-stopped steps left pc reason s t m k f g e ne fl at h =
    rw fl (step-from steps s m f ((t, k), f) (Err (Stopped pc reason)) (subst (λ i. i ≢ 0) e ne)
    (turned s.pc (answer.Stopped reason) s t m k f ((t, k), f) (Err (Stopped pc reason)) (λ o. absurd (cc)) h
    (subst (λ x. Comes conversing ((t, k), f) ((t, k), f) (Err OutOfMemory) (Err (Stopped pc reason)) (after_turn x (answer.Stopped reason))) at
    (returned conversing (Err (Stopped pc reason)) ((t, k), f) (λ o. absurd (cc))))))

pub stepped-lacked : (steps left : ℕ) (s t : State) (m k : HostModel) (f g : FlagsOf) → left ≡ steps - s.steps → left ≢ 0 → g ≡ f → Comes running (s, m) (t, k) answer.OutOfMemory answer.OutOfMemory turn_plan →
    Comes conversing ((s, m), f) ((t, k), g) (Err OutOfMemory) (Err OutOfMemory) (stepped_plan steps)
stepped-lacked steps left s t m k f g e ne fl h = rw fl (step-from steps s m f ((t, k), f) (Err OutOfMemory) (subst (λ i. i ≢ 0) e ne) (turn-lacked s.pc s t m k f h))

pub ruleset stepping = (step-spent)

-- ---- runs

left-after : (k i : ℕ) → i < k → k - i ≡ suc (k - (i + 1))
left-after k i l = omega arith

-- runs from this one on are left
abbrev pub RunsLeft : {Host : Type 0} → (Host → Option HostModel) → (Host → ℕ) → Host → Host → SessionWorld → SessionWorld → ℕ → ℕ → ℕ → Bool → Part (Unit {0}) → Type 0
RunsLeft says faults a b start now n i steps pass whole = IsLeft says faults a b (RestsBoth (runs_plan (n - i) steps pass) now whole start)

begun : (steps most : ℕ) (s : State) (m : HostModel) (f : FlagsOf) → most ≡ steps - s.steps → RestsBoth (runs_plan (most - 0) steps true) ((s, m), f) (continued_plan steps) ((s, m), f)
unfolding continued_plan count_plan bind end_of Stops course conversing
begun steps most s m f e =
    let all : most - 0 ≡ steps - s.steps = omega (arith, e) in
    rw all (record { window = record { ending = refl; stopping = λ v h. inr h }; list = λ u. alike u refl })

pub runs-begun : {Host : Type 0} (says : Host → Option HostModel) (faults : Host → ℕ) (a : Host) (steps most : ℕ) (s : State) (f : FlagsOf) → most ≡ steps - s.steps →
    RunsLeft says faults a a ((s, contents (says a)), f) ((s, contents (says a)), f) most 0 steps true (continued_plan steps)
runs-begun says faults a steps most s f e = all-left a (λ t. begun steps most s (contents (says a)) f e)

runs-more : (n i steps : ℕ) (pass : Bool) → i < n → runs_plan (n - i) steps pass ≡ bind (on_ok (run_on (runs_plan (n - (i + 1)) steps false))) (one_run_plan steps pass)
unfolding runs_plan
runs-more n i steps pass l = rw (left-after n i l) refl

one-and-more : (start v : SessionWorld) (n i steps : ℕ) (pass : Bool) (whole : Part (Unit {0})) → i < n → RestsBoth (runs_plan (n - i) steps pass) v whole start →
    RestsBoth (bind (on_ok (run_on (runs_plan (n - (i + 1)) steps false))) (one_run_plan steps pass)) v whole start
one-and-more start v n i steps pass whole l h = subst (λ p. RestsBoth p v whole start) (runs-more n i steps pass l) h

-- the next run is made, and they go on; or pause; or end the session
abbrev OneRun : {Host : Type 0} → (Host → Option HostModel) → (Host → ℕ) → Host → Host → SessionWorld → SessionWorld → ℕ → Bool → Result Bool SessionEnd → Type 0
OneRun says faults b c v w steps pass r = DoesSessionPart says faults b c r (ConversesBoth v w (Err OutOfMemory) r (one_run_plan steps pass))

pub runs-went : {Host : Type 0} (says : Host → Option HostModel) (faults : Host → ℕ) (a b c : Host) (start v w : SessionWorld) (n i steps : ℕ) (pass : Bool) (whole : Part (Unit {0})) → i < n →
    RunsLeft says faults a b start v n i steps pass whole → OneRun says faults b c v w steps pass (Ok true) → RunsLeft says faults a c start w n (i + 1) steps false whole
runs-went says faults a b c start v w n i steps pass whole l h k =
    next-left h k (λ r o. rest-next (run_on (runs_plan (n - (i + 1)) steps false)) (one_run_plan steps pass) true v w start whole (one-and-more start v n i steps pass whole l r) o)

pub runs-paused : {Host : Type 0} (says : Host → Option HostModel) (faults : Host → ℕ) (a b c : Host) (start v w : SessionWorld) (n i steps : ℕ) (pass : Bool) (whole : Part (Unit {0})) → i < n →
    RunsLeft says faults a b start v n i steps pass whole → OneRun says faults b c v w steps pass (Ok false) →
    DoesSessionPart {A = Unit {0}} says faults a c (Ok tt) (ConversesBoth start w (Err OutOfMemory) (Ok tt) whole)
runs-paused says faults a b c start v w n i steps pass whole l h k =
    answer-left (λ o. absurd (cc))
    (next-left h k (λ r o. rest-next (run_on (runs_plan (n - (i + 1)) steps false)) (one_run_plan steps pass) false v w start whole (one-and-more start v n i steps pass whole l r) o))
    (λ r. rest-answer {A = Unit {0}} (Ok tt) w start whole (λ o. absurd (cc)) r)

pub runs-over : {Host : Type 0} (says : Host → Option HostModel) (faults : Host → ℕ) (a b c : Host) (start v w : SessionWorld) (n i steps : ℕ) (pass : Bool) (end : SessionEnd) (whole : Part (Unit {0})) → i < n →
    RunsLeft says faults a b start v n i steps pass whole → OneRun says faults b c v w steps pass (Err end) →
    DoesSessionPart {A = Unit {0}} says faults a c (Err end) (ConversesBoth start w (Err OutOfMemory) (Err end) whole)
runs-over says faults a b c start v w n i steps pass end whole l h k =
    over-left end h k (λ r o. rest-over (run_on (runs_plan (n - (i + 1)) steps false)) (one_run_plan steps pass) end v w start whole (one-and-more start v n i steps pass whole l r) o)

pub runs-spent : {Host : Type 0} (says : Host → Option HostModel) (faults : Host → ℕ) (a b : Host) (start w : SessionWorld) (n i steps : ℕ) (pass : Bool) (whole : Part (Unit {0})) → n ≤ i →
    RunsLeft says faults a b start w n i steps pass whole → DoesSessionPart {A = Unit {0}} says faults a b (Err Spent) (ConversesBoth start w (Err OutOfMemory) (Err Spent) whole)
unfolding runs_plan
runs-spent says faults a b start w n i steps pass whole l h =
    let none : n - i ≡ 0 = omega arith in
    answer-left (λ o. absurd (cc)) h (λ r. rest-answer (Err Spent) w start whole (λ o. absurd (cc)) (subst (λ k. RestsBoth (runs_plan k steps pass) w whole start) none r))
