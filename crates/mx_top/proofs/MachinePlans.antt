-- Machines that run, and what follows them: what comes of the work.
use Rattle.std.proofs.Common.{◌≡◌, ◌≢◌, ◌⊎◌, inl, inr, ℕ, List, [], false, refl, sym, ◌∙◌, ap, subst}
use Rattle.std.specs.Prelude.{Option}
use Rattle.mx_host.specs.HostModel.{HostModel, contents}
use Rattle.mx_plan.specs.Calls.{host, HostPlan, need}
use Rattle.mx_plan.specs.Plan.{bind, end_of, Stops, Comes}
use Rattle.mx_plan.specs.Wild.{Course, course}
use Rattle.mx_code.specs.declared.trace.Trace.{Trace}
use Rattle.mx_core.specs.Bounds.{as_list_state}
use Rattle.mx_core.specs.State.{State}
use Rattle.mx_run.specs.AccompaniedRuns.{ComesAccompanied}
use Rattle.mx_run.specs.RunPlans.{running, run_plan}
use Rattle.mx_run.specs.Runs.{FlagsOf, no_flags}
use Rattle.mx_run.specs.WildRuns.{MachineKind, window_machine, list_machine}
use Rattle.mx_files.specs.Answers.{GoesAs}
use Rattle.mx_run.specs.declared.end.End.{End}
use Rattle.mx_run.specs.declared.end.End.TheVariants as ending
use Rattle.mx_back.specs.History.{states_kept}
use Rattle.mx_back.specs.KeptRuns.{turns_of}
use Rattle.mx_con.specs.SessionPlans.{conversing, session_plan}
use Rattle.mx_con.specs.declared.end.SessionEnd.{SessionEnd}
use Rattle.mx_con.specs.declared.end.SessionEnd.TheVariants as sitting
use Rattle.mx_watch.specs.Traces.{traces}
use Rattle.mx_outcome.specs.declared.outcome.Outcome.{Outcome}
use Rattle.mx_outcome.specs.declared.outcome.Outcome.TheVariants.{OutOfMemory}
use Rattle.mx_top.specs.MachineWork.{Work, WorkCall, WorkSays, WorkPlan, working, work_goes, host_in_work, calling, stepping, reporting, keeping, sitting as seated, after_run, after_session}
use Rattle.mx_top.specs.Product.{at_start, worked, answer_of, told_of}
use Rattle.mx_begin.specs.Ends.{outcome_of}
use Rattle.mx_top.specs.Runs.{session_outcome}
use Rattle.mx_top.specs.WorkClauses.{CarriesOutWorkOnBoth, WorkComes, left_of, work_by}
use Rattle.mx_top.proofs.Followed.{ComesTo, work-comes}
use Rattle.mx_top.proofs.PlainEnds.{ended-well}

-- ---- a call, and what follows it

-- it was carried out
call-ended : (o : WorkCall) (more : WorkSays o → WorkPlan Outcome) (w now : Work) (says : WorkSays o) (v : HostModel) (r : Outcome) → (says, now) ≡ working.act o w → WorkComes now v r (more says) → WorkComes w v r (calling o more)
unfolding end_of Stops
call-ended o more w now says v r is next = record {
  ending = λ ne. next.ending ne ∙ ap (λ (x : WorkSays o × Work). left_of (end_of working (more x.0) x.1)) is;
  stopping = λ e.
      let rest = next.stopping e in
      record { left = rest.left; stops = inr (subst (λ (x : WorkSays o × Work). Stops working rest.left (more x.0) x.1) is rest.stops); host = rest.host };
}

-- it lacked memory
call-lacked : (o : WorkCall) (more : WorkSays o → WorkPlan Outcome) (w left : Work) (v : HostModel) (r : Outcome) → (r ≡ OutOfMemory) × (v ≡ left.host) → working.Lacks o w left → WorkComes w v r (calling o more)
unfolding Stops
call-lacked o more w left v r none l = record { ending = λ ne. absurd (ne none.0); stopping = λ e. record { left = left; stops = inl l; host = sym none.1 } }

-- what follows, by the outcome, the machine and the states that are kept
abbrev pub Follow : Type 0
Follow = Outcome → State → List State → HostPlan Outcome

abbrev pub Made : (Outcome → WorkPlan Outcome) → Follow → Type 0
Made work follow = (o : Outcome) (w : Work) → ComesTo (work o) w (follow o w.machine w.kept)

-- it comes to this
followed : (work : Outcome → WorkPlan Outcome) (follow : Follow) (w : Work) (v : HostModel) (outcome due r : Outcome) → outcome ≡ due → Made work follow → Comes host w.host v OutOfMemory r (follow outcome w.machine w.kept) → WorkComes w v r (work due)
followed work follow w v outcome due r eo made c = subst (λ (o : Outcome). WorkComes w v r (work o)) eo (work-comes (work outcome) w (follow outcome w.machine w.kept) v r (made outcome w) c)

-- ---- a run

wanting : (end : End) → (end ≡ ending.OutOfMemory) ⊎ (end ≢ ending.OutOfMemory)
wanting ending.OutOfMemory = inl refl
wanting (ending.Halted status) = inr (λ e. cc)
wanting (ending.Stopped pc reason) = inr (λ e. cc)
wanting (ending.Broke kind at traced) = inr (λ e. cc)
wanting (ending.Traced trace) = inr (λ e. cc)
wanting ending.Spent = inr (λ e. cc)

pub run-follows : (n : ℕ) (f : FlagsOf) (s t : State) (m k v : HostModel) (end : End) (outcome r : Outcome) (work : Outcome → WorkPlan Outcome) (follow : Follow) → Made work follow → f ≡ no_flags → outcome ≡ outcome_of n end →
    Comes running (s, m) (t, k) ending.OutOfMemory end (run_plan n f false) → (outcome ≡ OutOfMemory → (r ≡ OutOfMemory) × (v ≡ k)) → (outcome ≢ OutOfMemory → Comes host k v OutOfMemory r (follow outcome t [])) →
    WorkComes (at_start s (m, [])) v r (calling (stepping n) (λ end. work (outcome_of n end)))
unfolding working
run-follows n f s t m k v end outcome r work follow made ef eo c lacked follows = by (wanting end)
  where
    start : Work
    start = at_start s (m, [])

    ran : Comes running (s, m) (t, k) ending.OutOfMemory end (run_plan n no_flags false)
    ran = subst (λ (g : FlagsOf). Comes running (s, m) (t, k) ending.OutOfMemory end (run_plan n g false)) ef c

    by : (end ≡ ending.OutOfMemory) ⊎ (end ≢ ending.OutOfMemory) → WorkComes start v r (calling (stepping n) (λ (e : End). work (outcome_of n e)))
    by (inl e) = call-lacked (stepping n) (λ (x : End). work (outcome_of n x)) start (at_start t (k, [])) v r (lacked (eo ∙ ap (outcome_of n) e)) (ran.stopping e)
    by (inr ne) =
        let is = ran.ending ne in
        call-ended (stepping n) (λ (x : End). work (outcome_of n x)) start (at_start t (k, [])) end v r (ap (after_run start) is)
        (followed work follow (at_start t (k, [])) v outcome (outcome_of n end) r eo made (follows (λ o. ended-well n (s, m) (t, k) end is ne (sym eo ∙ o))))

-- one that watchers are told of
pub reported-follows : (n : ℕ) (s t : State) (m k v : HostModel) (end : End) (outcome r : Outcome) (work : Outcome → WorkPlan Outcome) (follow : Follow) → Made work follow → outcome ≡ outcome_of n end → ComesAccompanied n (s, m) (t, k) end →
    (outcome ≡ OutOfMemory → (r ≡ OutOfMemory) × (v ≡ k)) → (outcome ≢ OutOfMemory → Comes host k v OutOfMemory r (follow outcome t [])) → WorkComes (at_start s (m, [])) v r (calling (reporting n) (λ end. work (outcome_of n end)))
unfolding working
reported-follows n s t m k v end outcome r work follow made eo c lacked follows = by (wanting end)
  where
    start : Work
    start = at_start s (m, [])

    told : List Trace
    told = traces window_machine n s m

    by : (end ≡ ending.OutOfMemory) ⊎ (end ≢ ending.OutOfMemory) → WorkComes start v r (calling (reporting n) (λ (e : End). work (outcome_of n e)))
    by (inl e) = call-lacked (reporting n) (λ (x : End). work (outcome_of n x)) start (at_start t (k, [])) v r (lacked (eo ∙ ap (outcome_of n) e)) (c.stopping e)
    by (inr ne) =
        let is = c.ending ne in
        call-ended (reporting n) (λ (x : End). work (outcome_of n x)) start (at_start t (k, told)) end v r (ap (after_run (record start { told = told })) is)
        (followed work follow (at_start t (k, told)) v outcome (outcome_of n end) r eo made (follows (λ o. ended-well n (s, m) (t, k) end is ne (sym eo ∙ o))))

-- one whose last states are kept
pub kept-follows : (n : ℕ) (s t : State) (kept : List State) (m k v : HostModel) (end : End) (outcome r : Outcome) (work : Outcome → WorkPlan Outcome) (follow : Follow) → Made work follow → outcome ≡ outcome_of n end →
    ComesAccompanied n (s, m) (t, k) end → (end ≢ ending.OutOfMemory → kept ≡ states_kept (turns_of n s m) []) → (outcome ≡ OutOfMemory → (r ≡ OutOfMemory) × (v ≡ k)) →
    (outcome ≢ OutOfMemory → Comes host k v OutOfMemory r (follow outcome t kept)) → WorkComes (at_start s (m, [])) v r (calling (keeping n) (λ end. work (outcome_of n end)))
unfolding working
kept-follows n s t kept m k v end outcome r work follow made eo c kept-so lacked follows = by (wanting end)
  where
    start : Work
    start = at_start s (m, [])

    states : List State
    states = states_kept (turns_of n s m) []

    at : List State → Work
    at ks = record (at_start t (k, [])) { kept = ks }

    by : (end ≡ ending.OutOfMemory) ⊎ (end ≢ ending.OutOfMemory) → WorkComes start v r (calling (keeping n) (λ (e : End). work (outcome_of n e)))
    by (inl e) = call-lacked (keeping n) (λ (x : End). work (outcome_of n x)) start (at_start t (k, [])) v r (lacked (eo ∙ ap (outcome_of n) e)) (c.stopping e)
    by (inr ne) =
        let is = c.ending ne in
        let next = followed work follow (at kept) v outcome (outcome_of n end) r eo made (follows (λ o. ended-well n (s, m) (t, k) end is ne (sym eo ∙ o))) in
        call-ended (keeping n) (λ (x : End). work (outcome_of n x)) start (at states) end v r (ap (after_run (record start { kept = states })) is) (subst (λ (ks : List State). WorkComes (at ks) v r (work (outcome_of n end))) (kept-so ne) next)

-- ---- a session

sitting-out : (end : SessionEnd) → (end ≡ sitting.OutOfMemory) ⊎ (end ≢ sitting.OutOfMemory)
sitting-out sitting.OutOfMemory = inl refl
sitting-out (sitting.Halted status) = inr (λ e. cc)
sitting-out (sitting.Stopped pc reason) = inr (λ e. cc)
sitting-out sitting.Spent = inr (λ e. cc)
sitting-out sitting.Quit = inr (λ e. cc)
sitting-out sitting.Limit = inr (λ e. cc)
sitting-out sitting.HostFault = inr (λ e. cc)

sat-well : (n : ℕ) (end : SessionEnd) → end ≢ sitting.OutOfMemory → session_outcome n end ≢ OutOfMemory
sat-well n (sitting.Halted status) ne = λ e. absurd (cc)
sat-well n (sitting.Stopped pc reason) ne = λ e. absurd (cc)
sat-well n sitting.Spent ne = λ e. absurd (cc)
sat-well n sitting.Quit ne = λ e. absurd (cc)
sat-well n sitting.Limit ne = λ e. absurd (cc)
sat-well n sitting.HostFault ne = λ e. absurd (cc)
sat-well n sitting.OutOfMemory ne = absurd (ne refl)

pub session-follows : (n : ℕ) (f g : FlagsOf) (s t : State) (m k v : HostModel) (end : SessionEnd) (outcome r : Outcome) (work : Outcome → WorkPlan Outcome) (follow : Follow) → Made work follow → f ≡ no_flags → outcome ≡ session_outcome n end →
    Comes conversing ((s, m), f) ((t, k), g) sitting.OutOfMemory end (session_plan n) → (outcome ≡ OutOfMemory → (r ≡ OutOfMemory) × (v ≡ k)) → (outcome ≢ OutOfMemory → Comes host k v OutOfMemory r (follow outcome t [])) →
    WorkComes (at_start s (m, [])) v r (calling (seated n) (λ end. work (session_outcome n end)))
unfolding working
session-follows n f g s t m k v end outcome r work follow made ef eo c lacked follows = by (sitting-out end)
  where
    start : Work
    start = at_start s (m, [])

    sat : Comes conversing ((s, m), no_flags) ((t, k), g) sitting.OutOfMemory end (session_plan n)
    sat = subst (λ (h : FlagsOf). Comes conversing ((s, m), h) ((t, k), g) sitting.OutOfMemory end (session_plan n)) ef c

    by : (end ≡ sitting.OutOfMemory) ⊎ (end ≢ sitting.OutOfMemory) → WorkComes start v r (calling (seated n) (λ (e : SessionEnd). work (session_outcome n e)))
    by (inl e) = call-lacked (seated n) (λ (x : SessionEnd). work (session_outcome n x)) start (at_start t (k, [])) v r (lacked (eo ∙ ap (session_outcome n) e)) (record { flags = g; stops = sat.stopping e })
    by (inr ne) =
        call-ended (seated n) (λ (x : SessionEnd). work (session_outcome n x)) start (at_start t (k, [])) end v r (ap (after_session start) (sat.ending ne))
        (followed work follow (at_start t (k, [])) v outcome (session_outcome n end) r eo made (follows (λ o. sat-well n end ne (sym eo ∙ o))))

-- ---- memory that is taken first

taken : (plan : WorkPlan Outcome) (w : Work) (v : HostModel) (r : Outcome) → WorkComes w v r plan → WorkComes w v r (bind (λ (u : Unit {0}). plan) (host_in_work need))
unfolding bind host_in_work need Stops end_of working host
taken plan w v r c = record { ending = c.ending; stopping = λ e. let s = c.stopping e in record { left = s.left; stops = inr s.stops; host = s.host } }

taken-course : (kind : MachineKind) (plan : WorkPlan Outcome) (w : Work) → course (work_goes kind) (bind (λ (u : Unit {0}). plan) (host_in_work need)) w ≡ course (work_goes kind) plan w
unfolding course bind host_in_work need host working
taken-course kind plan w = refl

pub works-taking : (a b : Option HostModel) (s : State) (r : Outcome) (plan : WorkPlan Outcome) → CarriesOutWorkOnBoth a b s r plan → CarriesOutWorkOnBoth a b s r (bind (λ (u : Unit {0}). plan) (host_in_work need))
works-taking a b s r plan h = record {
  window = λ t. taken plan (at_start s (contents a, [])) (contents b) r (h.window t);
  list = λ t ne. subst (λ (c : Course Outcome Work). GoesAs (answer_of (worked c)) r (contents b)) (sym (taken-course list_machine plan (at_start (as_list_state s) (contents a, [])))) (h.list t ne);
}

pub works-lacks : (a : Option HostModel) (s : State) (plan : WorkPlan Outcome) → CarriesOutWorkOnBoth a a s OutOfMemory (bind (λ (u : Unit {0}). plan) (host_in_work need))
unfolding bind host_in_work need Stops working host
works-lacks a s plan = record {
  window = λ t. record { ending = λ ne. absurd (ne refl); stopping = λ e. record { left = at_start s (contents a, []); stops = inl (refl, refl); host = refl } };
  list = λ t ne. absurd (ne refl);
}

pub told-taking : (kind : MachineKind) (plan : WorkPlan Outcome) (s : State) (m : HostModel) → told_of (work_by kind (bind (λ (u : Unit {0}). plan) (host_in_work need)) s m) ≡ told_of (work_by kind plan s m)
told-taking kind plan s m = ap (λ (c : Course Outcome Work). told_of (worked c)) (taken-course kind plan (at_start s (m, [])))
