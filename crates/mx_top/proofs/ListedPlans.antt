-- Machines that run over an unbounded list of registers, and what follows them: what comes of the work, and what watchers hear.
use Rattle.std.proofs.Common.{◌≡◌, ℕ, List, [], false, refl, sym, ◌∙◌, ap, subst}
use Rattle.mx_host.specs.HostModel.{HostModel}
use Rattle.mx_plan.specs.Calls.{host, HostPlan}
use Rattle.mx_plan.specs.Plan.{end_of}
use Rattle.mx_plan.specs.Wild.{Course, ends, meets_wild, then_on, course}
use Rattle.mx_core.specs.Bounds.{as_list_state}
use Rattle.mx_core.specs.State.{State}
use Rattle.mx_run.specs.Clauses.{GoesAsList}
use Rattle.mx_run.specs.RunPlans.{RunWorld}
use Rattle.mx_run.specs.Runs.{FlagsOf, no_flags}
use Rattle.mx_run.specs.WildRuns.{MachineKind, list_machine, run_by}
use Rattle.mx_run.specs.declared.end.End.{End}
use Rattle.mx_back.specs.History.{states_kept}
use Rattle.mx_back.specs.KeptLists.{AreBeside, AreUntouched, as_lists}
use Rattle.mx_back.specs.KeptRuns.{turns_of}
use Rattle.mx_con.specs.Clauses as console
use Rattle.mx_con.specs.Session.{session}
use Rattle.mx_con.specs.SessionPlans.{SessionWorld}
use Rattle.mx_con.specs.declared.end.SessionEnd.{SessionEnd}
use Rattle.mx_watch.specs.Traces.{traces}
use Rattle.mx_watch.specs.WatchedRuns.{UnlessWild}
use Rattle.mx_word.specs.Lists.{IsFront}
use Rattle.mx_word.proofs.Fronts.{front-through}
use Rattle.mx_files.specs.Answers.{Answer, GoesAs}
use Rattle.mx_outcome.specs.declared.outcome.Outcome.{Outcome}
use Rattle.mx_top.specs.MachineWork.{Work, WorkPlan, work_goes, calling, stepping, reporting, keeping, sitting, ran, sat}
use Rattle.mx_top.specs.Product.{ProgramWorld, at_start, worked, answer_of, told_of}
use Rattle.mx_begin.specs.Ends.{outcome_of}
use Rattle.mx_top.specs.Runs.{session_outcome}
use Rattle.mx_top.specs.WorkClauses.{work_by}
use Rattle.mx_top.proofs.Followed.{ComesTo}
use Rattle.mx_top.proofs.MachinePlans.{Follow, Made}
use Rattle.mx_top.proofs.WorkPlans.{goes-by}

-- what followed, beside what follows here
abbrev answer-so : Outcome × HostModel → Answer
answer-so t = ends t.0 t.1

followed : (plan : WorkPlan Outcome) (w : Work) (p q : HostPlan Outcome) (k v : HostModel) (r : Outcome) → ComesTo plan w p → p ≡ q → w.host ≡ k → (r, v) ≡ end_of host q k → GoesAs (answer_of (worked (course (work_goes list_machine) plan w))) r v
followed plan w p q k v r to same at e =
    goes-by (answer_of (worked (course (work_goes list_machine) plan w))) r v
    (ap answer_of (to.goes list_machine) ∙ ap (λ (x : HostPlan Outcome). answer-so (end_of host x w.host)) same ∙ ap (λ (n : HostModel). answer-so (end_of host q n)) at ∙ ap answer-so (sym e))

-- ---- a run: what follows it, by how it ended

abbrev after-run : MachineKind → ℕ → (Outcome → WorkPlan Outcome) → Work → Course End RunWorld → Course Outcome ProgramWorld
after-run kind n work w c = worked (then_on (λ end v. course (work_goes kind) (work (outcome_of n end)) v) (ran w c))

run-beside : (n : ℕ) (c : Course End RunWorld) (w : Work) (t : State) (kept : List State) (k v : HostModel) (end : End) (outcome r : Outcome) (work : Outcome → WorkPlan Outcome) (follow : Follow) → Made work follow → outcome ≡ outcome_of n end →
    GoesAsList c end (t, k) → IsFront k.output v.output → (AreBeside c kept w.kept → t.touched ≡ false → follow outcome (as_list_state t) w.kept ≡ follow outcome t kept) → AreBeside c kept w.kept →
    (r, v) ≡ end_of host (follow outcome t kept) k → GoesAs (answer_of (after-run list_machine n work w c)) r v
run-beside n (ends e x) w t kept k v end outcome r work follow made eo goes grows same near said =
    followed (work (outcome_of n e)) (record w { machine = x.0; host = x.1 }) (follow (outcome_of n e) x.0 w.kept) (follow outcome t kept) k v r (made (outcome_of n e) (record w { machine = x.0; host = x.1 }))
    (ap (λ (y : End). follow (outcome_of n y) x.0 w.kept) goes.0 ∙ ap (λ (y : RunWorld). follow (outcome_of n end) y.0 w.kept) goes.1.0 ∙ ap (λ (o : Outcome). follow o (as_list_state t) w.kept) (sym eo) ∙ same near goes.1.1)
    (ap (λ (y : RunWorld). y.1) goes.1.0) said
run-beside n (meets_wild x) w t kept k v end outcome r work follow made eo goes grows same near said = front-through x.1.output k.output v.output goes grows

-- no state is kept beside none
none-beside : (c : Course End RunWorld) → AreBeside c [] []
none-beside (ends e x) = (refl, tt)
none-beside (meets_wild x) = tt

pub run-listed : (n : ℕ) (f : FlagsOf) (s t : State) (m k v : HostModel) (end : End) (outcome r : Outcome) (work : Outcome → WorkPlan Outcome) (follow : Follow) → Made work follow → f ≡ no_flags → outcome ≡ outcome_of n end →
    GoesAsList (run_by list_machine n f false (as_list_state s) m) end (t, k) → IsFront k.output v.output → (t.touched ≡ false → follow outcome (as_list_state t) [] ≡ follow outcome t []) → (r, v) ≡ end_of host (follow outcome t []) k →
    GoesAs (answer_of (work_by list_machine (calling (stepping n) (λ end. work (outcome_of n end))) (as_list_state s) m)) r v
unfolding course
run-listed n f s t m k v end outcome r work follow made ef eo goes grows same said =
    let c = run_by list_machine n no_flags false (as_list_state s) m in
    run-beside n c (at_start (as_list_state s) (m, [])) t [] k v end outcome r work follow made eo
    (subst (λ (g : FlagsOf). GoesAsList (run_by list_machine n g false (as_list_state s) m) end (t, k)) ef goes) grows (λ near u. same u) (none-beside c) said

-- one that watchers are told of
pub reported-listed : (n : ℕ) (s t : State) (m k v : HostModel) (end : End) (outcome r : Outcome) (work : Outcome → WorkPlan Outcome) (follow : Follow) → Made work follow → outcome ≡ outcome_of n end →
    GoesAsList (run_by list_machine n no_flags false (as_list_state s) m) end (t, k) → IsFront k.output v.output → (t.touched ≡ false → follow outcome (as_list_state t) [] ≡ follow outcome t []) → (r, v) ≡ end_of host (follow outcome t []) k →
    GoesAs (answer_of (work_by list_machine (calling (reporting n) (λ end. work (outcome_of n end))) (as_list_state s) m)) r v
unfolding course
reported-listed n s t m k v end outcome r work follow made eo goes grows same said =
    let c = run_by list_machine n no_flags false (as_list_state s) m in
    run-beside n c (at_start (as_list_state s) (m, traces list_machine n (as_list_state s) m)) t [] k v end outcome r work follow made eo goes grows (λ near u. same u) (none-beside c) said

-- one whose last states are kept
pub kept-listed : (n : ℕ) (s t : State) (kept : List State) (m k v : HostModel) (end : End) (outcome r : Outcome) (work : Outcome → WorkPlan Outcome) (follow : Follow) → Made work follow → outcome ≡ outcome_of n end →
    GoesAsList (run_by list_machine n no_flags false (as_list_state s) m) end (t, k) → AreBeside (run_by list_machine n no_flags false (as_list_state s) m) kept (states_kept (turns_of n (as_list_state s) m) []) →
    IsFront k.output v.output → (t.touched ≡ false → AreUntouched kept → follow outcome (as_list_state t) (as_lists kept) ≡ follow outcome t kept) → (r, v) ≡ end_of host (follow outcome t kept) k →
    GoesAs (answer_of (work_by list_machine (calling (keeping n) (λ end. work (outcome_of n end))) (as_list_state s) m)) r v
unfolding course
kept-listed n s t kept m k v end outcome r work follow made eo goes near grows same said = by (run_by list_machine n no_flags false (as_list_state s) m) goes near
  where
    listed : List State
    listed = states_kept (turns_of n (as_list_state s) m) []

    w : Work
    w = record (at_start (as_list_state s) (m, [])) { kept = listed }

    by : (c : Course End RunWorld) → GoesAsList c end (t, k) → AreBeside c kept listed → GoesAs (answer_of (after-run list_machine n work w c)) r v
    by (ends e x) g a =
        run-beside n (ends e x) w t kept k v end outcome r work follow made eo g grows (λ b u. ap (follow outcome (as_list_state t)) (sym b.0) ∙ same u b.1) a said
    by (meets_wild x) g a = front-through x.1.output k.output v.output g grows

-- ---- a session

session-beside : (n : ℕ) (c : Course SessionEnd SessionWorld) (w : Work) (t : State) (g : FlagsOf) (k v : HostModel) (end : SessionEnd) (outcome r : Outcome) (work : Outcome → WorkPlan Outcome) (follow : Follow) → Made work follow → outcome ≡ session_outcome n end →
    console.GoesAsList c end ((t, k), g) → IsFront k.output v.output → (t.touched ≡ false → follow outcome (as_list_state t) w.kept ≡ follow outcome t w.kept) → (r, v) ≡ end_of host (follow outcome t w.kept) k →
    GoesAs (answer_of (worked (then_on (λ end v. course (work_goes list_machine) (work (session_outcome n end)) v) (sat w c)))) r v
session-beside n (ends e x) w t g k v end outcome r work follow made eo goes grows same said =
    followed (work (session_outcome n e)) (record w { machine = x.0.0; host = x.0.1 }) (follow (session_outcome n e) x.0.0 w.kept) (follow outcome t w.kept) k v r (made (session_outcome n e) (record w { machine = x.0.0; host = x.0.1 }))
    (ap (λ (y : SessionEnd). follow (session_outcome n y) x.0.0 w.kept) goes.0 ∙ ap (λ (y : SessionWorld). follow (session_outcome n end) y.0.0 w.kept) goes.1.0 ∙ ap (λ (o : Outcome). follow o (as_list_state t) w.kept) (sym eo) ∙ same goes.1.1)
    (ap (λ (y : SessionWorld). y.0.1) goes.1.0) said
session-beside n (meets_wild x) w t g k v end outcome r work follow made eo goes grows same said = front-through x.0.1.output k.output v.output goes grows

pub session-listed : (n : ℕ) (f g : FlagsOf) (s t : State) (m k v : HostModel) (end : SessionEnd) (outcome r : Outcome) (work : Outcome → WorkPlan Outcome) (follow : Follow) → Made work follow → f ≡ no_flags → outcome ≡ session_outcome n end →
    console.GoesAsList (session list_machine n (as_list_state s) f m) end ((t, k), g) → IsFront k.output v.output → (t.touched ≡ false → follow outcome (as_list_state t) [] ≡ follow outcome t []) → (r, v) ≡ end_of host (follow outcome t []) k →
    GoesAs (answer_of (work_by list_machine (calling (sitting n) (λ end. work (session_outcome n end))) (as_list_state s) m)) r v
unfolding course
session-listed n f g s t m k v end outcome r work follow made ef eo goes grows same said =
    session-beside n (session list_machine n (as_list_state s) no_flags m) (at_start (as_list_state s) (m, [])) t g k v end outcome r work follow made eo
    (subst (λ (h : FlagsOf). console.GoesAsList (session list_machine n (as_list_state s) h m) end ((t, k), g)) ef goes) grows same said

-- ---- what watchers are told

told-after : (kind : MachineKind) (n : ℕ) (c : Course End RunWorld) (w : Work) (work : Outcome → WorkPlan Outcome) (follow : Follow) → Made work follow → told_of (after-run kind n work w c) ≡ w.told
told-after kind n (ends e x) w work follow made = ap told_of ((made (outcome_of n e) (record w { machine = x.0; host = x.1 })).goes kind)
told-after kind n (meets_wild x) w work follow made = refl

pub run-told : (kind : MachineKind) (n : ℕ) (s : State) (m : HostModel) (work : Outcome → WorkPlan Outcome) (follow : Follow) → Made work follow → told_of (work_by kind (calling (stepping n) (λ end. work (outcome_of n end))) s m) ≡ []
unfolding course
run-told kind n s m work follow made = told-after kind n (run_by kind n no_flags false s m) (at_start s (m, [])) work follow made

pub reported-told : (kind : MachineKind) (n : ℕ) (s : State) (m : HostModel) (work : Outcome → WorkPlan Outcome) (follow : Follow) → Made work follow → told_of (work_by kind (calling (reporting n) (λ end. work (outcome_of n end))) s m) ≡ traces kind n s m
unfolding course
reported-told kind n s m work follow made = told-after kind n (run_by kind n no_flags false s m) (at_start s (m, traces kind n s m)) work follow made

pub kept-told : (kind : MachineKind) (n : ℕ) (s : State) (m : HostModel) (work : Outcome → WorkPlan Outcome) (follow : Follow) → Made work follow → told_of (work_by kind (calling (keeping n) (λ end. work (outcome_of n end))) s m) ≡ []
unfolding course
kept-told kind n s m work follow made = told-after kind n (run_by kind n no_flags false s m) (record (at_start s (m, [])) { kept = states_kept (turns_of n s m) [] }) work follow made

session-told-by : (kind : MachineKind) (n : ℕ) (c : Course SessionEnd SessionWorld) (w : Work) (work : Outcome → WorkPlan Outcome) (follow : Follow) → Made work follow →
    told_of (worked (then_on (λ end v. course (work_goes kind) (work (session_outcome n end)) v) (sat w c))) ≡ w.told
session-told-by kind n (ends e x) w work follow made = ap told_of ((made (session_outcome n e) (record w { machine = x.0.0; host = x.0.1 })).goes kind)
session-told-by kind n (meets_wild x) w work follow made = refl

pub session-told : (kind : MachineKind) (n : ℕ) (s : State) (m : HostModel) (work : Outcome → WorkPlan Outcome) (follow : Follow) → Made work follow → told_of (work_by kind (calling (sitting n) (λ end. work (session_outcome n end))) s m) ≡ []
unfolding course
session-told kind n s m work follow made = session-told-by kind n (session kind n s no_flags m) (at_start s (m, [])) work follow made

-- what is heard of a run is heard of what follows it
heard-after : (n : ℕ) (c : Course End RunWorld) (w : Work) (work : Outcome → WorkPlan Outcome) (follow : Follow) (P Q : Type 0) → Made work follow → (P → Q) → UnlessWild c P → UnlessWild (answer_of (after-run list_machine n work w c)) Q
heard-after n (ends e x) w work follow P Q made f p = subst (λ (y : Course Outcome ProgramWorld). UnlessWild (answer_of y) Q) (sym ((made (outcome_of n e) (record w { machine = x.0; host = x.1 })).goes list_machine)) (f p)
heard-after n (meets_wild x) w work follow P Q made f p = tt

pub reported-heard : (n : ℕ) (s : State) (m : HostModel) (work : Outcome → WorkPlan Outcome) (follow : Follow) (P Q : Type 0) → Made work follow → (P → Q) → UnlessWild (run_by list_machine n no_flags false s m) P →
    UnlessWild (answer_of (work_by list_machine (calling (reporting n) (λ end. work (outcome_of n end))) s m)) Q
unfolding course
reported-heard n s m work follow P Q made f p = heard-after n (run_by list_machine n no_flags false s m) (at_start s (m, traces list_machine n s m)) work follow P Q made f p
