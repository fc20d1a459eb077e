-- Where no call that is made fails, the work on a machine comes to the same whatever the count of calls, and whatever the list of
-- those that fail.
use Rattle.std.proofs.Common.{◌≡◌, ◌⊎◌, inl, inr, ℕ, zero, suc, List, [], ◌∷◌, Bool, true, false, cond, refl, ◌∙◌, ap, subst}
use Rattle.mx_host.specs.HostModel.{HostModel}
use Rattle.mx_host.specs.HostAnswer.{Then}
use Rattle.mx_host.proofs.Still.{still}
use Rattle.mx_plan.specs.Calls.{HostSays}
use Rattle.mx_plan.specs.Plan.{Plan, returns, calls, end_of}
use Rattle.mx_plan.specs.Wild.{Course, ends, meets_wild, then_on, world_of, course}
use Rattle.mx_plan.proofs.Spared.{Spares, uncalled, after, plan-spared}
use Rattle.mx_plan.proofs.WildLaws.{course_still}
use Rattle.mx_code.specs.declared.trace.Trace.{Trace}
use Rattle.mx_core.specs.State.{State}
use Rattle.mx_core.specs.Step.{step}
use Rattle.mx_run.specs.Counts.{end_host}
use Rattle.mx_run.specs.RunPlans.{RunWorld}
use Rattle.mx_run.specs.Runs.{no_flags}
use Rattle.mx_run.specs.Turns.{Turn, went_on, halts, stops, turn, turn_answer}
use Rattle.mx_run.specs.WildRuns.{MachineKind, ends_wild, host_after, run_by}
use Rattle.mx_run.specs.declared.end.End.{End}
use Rattle.mx_run.specs.declared.turn_answer.TurnAnswer.TheVariants as answer
use Rattle.mx_run.proofs.FreeTurns.{after_first, none-by, run-by-turn}
use Rattle.mx_run.proofs.SteadyRuns.{end_still, run-steady, turn_still, turn-steady}
use Rattle.mx_back.specs.History.{kept_turn, states_kept}
use Rattle.mx_back.specs.KeptRuns.{turn_kind, turns_after, turns_of}
use Rattle.mx_con.specs.Session.{session}
use Rattle.mx_con.specs.Session as console
use Rattle.mx_con.specs.SessionPlans.{SessionWorld}
use Rattle.mx_con.specs.declared.end.SessionEnd.{SessionEnd}
use Rattle.mx_con.proofs.SteadySessions.{world_host, world_still, session-steady}
use Rattle.mx_watch.specs.Traces.{traces_after, traces}
use Rattle.mx_top.specs.MachineWork.{Work, WorkCall, of_host, stepping, reporting, keeping, sitting, WorkSays, work_goes, ran, sat}
use Rattle.mx_top.specs.Product.{ProgramWorld}

-- ---- plans: of the world of what is wild not all need be the same

abbrev pub left : {A W V : Type 0} → (W → V) → Course A W → (A × W) ⊎ V
left seen (ends a w) = inl (a, w)
left seen (meets_wild w) = inr (seen w)

abbrev pub SparedLeft : {A W V : Type 0} → (W → V) → (W → HostModel) → (W → W) → W → Course A W → Course A W → Type 0
SparedLeft seen host_of stilled w t u = Spares (host_of w) (host_of (world_of t)) (left seen (course_still stilled t)) (left seen u)

abbrev next : {A B W V : Type 0} → (W → V) → (A → W → Course B W) → (A × W) ⊎ V → (B × W) ⊎ V
next seen more (inl (a, w)) = left seen (more a w)
next seen more (inr v) = inr v

next-left : {A B W V : Type 0} (seen : W → V) (more : A → W → Course B W) (c : Course A W) → next seen more (left seen c) ≡ left seen (then_on more c)
next-left seen more (ends a w) = refl
next-left seen more (meets_wild w) = refl

pub left-spared : {O : Type 0} {R : O → Type 0} {W V A : Type 0} (seen : W → V) (host_of : W → HostModel) (stilled : W → W) (goes : (o : O) → W → Course (R o) W) →
    ((o : O) (w : W) → SparedLeft seen host_of stilled w (goes o w) (goes o (stilled w))) → (p : Plan O R A) (w : W) → SparedLeft seen host_of stilled w (course goes p w) (course goes p (stilled w))
unfolding course
left-spared seen host_of stilled goes h (returns a) w = uncalled
left-spared {O} {R} {W} {V} {A} seen host_of stilled goes h (calls o k) w =
    subst (λ (x : (A × W) ⊎ V). Spares (host_of w) (host_of (world_of (then_on (λ r v. course goes (k r) v) (goes o w)))) (left seen (course_still stilled (then_on (λ r v. course goes (k r) v) (goes o w)))) x)
    (next-left seen (λ r v. course goes (k r) v) (goes o (stilled w)))
    (after (next seen (λ r v. course goes (k r) v)) (h o w) (by (λ r v. left-spared seen host_of stilled goes h (k r) v) (goes o w)))
  where
    by : ((r : R o) (v : W) → SparedLeft seen host_of stilled v (course goes (k r) v) (course goes (k r) (stilled v))) → (c : Course (R o) W) →
        Spares (host_of (world_of c)) (host_of (world_of (then_on (λ r v. course goes (k r) v) c))) (left seen (course_still stilled (then_on (λ r v. course goes (k r) v) c)))
        (next seen (λ r v. course goes (k r) v) (left seen (course_still stilled c)))
    by more (ends r v) = more r v
    by more (meets_wild v) = uncalled

-- ---- a run, with the traces that are told of it

both : {X Y : Type 0} {m n : HostModel} {t u : X} {v w : Y} → Spares m n t u → Spares m n v w → Spares {X = X × Y} m n (t, v) (u, w)
both {X} {Y} {m} {n} {t} {u} {v} {w} h k = record { same = λ none. ap (λ (x : X). (x, v)) (h.same none) ∙ ap (λ (y : Y). (u, y)) (k.same none); later = h.later; list = h.list }

-- the traces of a run of at most n steps, in each model and in the still one
abbrev ToldSo : MachineKind → ℕ → Type 0
ToldSo kind n = (s : State) (m : HostModel) → Spares m (end_host (run_by kind n no_flags false s m)) (traces kind n s m) (traces kind n s (still m))

turn-told : (kind : MachineKind) (n pc : ℕ) → ToldSo kind n → (t : Turn) → Spares (host_after t) (end_host (after_first kind n pc t)) (traces_after (traces kind n) t) (traces_after (traces kind n) (turn_still t))
turn-told kind n pc more (went_on s m trace) = after (λ (ts : List Trace). trace ∷ ts) (more s m) uncalled
turn-told kind n pc more (halts status s m) = uncalled
turn-told kind n pc more (stops reason s m) = uncalled

step-told : (kind : MachineKind) (n : ℕ) (s : State) (m : HostModel) → ToldSo kind n → (b : Bool) →
    Spares m (end_host (cond b (meets_wild (s, m)) (after_first kind n s.pc (turn s m)))) (cond b [] (traces_after (traces kind n) (turn s m))) (cond b [] (traces_after (traces kind n) (turn s (still m))))
step-told kind n s m more true = uncalled
step-told kind n s m more false = after (traces_after (traces kind n)) (turn-steady s m) (turn-told kind n s.pc more (turn s m))

run-told : (kind : MachineKind) (n : ℕ) → ToldSo kind n
unfolding traces
run-told kind zero s m = rw (none-by kind s m) uncalled
run-told kind (suc n) s m = rw (run-by-turn kind n s m) (step-told kind n s m (run-told kind n) (ends_wild kind s))

-- ---- what a run leaves of the work, and with the states that it keeps

abbrev run_left : Work → Course End RunWorld → (End × Work) ⊎ ProgramWorld
run_left w (ends end v) = inl (end, record w { machine = v.0; host = v.1 })
run_left w (meets_wild v) = inr (v.1, w.told)

module _ (kind : MachineKind) (w : Work) where
  abbrev kept_left : List State → Course End RunWorld → (End × Work) ⊎ ProgramWorld
  kept_left kept r = run_left (record w { kept = kept }) r

  -- what is kept by a turn from a state, and by those after it
  abbrev kept_by : ℕ → State → List State → Turn → List State
  kept_by n s kept t = states_kept (turns_after (turns_of n) t) (kept_turn (turn_kind (step s) (turn_answer t).0) s kept)

  abbrev KeptSo : ℕ → List State → State → HostModel → Type 0
  KeptSo n kept s m =
      Spares m (end_host (run_by kind n no_flags false s m)) (kept_left (states_kept (turns_of n s m) kept) (end_still (run_by kind n no_flags false s m)))
      (kept_left (states_kept (turns_of n s (still m)) kept) (run_by kind n no_flags false s (still m)))

  turn-kept : (n : ℕ) (s : State) (kept : List State) → ((ks : List State) (u : State) (m : HostModel) → KeptSo n ks u m) → (t : Turn) →
      Spares (host_after t) (end_host (after_first kind n s.pc t)) (kept_left (kept_by n s kept t) (end_still (after_first kind n s.pc t))) (kept_left (kept_by n s kept (turn_still t)) (after_first kind n s.pc (turn_still t)))
  unfolding states_kept
  turn-kept n s kept more (halts status u m) = uncalled
  turn-kept n s kept more (stops reason u m) = uncalled
  turn-kept n s kept more (went_on u m trace) = more (kept_turn (turn_kind (step s) (answer.Went trace)) s kept) u m

  step-kept : (n : ℕ) (kept : List State) (s : State) (m : HostModel) → ((ks : List State) (u : State) (k : HostModel) → KeptSo n ks u k) → (b : Bool) →
      Spares m (end_host (cond b (meets_wild (s, m)) (after_first kind n s.pc (turn s m)))) (kept_left (kept_by n s kept (turn s m)) (end_still (cond b (meets_wild (s, m)) (after_first kind n s.pc (turn s m)))))
      (kept_left (kept_by n s kept (turn s (still m))) (cond b (meets_wild (s, still m)) (after_first kind n s.pc (turn s (still m)))))
  step-kept n kept s m more true = uncalled
  step-kept n kept s m more false = after (λ t. kept_left (kept_by n s kept t) (after_first kind n s.pc t)) (turn-steady s m) (turn-kept n s kept more (turn s m))

  run-kept : (n : ℕ) (kept : List State) (s : State) (m : HostModel) → KeptSo n kept s m
  unfolding turns_of states_kept
  run-kept zero kept s m = rw (none-by kind s m, none-by kind s (still m)) uncalled
  run-kept (suc n) kept s m = rw (run-by-turn kind n s m, run-by-turn kind n s (still m)) (step-kept n kept s m (run-kept n) (ends_wild kind s))

-- ---- the work on a machine

abbrev pub work_host : Work → HostModel
work_host w = w.host

abbrev pub work_still : Work → Work
work_still w = record w { host = still w.host }

abbrev pub work_seen : Work → ProgramWorld
work_seen w = (w.host, w.told)

ran-spared : {m : HostModel} (w : Work) (t u : List Trace) (k l : List State) (c d : Course End RunWorld) →
    Spares m (end_host c) (run_left (record w { told = t; kept = k }) (end_still c)) (run_left (record w { told = u; kept = l }) d) →
    Spares m (work_host (world_of (ran (record w { told = t; kept = k }) c))) (left work_seen (course_still work_still (ran (record w { told = t; kept = k }) c)))
    (left work_seen (ran (record (work_still w) { told = u; kept = l }) d))
ran-spared w t u k l (ends a v) (ends b x) h = h
ran-spared w t u k l (ends a v) (meets_wild x) h = h
ran-spared w t u k l (meets_wild v) (ends b x) h = h
ran-spared w t u k l (meets_wild v) (meets_wild x) h = h

abbrev session_left : Work → Course SessionEnd SessionWorld → (SessionEnd × Work) ⊎ ProgramWorld
session_left w (ends end v) = inl (end, record w { machine = v.0.0; host = v.0.1 })
session_left w (meets_wild v) = inr (v.0.1, w.told)

sat-spared : {m : HostModel} (w : Work) (c d : Course SessionEnd SessionWorld) →
    Spares m (world_host (world_of c)) (session_left w (course_still world_still c)) (session_left w d) →
    Spares m (work_host (world_of (sat w c))) (left work_seen (course_still work_still (sat w c))) (left work_seen (sat (work_still w) d))
sat-spared w (ends a v) (ends b x) h = h
sat-spared w (ends a v) (meets_wild x) h = h
sat-spared w (meets_wild v) (ends b x) h = h
sat-spared w (meets_wild v) (meets_wild x) h = h

pub work-spared : (kind : MachineKind) (o : WorkCall) (w : Work) → SparedLeft work_seen work_host work_still w (work_goes kind o w) (work_goes kind o (work_still w))
unfolding end_of
work-spared kind (of_host o) w =
    let say : Then (HostSays o) → (WorkSays (of_host o) × Work) ⊎ ProgramWorld = λ t. inl (t.0, record w { host = t.1 }) in
    after say (plan-spared (calls o (λ r. returns r)) w.host) uncalled
work-spared kind (stepping n) w =
    ran-spared w w.told w.told w.kept w.kept (run_by kind n no_flags false w.machine w.host) (run_by kind n no_flags false w.machine (still w.host))
    (after (run_left w) (run-steady kind n no_flags false w.machine w.host) uncalled)
work-spared kind (reporting n) w =
    let told : List Trace × Course End RunWorld → (End × Work) ⊎ ProgramWorld = λ x. run_left (record w { told = x.0 }) x.1 in
    ran-spared w (traces kind n w.machine w.host) (traces kind n w.machine (still w.host)) w.kept w.kept (run_by kind n no_flags false w.machine w.host) (run_by kind n no_flags false w.machine (still w.host))
    (after told (both (run-told kind n w.machine w.host) (run-steady kind n no_flags false w.machine w.host)) uncalled)
work-spared kind (keeping n) w =
    ran-spared w w.told w.told (states_kept (turns_of n w.machine w.host) []) (states_kept (turns_of n w.machine (still w.host)) [])
    (run_by kind n no_flags false w.machine w.host) (run_by kind n no_flags false w.machine (still w.host)) (run-kept kind w n [] w.machine w.host)
work-spared kind (sitting n) w =
    sat-spared w (session kind n w.machine no_flags w.host) (session kind n w.machine no_flags (still w.host)) (after (session_left w) (session-steady kind n w.machine no_flags w.host) uncalled)
work-spared kind other w = uncalled
