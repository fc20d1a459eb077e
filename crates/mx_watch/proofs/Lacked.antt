-- A run that watchers are told of, where there is no memory.
use Rattle.std.proofs.Common.{◌≡◌, ◌<◌, ◌≤◌, ◌+◌, ℕ, zero, suc, false, List, [], ◌∷◌, ◌++◌, length, map, Ok, Err, inl, inr, arith, refl, sym, subst, ◌∙◌, ap}
use Rattle.std.specs.Prelude.{Result, ◌⊎◌}
use Rattle.std.specs.List.{range_with_len}
use Rattle.std.proofs.lemmas.List.{append-nil, length-map}
use Rattle.std.proofs.lemmas.List.FromFn.{length-range_with_len}
use Rattle.mx_host.specs.HostModel.{HostModel}
use Rattle.mx_plan.specs.Plan.{Acts, Plan, returns, calls, bind, Comes, Stops, StopsAfter, end_of}
use Rattle.mx_core.specs.State.{State}
use Rattle.mx_code.specs.declared.trace.Trace.{Trace}
use Rattle.mx_run.specs.RunPlans.{RunWorld, running, run_next, run_plan, step_plan}
use Rattle.mx_run.specs.Runs.{Ended, ended, no_flags, run}
use Rattle.mx_run.specs.Turns.{Turn, went_on, halts, stops, turn}
use Rattle.mx_run.specs.WildRuns.{window_machine}
use Rattle.mx_run.specs.declared.end.End.{End}
use Rattle.mx_run.specs.declared.end.End.TheVariants.{Halted, Stopped, OutOfMemory, Spent}
use Rattle.mx_run.proofs.AccompaniedRuns.{Made, went-made}
use Rattle.mx_run.proofs.FreeTurns.{none-made, run-from, run-went, run-halts, run-stops}
use Rattle.mx_watch.specs.Lacking.{ToldSome, in_step, at_first, in_telling, StopsTold}
use Rattle.mx_watch.specs.Listening.{Listening, listening, starting, told, watched}
use Rattle.mx_watch.specs.Traces.{traces, traces_after}
use Rattle.mx_watch.specs.Watching.{Watching}
use Rattle.mx_watch.specs.declared.telling.Report.{Report}
use Rattle.mx_watch.proofs.Heard.{zip-second}
use Rattle.mx_watch.proofs.Listened.{goes-on, left-heard}

-- ---- the traces of some steps, and of one more

abbrev MoreTraces : ℕ → State → HostModel → Trace → State → HostModel → Type 0
MoreTraces i t k trace s m = run i no_flags false s m ≡ ended Spent t k → traces window_machine (i + 1) s m ≡ traces window_machine i s m ++ trace ∷ []

by-first : (i : ℕ) (s : State) (m : HostModel) (x : Turn) → turn s m ≡ x → traces window_machine (suc i) s m ≡ traces_after (traces window_machine i) x
unfolding traces
by-first i s m x e = ap (traces_after (traces window_machine i)) e

more-from : (i : ℕ) (s t : State) (m k : HostModel) (trace : Trace) (x : Turn) → turn s m ≡ x → ((v : State) (j : HostModel) → MoreTraces i t k trace v j) → MoreTraces (suc i) t k trace s m
more-from i s t m k trace (went_on v j first) e more h =
    let next : suc i + 1 ≡ suc (i + 1) = omega arith in
    ap (λ a. traces window_machine a s m) next ∙ by-first (i + 1) s m (went_on v j first) e ∙ ap (λ ts. first ∷ ts) (more v j (sym (run-went i s v m j first e) ∙ h))
    ∙ ap (λ ts. ts ++ trace ∷ []) (sym (by-first i s m (went_on v j first) e))
more-from i s t m k trace (halts status v j) e more h = let wrong : Halted status ≡ Spent = ap (λ (x : Ended). x.end) (sym (run-halts i s v m j status e) ∙ h) in absurd (cc)
more-from i s t m k trace (stops reason v j) e more h = let wrong : Stopped s.pc reason ≡ Spent = ap (λ (x : Ended). x.end) (sym (run-stops i s v m j reason e) ∙ h) in absurd (cc)

no-traces : (s : State) (m : HostModel) → traces window_machine 0 s m ≡ []
unfolding traces
no-traces s m = refl

more-traces : (i : ℕ) (s t u : State) (m k j : HostModel) (trace : Trace) → turn t k ≡ went_on u j trace → MoreTraces i t k trace s m
more-traces zero s t u m k j trace e h =
    let same : ended Spent s m ≡ ended Spent t k = sym (none-made s m) ∙ h in
    by-first 0 s m (went_on u j trace) (ap (λ (x : Ended). turn x.state x.host) same ∙ e) ∙ ap (λ ts. trace ∷ ts) (no-traces u j) ∙ ap (λ ts. ts ++ trace ∷ []) (sym (no-traces s m))
more-traces (suc i) s t u m k j trace e h = more-from i s t m k trace (turn s m) refl (λ v x. more-traces i v t u x k j trace e) h

-- ---- what watchers were told up to some step

watched-more : (ts : List Trace) (t : Trace) (l : Listening) → watched (ts ++ t ∷ []) l ≡ told t (watched ts l)
unfolding watched
watched-more [] t l = refl
watched-more (x ∷ ts) t l = watched-more ts t (told x l)

pub begun-told : (s : State) (m : HostModel) (l : Listening) → l ≡ watched (traces window_machine 0 s m) l
unfolding watched traces
begun-told s m l = refl

pub went-told : (i : ℕ) (s t u : State) (m k j : HostModel) (trace : Trace) (l next start : Listening) → turn t k ≡ went_on u j trace → Made i (t, k) (s, m) → next ≡ told trace l → l ≡ watched (traces window_machine i s m) start →
    next ≡ watched (traces window_machine (i + 1) s m) start
went-told i s t u m k j trace l next start e made is was =
    is ∙ ap (told trace) was ∙ sym (watched-more (traces window_machine i s m) trace start) ∙ ap (λ ts. watched ts start) (sym (more-traces i s t u m k j trace e made))

-- ---- where memory runs out

module _ {A : Type 0} (f : A → Watching) (Q : List ℕ) (ys : List A) (R : List Report) (same : length Q ≡ length ys) where
  -- in a step
  pub lacked-step : (n i : ℕ) (s t u : State) (m k j : HostModel) (end : End) (start : Listening) → i < n → Made i (t, k) (s, m) → Comes running (t, k) (u, j) (Err OutOfMemory) (Err end) (step_plan no_flags false) →
      listening Q (map f ys) R ≡ watched (traces window_machine i s m) start → end ≡ OutOfMemory → StopsTold n (s, m) (u, j) start (map f ys) R
  lacked-step n i s t u m k j end start inside made c was e = record {
    made = i;
    few = omega (arith, inside);
    between = (t, k);
    steps = made;
    now = listening Q (map f ys) R;
    seen = left-heard f Q ys R (listening Q (map f ys) R) same refl;
    lacked = in_step (c.stopping (ap Err e)) was;
  }

  -- when a trace is told
  pub lacked-telling : (n i : ℕ) (s t u : State) (m k j : HostModel) (trace : Trace) (l start : Listening) → i < n → turn t k ≡ went_on u j trace → Made i (t, k) (s, m) →
      l ≡ watched (traces window_machine i s m) start → ToldSome trace l (listening Q (map f ys) R) → StopsTold n (s, m) (u, j) start (map f ys) R
  lacked-telling n i s t u m k j trace l start inside e made was some = record {
    made = i + 1;
    few = omega (arith, inside);
    between = (u, j);
    steps = went-made i tt (t, k) (u, j) (s, m) (goes-on t u k j trace e) made;
    now = listening Q (map f ys) R;
    seen = left-heard f Q ys R (listening Q (map f ys) R) same refl;
    lacked = in_telling (traces window_machine i s m) trace (more-traces i s t u m k j trace e made) refl (subst (λ (x : Listening). ToldSome trace x (listening Q (map f ys) R)) was some);
  }

-- before the first step
pub lacked-first : (n : ℕ) (v : RunWorld) (ws : List Watching) (K : List Report) → StopsTold n v v (starting ws K) ws K
lacked-first n v ws K = record {
  made = 0;
  few = omega arith;
  between = v;
  steps = none-made v.0 v.1;
  now = starting ws K;
  seen = ap (λ (xs : List Watching). (xs, K)) (sym (zip-second (range_with_len 0 (length ws)) ws (length-range_with_len 0 (length ws))));
  lacked = at_first (no-traces v.0 v.1) refl refl;
}

-- from the start on
pub lacked-placed : {A : Type 0} (f : A → Watching) (n : ℕ) (v w : RunWorld) (P : List ℕ) (xs : List A) (K R : List Report) (left : List Watching) (count : ℕ) → P ≡ range_with_len 0 count → count ≡ length xs →
    StopsTold n v w (listening P (map f xs) K) left R → StopsTold n v w (starting (map f xs) K) left R
lacked-placed f n v w P xs K R left count places all h =
    let begun : listening P (map f xs) K ≡ starting (map f xs) K = ap (λ p. listening p (map f xs) K) (places ∙ ap (range_with_len 0) (all ∙ sym (length-map xs f))) in
    subst (λ (l : Listening). StopsTold n v w l left R) begun h

-- ---- without watchers: in which step a run stops

either : {X Y Z : Type 0} → (X → Z) → X ⊎ Y → Z ⊎ Y
either f (inl x) = inl (f x)
either f (inr y) = inr y

stops-where : {O : Type 0} {R : O → Type 0} {W A B : Type 0} (d : Acts O R W) (f : A → Plan O R B) (p : Plan O R A) (v w : W) → Stops d v (bind f p) w → Stops d v p w ⊎ StopsAfter d v f (end_of d p w)
unfolding bind Stops end_of
stops-where d f (returns a) v w h = inr h
stops-where d f (calls o k) v w (inl l) = inl (inl l)
stops-where d f (calls o k) v w (inr h) = either (λ s. inr s) (stops-where d f (k (d.act o w).0) v (d.act o w).1 h)

record StepLacks (n : ℕ) (v w : RunWorld) : Type 0 where
  made : ℕ
  few : made ≤ n
  between : RunWorld
  steps : Made made between v
  lacks : Stops running w (step_plan no_flags false) between

after-step : (n : ℕ) (v w : RunWorld) (e : Result (Unit {0}) End × RunWorld) → e ≡ end_of running (step_plan no_flags false) v → StopsAfter running w (run_next (run_plan n no_flags false)) e →
    ((x : RunWorld) → Stops running w (run_plan n no_flags false) x → StepLacks n x w) → StepLacks (suc n) v w
unfolding Stops
after-step n v w (Ok u, x) is h more =
    let rest = more x h in
    record {
      made = 1 + rest.made;
      few = let few = rest.few in omega arith;
      between = rest.between;
      steps = run-from 1 rest.made v.0 x.0 v.1 x.1 (went-made 0 u v x v is (none-made v.0 v.1)) ∙ rest.steps;
      lacks = rest.lacks;
    }
after-step n v w (Err end, x) is h more = absurd h

by-step : (n : ℕ) (v w : RunWorld) → Stops running w (step_plan no_flags false) v ⊎ StopsAfter running w (run_next (run_plan n no_flags false)) (end_of running (step_plan no_flags false) v) →
    ((x : RunWorld) → Stops running w (run_plan n no_flags false) x → StepLacks n x w) → StepLacks (suc n) v w
by-step n v w (inl l) more = record { made = 0; few = omega arith; between = v; steps = none-made v.0 v.1; lacks = l }
by-step n v w (inr h) more = after-step n v w (end_of running (step_plan no_flags false) v) refl h more

in-step : (n : ℕ) (v w : RunWorld) → Stops running w (run_plan n no_flags false) v → StepLacks n v w
unfolding run_plan Stops
in-step zero v w h = absurd h
in-step (suc n) v w h = by-step n v w (stops-where running (run_next (run_plan n no_flags false)) (step_plan no_flags false) w v h) (λ x s. in-step n x w s)

nobody-told : (ts : List Trace) (K : List Report) → watched ts (starting [] K) ≡ starting [] K
unfolding watched
nobody-told [] K = refl
nobody-told (t ∷ ts) K = ap (λ (R : List Report). watched ts (starting [] R)) (append-nil K) ∙ nobody-told ts K

nobody-lacked : (n : ℕ) (v w : RunWorld) (K : List Report) → StepLacks n v w → StopsTold n v w (starting [] K) [] K
nobody-lacked n v w K l = record {
  made = l.made;
  few = l.few;
  between = l.between;
  steps = l.steps;
  now = starting [] K;
  seen = refl;
  lacked = in_step l.lacks (sym (nobody-told (traces window_machine l.made v.0 v.1) K));
}

pub lacked-alone : {A : Type 0} (f : A → Watching) (n : ℕ) (v w : RunWorld) (xs : List A) (K : List Report) → xs ≡ [] → Stops running w (run_plan n no_flags false) v → StopsTold n v w (starting (map f xs) K) (map f xs) K
lacked-alone f n v w xs K e h = rw e (nobody-lacked n v w K (in-step n v w h))
