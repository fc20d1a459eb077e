-- A run that watchers are told of, after some of its steps.
use Rattle.std.proofs.Common.{◌≡◌, ◌≢◌, ◌<◌, ◌≤◌, ◌+◌, ◌-◌, ℕ, false, List, [], ◌∷◌, length, map, Ok, Err, arith, refl, sym, ◌∙◌, ap}
use Rattle.std.specs.Prelude.{Result}
use Rattle.std.proofs.lemmas.List.{length-map}
use Rattle.mx_host.specs.HostModel.{HostModel}
use Rattle.mx_plan.specs.Plan.{Comes}
use Rattle.mx_core.specs.State.{State}
use Rattle.mx_code.specs.declared.trace.Trace.{Trace}
use Rattle.mx_run.specs.RunPlans.{running, beside_world, step_plan, end_of_turn}
use Rattle.mx_run.specs.Runs.{no_flags}
use Rattle.mx_run.specs.Turns.{Answered, turn_answer, Turn, went_on, halts, stops, turn}
use Rattle.mx_run.specs.WildRuns.{window_machine}
use Rattle.mx_run.specs.declared.end.End.{End}
use Rattle.mx_run.specs.declared.end.End.TheVariants.{OutOfMemory}
use Rattle.mx_run.proofs.AccompaniedRuns.{GoesOn}
use Rattle.mx_run.proofs.FreeRuns.{went-free}
use Rattle.mx_run.proofs.FreeTurns.{trace-free}
use Rattle.mx_run.proofs.PlanEnds.{left-after, run_step, step-end, step-answer}
use Rattle.mx_watch.specs.Listening.{Listening, listening, told, watched}
use Rattle.mx_watch.specs.Traces.{traces, traces_after}
use Rattle.mx_watch.specs.WatchedRuns.{left_with_reports}
use Rattle.mx_watch.specs.Watching.{Watching}
use Rattle.mx_watch.specs.declared.telling.Report.{Report}
use Rattle.mx_watch.proofs.Heard.{zip-second}

-- ---- at the start

pub begun-heard : (n : ℕ) (s : State) (m : HostModel) (l : Listening) → watched (traces window_machine (n - 0) s m) l ≡ watched (traces window_machine n s m) l
begun-heard n s m l = let all : n - 0 ≡ n = omega arith in rw all refl

-- ---- after a step that goes on

-- the turn is the step of the run
pub goes-on : (s t : State) (m k : HostModel) (trace : Trace) → turn s m ≡ went_on t k trace → GoesOn tt (s, m) (t, k)
goes-on s t m k trace e = ap beside_world (went-free s t m k trace e) ∙ sym (step-end no_flags false s m)

pub traces-left : (n i : ℕ) (s t : State) (m k : HostModel) (trace : Trace) → i < n → turn s m ≡ went_on t k trace → traces window_machine (n - i) s m ≡ trace ∷ traces window_machine (n - (i + 1)) t k
unfolding traces
traces-left n i s t m k trace l e = rw (left-after n i l) (ap (traces_after (traces window_machine (n - (i + 1)))) e)

pub went-heard : (n i : ℕ) (s t : State) (m k : HostModel) (trace : Trace) (l next whole : Listening) → i < n → turn s m ≡ went_on t k trace → next ≡ told trace l → watched (traces window_machine (n - i) s m) l ≡ whole →
    watched (traces window_machine (n - (i + 1)) t k) next ≡ whole
unfolding watched
went-heard n i s t m k trace l next whole inside e was h =
    ap (watched (traces window_machine (n - (i + 1)) t k)) was ∙ sym (ap (λ ts. watched ts l) (traces-left n i s t m k trace inside e)) ∙ h

-- ---- where the run ends

ends-by : (more : State → HostModel → List Trace) (pc : ℕ) (x : Turn) (end : End) → Err end ≡ end_of_turn no_flags pc (turn_answer x).0 → traces_after more x ≡ []
ends-by more pc (went_on s m trace) end e = let wrong : Err end ≡ Ok tt = e ∙ trace-free trace in absurd (cc)
ends-by more pc (halts status s m) end e = refl
ends-by more pc (stops reason s m) end e = refl

pub traces-ended : (n i : ℕ) (s t : State) (m k : HostModel) (end : End) → i < n → (Err end, t, k) ≡ run_step no_flags false s m → traces window_machine (n - i) s m ≡ []
unfolding traces run_step
traces-ended n i s t m k end l e =
    rw (left-after n i l) (ends-by (traces window_machine (n - (i + 1))) s.pc (turn s m) end (ap (λ (a : Answered (Result (Unit {0}) End)). a.0) e))

pub ended-heard : (n i : ℕ) (s t : State) (m k : HostModel) (end : End) (l whole : Listening) → i < n → end ≢ OutOfMemory → Comes running (s, m) (t, k) (Err OutOfMemory) (Err end) (step_plan no_flags false) →
    watched (traces window_machine (n - i) s m) l ≡ whole → l ≡ whole
unfolding watched
ended-heard n i s t m k end l whole inside ne c h =
    sym (ap (λ ts. watched ts l) (traces-ended n i s t m k end inside (step-answer no_flags false s t m k (Err end) (c.ending (λ e. ne (cc)))))) ∙ h

-- ---- where all steps are made

pub spent-heard : (n i : ℕ) (s : State) (m : HostModel) (l whole : Listening) → n ≤ i → watched (traces window_machine (n - i) s m) l ≡ whole → l ≡ whole
unfolding watched traces
spent-heard n i s m l whole end h = let none : n - i ≡ 0 = omega arith in sym (ap (λ j. watched (traces window_machine j s m) l) none) ∙ h

-- ---- what is left then

module _ {A : Type 0} (f : A → Watching) (Q : List ℕ) (ys : List A) (R : List Report) (whole : Listening) where
  pub left-heard : length Q ≡ length ys → listening Q (map f ys) R ≡ whole → (map f ys, R) ≡ left_with_reports whole
  left-heard same e = let long = length-map ys f in ap (λ (xs : List Watching). (xs, R)) (sym (zip-second Q (map f ys) (omega arith))) ∙ ap left_with_reports e
