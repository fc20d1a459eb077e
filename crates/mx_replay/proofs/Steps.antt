-- Steps of a run: at its start, after some turns, and after one.
use Rattle.std.proofs.Common.{Some, List, map, ◌≡◌, ◌≢◌, ◌<◌, ◌≤◌, ◌+◌, ◌-◌, ℕ, Bool, true, false, inl, inr, Ok, Err, arith, refl, sym, subst, ◌∙◌, ap}
use Rattle.std.specs.Prelude.{Result, ◌⊎◌, string_bytes}
use Rattle.std.proofs.Math.Nat.{eq-or-lt_of_le}
use Rattle.std.proofs.lemmas.Bool.{cases_lt}
use Rattle.mx_host.specs.HostModel.{HostModel, tells, contents}
use Rattle.mx_host.specs.HostAnswer.{Then}
use Rattle.mx_core.specs.Kept.{state_of}
use Rattle.mx_core.specs.State.{State}
use Rattle.mx_word.specs.Results.{map_ok}
use Rattle.mx_outcome.specs.declared.outcome.Outcome.{Outcome}
use Rattle.mx_outcome.specs.declared.outcome.Outcome.TheVariants as outcome
use Rattle.mx_plan.specs.Calls.{host}
use Rattle.mx_plan.specs.Clauses.{CarriesOutOnHost}
use Rattle.mx_plan.specs.Plan.{end_of}
use Rattle.mx_begin.specs.BeginPlans.{begin_plan}
use Rattle.mx_run.specs.WildRuns.{window_machine}
use Rattle.mx_run.specs.Runs.{Ended, ended, no_flags, run}
use Rattle.mx_run.specs.declared.end.End.{End}
use Rattle.mx_run.specs.declared.end.End.TheVariants.{Spent, OutOfMemory}
use Rattle.mx_run.proofs.Following.{run-spent}
use Rattle.mx_run.proofs.FreeTurns.{none-made}
use Rattle.mx_replay.specs.Programs.{GoesOn, HasEnded, IsReached, host_of, is_over, run_from, start_of, step_of}
use Rattle.mx_replay.specs.Visits.{ComesTo, IsStart, IsStep, came_to}
use Rattle.mx_replay.specs.declared.program.Program.{Program}
use Rattle.mx_replay.specs.declared.visit.Visit.{Visit}
use Rattle.mx_replay.proofs.RunEnds.{is-spent, run-below, run-stays}

-- THE START

first-step : (s : State) (m : HostModel) (t : Then (Result State Outcome)) → (Ok s, m) ≡ t → run_from 0 t ≡ Ok (ended Spent s m)
first-step s m t e = ap (run_from 0) (sym e) ∙ ap Ok (none-made s m)

pub start-is : (p : Program) (v : Visit) → v.at ≡ 0 → v.end ≡ Spent → (Ok (state_of v.machine), v.host) ≡ start_of p → IsStart p v
unfolding step_of
start-is p v first on e = record {
  step = record {
    shown = ap (step_of p) first ∙ first-step (state_of v.machine) v.host (start_of p) e ∙ ap (λ x. Ok (ended x (state_of v.machine) v.host)) (sym on);
    made = λ j l. absurd (omega (arith, l, first));
  };
  first = first;
}

pub start-refused : (p : Program) (why : Outcome) (m : HostModel) → (Err why, m) ≡ start_of p → step_of p 0 ≡ Err why
unfolding step_of
start-refused p why m e = ap (run_from 0) (sym e)

-- AFTER SOME TURNS

-- a step, and this many turns from it
from-by : (i j : ℕ) (s : State) (m : HostModel) (t : Then (Result State Outcome)) → run_from i t ≡ Ok (ended Spent s m) → run_from (i + j) t ≡ Ok (run j no_flags false s m)
from-by i j s m (Err why, k) e = absurd (cc)
from-by i j s m (Ok u, k) e = let reached : run i no_flags false u k ≡ ended Spent s m = cc in ap Ok (run-spent i j no_flags u s k m reached)

pub step-from : (p : Program) (i j : ℕ) (s : State) (m : HostModel) → step_of p i ≡ Ok (ended Spent s m) → step_of p (i + j) ≡ Ok (run j no_flags false s m)
unfolding step_of
step-from p i j s m e = from-by i j s m (start_of p) e

over-by : (i j : ℕ) (t : Then (Result State Outcome)) → map_ok (λ (e : Ended). is_over e.end) (run_from i t) ≡ Ok true → run_from (i + j) t ≡ run_from i t
over-by i j (Err why, m) e = refl
over-by i j (Ok s, m) e = ap Ok (run-stays i j s m (cc))

pub step-over : (p : Program) (i j : ℕ) → HasEnded p i → step_of p (i + j) ≡ step_of p i
unfolding step_of
step-over p i j e = over-by i j (start_of p) e

before-by : (i j : ℕ) (t : Then (Result State Outcome)) → i ≤ j → map_ok (λ (e : Ended). e.end) (run_from j t) ≡ Ok Spent → map_ok (λ (e : Ended). e.end) (run_from i t) ≡ Ok Spent
before-by i j (Err why, m) l e = absurd (cc)
before-by i j (Ok s, m) l e = ap Ok (run-below i j s m l (cc))

pub step-before : (p : Program) (i j : ℕ) → i ≤ j → GoesOn p j → GoesOn p i
unfolding step_of
step-before p i j l e = before-by i j (start_of p) l e

pub ruleset following = (step-from, step-over, step-before)

-- the step that is reached is as the one that was asked for
reached-by : (p : Program) (k at : ℕ) → IsReached p k at → (at ≡ k) ⊎ (at < k) → step_of p at ≡ step_of p k
reached-by p k at r (inl e) = ap (step_of p) e
reached-by p k at r (inr l) = let all : at + (k - at) ≡ k = omega (arith, l) in sym (step-over p at (k - at) (r.early l)) ∙ ap (step_of p) all

pub reached-same : (p : Program) (k at : ℕ) → IsReached p k at → step_of p at ≡ step_of p k
reached-same p k at r = reached-by p k at r (eq-or-lt_of_le r.within)

pub ruleset reaching = (reached-same)

-- where the run has ended
pub over-reached : (p : Program) (v : Visit) (k : ℕ) → IsStep p v → v.at ≤ k → is_over v.end ≡ true → IsReached p k v.at
over-reached p v k s l e = record { within = l; early = λ h. ap (map_ok (λ (x : Ended). is_over x.end)) s.shown ∙ ap Ok e }

-- where it has not
made-by : (p : Program) (v : Visit) (made j : ℕ) → IsStep p v → step_of p v.at ≡ Ok (ended Spent (state_of v.machine) v.host) → ((i : ℕ) → i < made → (run i no_flags false (state_of v.machine) v.host).end ≡ Spent) →
    j < v.at + made → (j < v.at) ⊎ (v.at ≤ j) → GoesOn p j
made-by p v made j s e on l (inl h) = s.made j h
made-by p v made j s e on l (inr h) =
    let all : v.at + (j - v.at) ≡ j = omega (arith, h) in
    subst (GoesOn p) all (ap (map_ok (λ (x : Ended). x.end)) (step-from p v.at (j - v.at) (state_of v.machine) v.host e) ∙ ap Ok (on (j - v.at) (omega (arith, l, h))))

pub on-step : (p : Program) (v w : Visit) (n made : ℕ) → is_over v.end ≡ false → ComesTo (state_of v.machine) v.host n made (came_to w) → w.at ≡ v.at + made → IsStep p v → IsStep p w
on-step p v w n made o c count s =
    let from = s.shown ∙ ap (λ x. Ok (ended x (state_of v.machine) v.host)) (is-spent v.end o) in
    record {
      shown = ap (step_of p) count ∙ step-from p v.at made (state_of v.machine) v.host from ∙ ap Ok c.reached;
      made = λ j l. made-by p v made j s from c.on (omega (arith, l, count)) (cases_lt j v.at);
    }

on-reached : (p : Program) (v w : Visit) (n k made : ℕ) → is_over v.end ≡ false → ComesTo (state_of v.machine) v.host n made (came_to w) → w.at ≡ v.at + made → v.at + n ≡ k → IsStep p v → IsReached p k w.at
on-reached p v w n k made o c count sum s = record {
  within = omega (arith, c.few, count, sum);
  early = λ l. ap (map_ok (λ (x : Ended). is_over x.end)) (on-step p v w n made o c count s).shown ∙ ap Ok (c.early (omega (arith, l, count, sum)));
}

pub gone-on : (p : Program) (v w : Visit) (n k made : ℕ) (over : Bool) → over ≡ is_over v.end → over ≡ false → ComesTo (state_of v.machine) v.host n made (came_to w) → w.at ≡ v.at + made → v.at + n ≡ k → IsStep p v → IsStep p w × IsReached p k w.at
gone-on p v w n k made over is not c count sum s = (on-step p v w n made (sym is ∙ not) c count s, on-reached p v w n k made (sym is ∙ not) c count sum s)

-- some turns before a step
pub reached-before : (p : Program) (k turns from at : ℕ) → from ≡ k - turns → IsReached p from at → at ≤ k
reached-before p k turns from at e r = omega (arith, e, r.within)

pub ruleset nearing = (reached-before)

-- THE CALL THAT BEGINS

pub begun-told : (p : Program) (words : List (List ℕ)) (m k : HostModel) (r : Result State Outcome) → words ≡ map string_bytes p.words → m ≡ host_of p → r ≢ Err outcome.OutOfMemory →
    CarriesOutOnHost (Some m) (Some k) (Err outcome.OutOfMemory) r (begin_plan window_machine words p.order p.form) → (r, k) ≡ start_of p
unfolding tells contents
begun-told p words m k r w e ne h =
    (h refl).ending ne ∙ ap (λ ws. end_of host (begin_plan window_machine ws p.order p.form) m) w ∙ ap (end_of host (begin_plan window_machine (map string_bytes p.words) p.order p.form)) e
