-- Runs without flags, turn by turn.
use Rattle.std.proofs.Common.{◌≡◌, ℕ, zero, suc, ◌+◌, Bool, true, false, cond, Ok, arith, refl, sym, ◌∙◌, ap}
use Rattle.std.specs.Prelude.{Result}
use Rattle.mx_host.specs.HostModel.{HostModel}
use Rattle.mx_plan.specs.Plan.{bind, end_of}
use Rattle.mx_plan.specs.Wild.{Course, ends, meets_wild, then_on, course}
use Rattle.mx_core.specs.State.{State}
use Rattle.mx_code.specs.declared.trace.Trace.{Trace}
use Rattle.mx_run.specs.RunPlans.{RunWorld, running, look, turn_plan, ended_turn, step_plan, run_next, run_plan, end_of_trace, end_of_turn}
use Rattle.mx_run.specs.Runs.{Ended, ended, no_flags, break_of, run, ended_by}
use Rattle.mx_run.specs.Turns.{Turn, went_on, halts, stops, turn, turn_answer}
use Rattle.mx_run.specs.WildRuns.{MachineKind, ends_wild, run_goes, run_by}
use Rattle.mx_run.specs.declared.end.End.{End}
use Rattle.mx_run.specs.declared.end.End.TheVariants.{Halted, Stopped, Spent}
use Rattle.mx_run.proofs.FreeSteps.{no-break}

pub trace-free : (trace : Trace) → end_of_trace false trace (break_of no_flags trace) ≡ Ok tt
trace-free trace = ap (end_of_trace false trace) (no-break trace)

-- ---- of either machine

-- what a run comes to by its first turn
abbrev pub after_first : MachineKind → ℕ → ℕ → Turn → Course End RunWorld
after_first kind n pc (went_on s m trace) = run_by kind n no_flags false s m
after_first kind n pc (halts status s m) = ends (Halted status) (s, m)
after_first kind n pc (stops reason s m) = ends (Stopped pc reason) (s, m)

module _ (kind : MachineKind) (n pc : ℕ) where
  abbrev next : Result (Unit {0}) End → RunWorld → Course End RunWorld
  next r w = course (run_goes kind) (run_next (run_plan n no_flags false) r) w

  after-turn : (t : Turn) → next (end_of_turn no_flags pc (turn_answer t).0) ((turn_answer t).1, (turn_answer t).2) ≡ after_first kind n pc t
  unfolding course run_by
  after-turn (went_on s m trace) = ap (λ r. next r (s, m)) (trace-free trace)
  after-turn (halts status s m) = refl
  after-turn (stops reason s m) = refl

  unless-wild : (c : Bool) (s : State) (m : HostModel) (t : Turn) →
      then_on (λ a v. next (end_of_turn no_flags pc a) v) (cond c (meets_wild (s, m)) (ends (turn_answer t).0 ((turn_answer t).1, (turn_answer t).2))) ≡ cond c (meets_wild (s, m)) (after_first kind n pc t)
  unless-wild true s m t = refl
  unless-wild false s m t = after-turn t

pub none-by : (kind : MachineKind) (s : State) (m : HostModel) → run_by kind 0 no_flags false s m ≡ ends Spent (s, m)
unfolding run_by run_plan course
none-by kind s m = refl

pub run-by-turn : (kind : MachineKind) (n : ℕ) (s : State) (m : HostModel) → run_by kind (suc n) no_flags false s m ≡ cond (ends_wild kind s) (meets_wild (s, m)) (after_first kind n s.pc (turn s m))
unfolding run_by run_plan step_plan ended_turn look turn_plan bind course running
run-by-turn kind n s m = unless-wild kind n s.pc (ends_wild kind s) s m (turn s m)

pub by-wild : (kind : MachineKind) (n : ℕ) (s : State) (m : HostModel) → ends_wild kind s ≡ true → run_by kind (suc n) no_flags false s m ≡ meets_wild (s, m)
by-wild kind n s m e = run-by-turn kind n s m ∙ ap (λ c. cond c (meets_wild (s, m)) (after_first kind n s.pc (turn s m))) e

by-first : (kind : MachineKind) (n : ℕ) (s : State) (m : HostModel) (x : Turn) → ends_wild kind s ≡ false → turn s m ≡ x → run_by kind (suc n) no_flags false s m ≡ after_first kind n s.pc x
by-first kind n s m x e t = run-by-turn kind n s m ∙ ap (λ c. cond c (meets_wild (s, m)) (after_first kind n s.pc (turn s m))) e ∙ ap (after_first kind n s.pc) t

pub by-went : (kind : MachineKind) (n : ℕ) (s t : State) (m k : HostModel) (trace : Trace) → ends_wild kind s ≡ false → turn s m ≡ went_on t k trace → run_by kind (suc n) no_flags false s m ≡ run_by kind n no_flags false t k
by-went kind n s t m k trace e h = by-first kind n s m (went_on t k trace) e h

pub by-halt : (kind : MachineKind) (n status : ℕ) (s t : State) (m k : HostModel) → ends_wild kind s ≡ false → turn s m ≡ halts status t k → run_by kind (suc n) no_flags false s m ≡ ends (Halted status) (t, k)
by-halt kind n status s t m k e h = by-first kind n s m (halts status t k) e h

pub by-stop : (kind : MachineKind) (n reason : ℕ) (s t : State) (m k : HostModel) → ends_wild kind s ≡ false → turn s m ≡ stops reason t k → run_by kind (suc n) no_flags false s m ≡ ends (Stopped s.pc reason) (t, k)
by-stop kind n reason s t m k e h = by-first kind n s m (stops reason t k) e h

pub ruleset by_turns = (none-by, by-wild, by-went, by-halt, by-stop)

-- ---- over a window

pub none-made : (s : State) (m : HostModel) → run 0 no_flags false s m ≡ ended Spent s m
unfolding run run_plan end_of
none-made s m = refl

-- after the first turn, of which this many may follow
abbrev following : ℕ → ℕ → Turn → Ended
following i pc t = ended_by (end_of running (run_next (run_plan i no_flags false) (end_of_turn no_flags pc (turn_answer t).0)) ((turn_answer t).1, (turn_answer t).2))

by-turn : (i : ℕ) (s : State) (m : HostModel) (t : Turn) → turn s m ≡ t → run (suc i) no_flags false s m ≡ following i s.pc t
unfolding run run_plan step_plan ended_turn look turn_plan bind end_of running
by-turn i s m t e = ap (following i s.pc) e

pub run-went : (i : ℕ) (s t : State) (m n : HostModel) (trace : Trace) → turn s m ≡ went_on t n trace → run (suc i) no_flags false s m ≡ run i no_flags false t n
unfolding run
run-went i s t m n trace e = by-turn i s m (went_on t n trace) e ∙ ap (λ r. ended_by (end_of running (run_next (run_plan i no_flags false) r) (t, n))) (trace-free trace)

pub run-halts : (i : ℕ) (s t : State) (m n : HostModel) (status : ℕ) → turn s m ≡ halts status t n → run (suc i) no_flags false s m ≡ ended (Halted status) t n
unfolding end_of
run-halts i s t m n status e = by-turn i s m (halts status t n) e

pub run-stops : (i : ℕ) (s t : State) (m n : HostModel) (reason : ℕ) → turn s m ≡ stops reason t n → run (suc i) no_flags false s m ≡ ended (Stopped s.pc reason) t n
unfolding end_of
run-stops i s t m n reason e = by-turn i s m (stops reason t n) e

-- a run that spends its steps goes on as the run of the rest
abbrev GoesFrom : ℕ → ℕ → State → HostModel → State → HostModel → Type 0
GoesFrom i j t n s m = run i no_flags false s m ≡ ended Spent t n → run (i + j) no_flags false s m ≡ run j no_flags false t n

from-turn : (i j : ℕ) (s t : State) (m n : HostModel) (x : Turn) → turn s m ≡ x → ((u : State) (k : HostModel) → GoesFrom i j t n u k) → GoesFrom (suc i) j t n s m
from-turn i j s t m n (went_on u k trace) e more h =
    let next : suc i + j ≡ suc (i + j) = omega arith in
    ap (λ a. run a no_flags false s m) next ∙ run-went (i + j) s u m k trace e ∙ more u k (sym (run-went i s u m k trace e) ∙ h)
from-turn i j s t m n (halts status u k) e more h = let wrong : Halted status ≡ Spent = ap (λ (x : Ended). x.end) (sym (run-halts i s u m k status e) ∙ h) in absurd (cc)
from-turn i j s t m n (stops reason u k) e more h = let wrong : Stopped s.pc reason ≡ Spent = ap (λ (x : Ended). x.end) (sym (run-stops i s u m k reason e) ∙ h) in absurd (cc)

pub run-from : (i j : ℕ) (s t : State) (m n : HostModel) → GoesFrom i j t n s m
run-from zero j s t m n h =
    let all : 0 + j ≡ j = omega arith in
    let same = sym (none-made s m) ∙ h in
    ap (λ a. run a no_flags false s m) all ∙ ap (λ (x : Ended). run j no_flags false x.state x.host) same
run-from (suc i) j s t m n h = from-turn i j s t m n (turn s m) refl (λ u k. run-from i j u t k n) h
