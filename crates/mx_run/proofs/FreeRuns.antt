-- Runs without flags, of a machine that is lent: as wholes, and by their turns.
use Rattle.std.proofs.Common.{◌≡◌, ℕ, true, false, List, [], Ok, Err, inr, refl, sym, subst, ◌∙◌, ap}
use Rattle.std.specs.Prelude.{Result}
use Rattle.mx_host.specs.HostModel.{HostModel}
use Rattle.mx_plan.specs.Plan.{Comes, Stops, bind}
use Rattle.mx_core.specs.State.{State}
use Rattle.mx_code.specs.declared.trace.Trace.{Trace}
use Rattle.mx_run.specs.FlagMaps.{flags_at}
use Rattle.mx_run.specs.RunCourses.{RunsBoth}
use Rattle.mx_run.specs.RunPlans.{RunWorld, running, beside_world, turn_plan, look, ended_turn, step_plan, run_plan, end_of_turn}
use Rattle.mx_run.specs.Runs.{no_flags}
use Rattle.mx_run.specs.Turns.{Answered, turn_answer, Turn, went_on, halts, stops, turn}
use Rattle.mx_run.specs.declared.end.End.{End}
use Rattle.mx_run.specs.declared.end.End.TheVariants.{Halted, Stopped, OutOfMemory}
use Rattle.mx_run.specs.declared.flags.Flags.{Flags}
use Rattle.mx_run.specs.declared.turn_answer.TurnAnswer.{TurnAnswer}
use Rattle.mx_run.specs.declared.turn_answer.TurnAnswer.TheVariants as answer
use Rattle.mx_run.proofs.FreeTurns.{trace-free}
use Rattle.mx_run.proofs.PlanEnds.{turn_ended, run_step, step-end}
use Rattle.mx_run.proofs.RunBoth.{free-both}
use Rattle.mx_run.proofs.Runners.{turn-told}

-- ---- runs as wholes

unflagged : (entries : List (ℕ × Flags)) → entries ≡ [] → flags_at entries ≡ no_flags
unflagged entries e = ap flags_at e

pub free-run : (n : ℕ) (entries : List (ℕ × Flags)) (v w : RunWorld) (end : End) → entries ≡ [] → RunsBoth v w OutOfMemory end (run_plan n (flags_at entries) true) →
    RunsBoth v w OutOfMemory end (run_plan n no_flags false)
free-run n entries v w end h c =
    subst (λ f. RunsBoth v w OutOfMemory end (run_plan n f false)) (unflagged entries h) (free-both n entries false v w end h c)

-- ---- a step, by the answer of its turn

turned-free : (s t : State) (m n : HostModel) (r : TurnAnswer) → (r, t, n) ≡ turn_answer (turn s m) → (end_of_turn no_flags s.pc r, t, n) ≡ run_step no_flags false s m
unfolding run_step
turned-free s t m n r e = ap (turn_ended no_flags s.pc) e

-- a turn that goes on is a step that goes on
pub went-free : (s t : State) (m n : HostModel) (trace : Trace) → turn s m ≡ went_on t n trace → (Ok tt, t, n) ≡ run_step no_flags false s m
went-free s t m n trace e =
    ap (λ (x : Result (Unit {0}) End). (x, t, n)) (sym (trace-free trace)) ∙ turned-free s t m n (answer.Went trace) (sym (ap turn_answer e))

step-stops : (s t : State) (m n : HostModel) → Stops running (t, n) turn_plan (s, m) → Stops running (t, n) (step_plan no_flags false) (s, m)
unfolding step_plan look bind ended_turn turn_plan Stops running
step-stops s t m n h = inr h

step-comes : (s t : State) (m n : HostModel) (r : TurnAnswer) (x : Result (Unit {0}) End) → x ≡ end_of_turn no_flags s.pc r → (x ≡ Err OutOfMemory → r ≡ answer.OutOfMemory) → (r ≡ answer.OutOfMemory → x ≡ Err OutOfMemory) →
    Comes running (s, m) (t, n) answer.OutOfMemory r turn_plan → Comes running (s, m) (t, n) (Err OutOfMemory) x (step_plan no_flags false)
step-comes s t m n r x e only always c = record {
  ending = λ ne. ap beside_world (ap (λ (y : Result (Unit {0}) End). (y, t, n)) e ∙ turned-free s t m n r (turn-told s t m n r c (λ o. ne (always o)))) ∙ sym (step-end no_flags false s m);
  stopping = λ o. step-stops s t m n (c.stopping (only o));
}

went-by : (t : State) (n : HostModel) (trace : Trace) (x : Turn) → (answer.Went trace, t, n) ≡ turn_answer x → x ≡ went_on t n trace
went-by t n trace (went_on u k other) e =
    let first : answer.Went trace ≡ answer.Went other = ap (λ (a : Answered TurnAnswer). a.0) e in
    let same : other ≡ trace = cc in
    ap (λ (v : State). went_on v k other) (sym (ap (λ (a : Answered TurnAnswer). a.1) e)) ∙ ap (λ (h : HostModel). went_on t h other) (sym (ap (λ (a : Answered TurnAnswer). a.2) e)) ∙ ap (went_on t n) same
went-by t n trace (halts status u k) e = let first : answer.Went trace ≡ answer.Halted status = ap (λ (a : Answered TurnAnswer). a.0) e in absurd (cc)
went-by t n trace (stops reason u k) e = let first : answer.Went trace ≡ answer.Stopped reason = ap (λ (a : Answered TurnAnswer). a.0) e in absurd (cc)

pub went-turn : (s t : State) (m n : HostModel) (trace : Trace) → Comes running (s, m) (t, n) answer.OutOfMemory (answer.Went trace) turn_plan → turn s m ≡ went_on t n trace
went-turn s t m n trace c = went-by t n trace (turn s m) (turn-told s t m n (answer.Went trace) c (λ e. absurd (cc)))

pub halted-step : (s t : State) (m n : HostModel) (status : ℕ) → Comes running (s, m) (t, n) answer.OutOfMemory (answer.Halted status) turn_plan →
    Comes running (s, m) (t, n) (Err OutOfMemory) (Err (Halted status)) (step_plan no_flags false)
halted-step s t m n status c = step-comes s t m n (answer.Halted status) (Err (Halted status)) refl (λ e. absurd (cc)) (λ e. absurd (cc)) c

pub stopped-step : (s t : State) (m n : HostModel) (pc reason : ℕ) → pc ≡ s.pc → Comes running (s, m) (t, n) answer.OutOfMemory (answer.Stopped reason) turn_plan →
    Comes running (s, m) (t, n) (Err OutOfMemory) (Err (Stopped pc reason)) (step_plan no_flags false)
stopped-step s t m n pc reason at c = step-comes s t m n (answer.Stopped reason) (Err (Stopped pc reason)) (ap (λ a. Err (Stopped a reason)) at) (λ e. absurd (cc)) (λ e. absurd (cc)) c

pub lacking-step : (s t : State) (m n : HostModel) → Comes running (s, m) (t, n) answer.OutOfMemory answer.OutOfMemory turn_plan →
    Comes running (s, m) (t, n) (Err OutOfMemory) (Err OutOfMemory) (step_plan no_flags false)
lacking-step s t m n c = step-comes s t m n answer.OutOfMemory (Err OutOfMemory) refl (λ e. refl) (λ e. refl) c

pub ruleset turned = (went-turn, halted-step, stopped-step, lacking-step)
