-- What a turn answers.
use Rattle.std.proofs.Common.{◌≡◌, ◌≢◌, ℕ, suc, Bool, true, false, IsTrue, inl, inr, refl, sym, subst, ◌∙◌, ap}
use Rattle.std.specs.Prelude.{◌||◌}
use Rattle.mx_host.specs.HostModel.{HostModel}
use Rattle.mx_alu.specs.declared.call.TrapCall.{TrapCall}
use Rattle.mx_plan.specs.Plan.{Comes, Stops}
use Rattle.mx_plan.specs.Calls.{both}
use Rattle.mx_trap.specs.FileTraps.{trap_plan, trap_answer}
use Rattle.mx_trap.specs.Touches.{touches}
use Rattle.mx_trap.specs.declared.answer.TrapAnswer.{TrapAnswer}
use Rattle.mx_trap.specs.declared.answer.TrapAnswer.TheVariants as trap
use Rattle.mx_trap.proofs.KeptTraps.{trap-told}
use Rattle.mx_core.specs.MachineSpace.{machine_contents, IsWholeSpace}
use Rattle.mx_code.specs.Reasons.{number_of}
use Rattle.mx_core.specs.State.{State}
use Rattle.mx_core.specs.Step.{Stepped, went, calls, stopped, step}
use Rattle.mx_core.specs.Way.Stepping.{step_answer, step_needs_page}
use Rattle.mx_core.specs.Traps.{with_touch}
use Rattle.mx_code.specs.declared.reason.Reason.{Reason}
use Rattle.mx_core.specs.declared.step.Step.TheVariants as made
use Rattle.mx_code.specs.declared.trace.Trace.{Trace}
use Rattle.mx_core.proofs.Spaces.States.{told}
use Rattle.mx_run.specs.RunPlans.{running, beside_world, turn_plan, SparesOn, SparesMemory}
use Rattle.mx_run.specs.Turns.{turn_answer, with_touch_if, turn_with, trap_turn, turn_of, turn}
use Rattle.mx_run.specs.declared.turn_answer.TurnAnswer.{TurnAnswer}
use Rattle.mx_run.specs.declared.turn_answer.TurnAnswer.TheVariants as answer
use Rattle.mx_run.proofs.PlanEnds.{turn-end}

-- TOUCHES

or-true : (b : Bool) → (b || true) ≡ true
or-true true = refl
or-true false = refl

or-false : (b : Bool) → (b || false) ≡ b
or-false true = refl
or-false false = refl

abbrev with-touched : State → Bool → State
with-touched s b = record s { touched = b }

pub touch-noted : (s : State) → with_touch s ≡ with_touch_if true s
touch-noted s = ap (with-touched s) (sym (or-true s.touched))

pub no-touch : (s : State) → s ≡ with_touch_if false s
no-touch s = ap (with-touched s) (sym (or-false s.touched))

pub ruleset touching = (touch-noted, no-touch)

-- TURNS

went-by : (s t : State) (m : HostModel) (trace : Trace) (x : Stepped) → (made.Went trace, t) ≡ step_answer s x → (answer.Went trace, t, m) ≡ turn_answer (turn_of s m x)
went-by s t m trace (went u other) e = let same : t ≡ u = ap (λ p. p.1) e in let first : made.Went trace ≡ made.Went other = ap (λ p. p.0) e in let trace-same : trace ≡ other = cc in rw (same, trace-same) refl
went-by s t m trace (calls call) e = let first : made.Went trace ≡ made.Trap call = ap (λ p. p.0) e in absurd (cc)
went-by s t m trace (stopped reason) e = let first : made.Went trace ≡ made.Stopped reason = ap (λ p. p.0) e in absurd (cc)

turn-went : (s t : State) (m : HostModel) (trace : Trace) → (made.Went trace, t) ≡ step_answer s (step s) → (answer.Went trace, t, m) ≡ turn_answer (turn s m)
unfolding turn
turn-went s t m trace e = went-by s t m trace (step s) e

stopped-by : (s t : State) (m : HostModel) (reason : Reason) (x : Stepped) → (made.Stopped reason, t) ≡ step_answer s x → (answer.Stopped (number_of reason), t, m) ≡ turn_answer (turn_of s m x)
stopped-by s t m reason (went u other) e = let first : made.Stopped reason ≡ made.Went other = ap (λ p. p.0) e in absurd (cc)
stopped-by s t m reason (calls call) e = let first : made.Stopped reason ≡ made.Trap call = ap (λ p. p.0) e in absurd (cc)
stopped-by s t m reason (stopped other) e = let same : t ≡ s = ap (λ p. p.1) e in let first : made.Stopped reason ≡ made.Stopped other = ap (λ p. p.0) e in let reason-same : reason ≡ other = cc in rw (same, reason-same) refl

turn-stopped : (s t : State) (m : HostModel) (reason : Reason) → (made.Stopped reason, t) ≡ step_answer s (step s) → (answer.Stopped (number_of reason), t, m) ≡ turn_answer (turn s m)
unfolding turn
turn-stopped s t m reason e = stopped-by s t m reason (step s) e

called-by : (s t : State) (call : TrapCall) (x : Stepped) → (made.Trap call, t) ≡ step_answer s x → (x ≡ calls call) × (t ≡ s)
called-by s t call (went u other) e = let first : made.Trap call ≡ made.Went other = ap (λ p. p.0) e in absurd (cc)
called-by s t call (calls other) e = let first : made.Trap call ≡ made.Trap other = ap (λ p. p.0) e in let same : other ≡ call = cc in (ap calls same, ap (λ p. p.1) e)
called-by s t call (stopped reason) e = let first : made.Trap call ≡ made.Stopped reason = ap (λ p. p.0) e in absurd (cc)

-- a call is told with the machine as it is
pub call-told : (s t : State) (call : TrapCall) → (made.Trap call, t) ≡ step_answer s (step s) → step t ≡ calls call
call-told s t call e = let told = called-by s t call (step s) e in ap step told.1 ∙ told.0

pub went-comes : (s t : State) (m : HostModel) (trace : Trace) → (made.Went trace, t) ≡ step_answer s (step s) → Comes running (s, m) (t, m) answer.OutOfMemory (answer.Went trace) turn_plan
went-comes s t m trace e = record { ending = λ ne. ap beside_world (turn-went s t m trace e) ∙ sym (turn-end s m); stopping = λ h. absurd (cc) }

pub stopped-comes : (s t : State) (m : HostModel) (reason : Reason) → (made.Stopped reason, t) ≡ step_answer s (step s) →
    Comes running (s, m) (t, m) answer.OutOfMemory (answer.Stopped (number_of reason)) turn_plan
stopped-comes s t m reason e = record { ending = λ ne. ap beside_world (turn-stopped s t m reason e) ∙ sym (turn-end s m); stopping = λ h. absurd (cc) }

pub lacking-comes : (s t : State) (m : HostModel) → t ≡ s → IsTrue (step_needs_page s) → Comes running (s, m) (t, m) answer.OutOfMemory answer.OutOfMemory turn_plan
unfolding turn_plan Stops running
lacking-comes s t m e h = record { ending = λ ne. absurd (ne refl); stopping = λ same. inl (inl (h, ap (λ (u : State). (u, m)) e)) }

pub called-comes : (s t u : State) (m n : HostModel) (call : TrapCall) (r : TurnAnswer) → (made.Trap call, t) ≡ step_answer s (step s) → Comes running (t, m) (u, n) answer.OutOfMemory r turn_plan →
    Comes running (s, m) (u, n) answer.OutOfMemory r turn_plan
called-comes s t u m n call r e c = subst (λ (v : State). Comes running (v, m) (u, n) answer.OutOfMemory r turn_plan) (called-by s t call (step s) e).1 c

pub ruleset turns = (call-told, went-comes, stopped-comes, lacking-comes, called-comes)

-- TRAPS

trap-turn : (s : State) (m : HostModel) (call : TrapCall) → step s ≡ calls call → turn s m ≡ trap_turn (touches (machine_contents s).bytes call) call (trap_answer (machine_contents s) m call)
unfolding turn
trap-turn s m call e = ap (turn_of s m) e

-- the answer of a trap that is carried out, where it left a whole space
trap-ends : (s t : State) (m n : HostModel) (call : TrapCall) (value : TrapAnswer) → IsWholeSpace t → step s ≡ calls call → (value, machine_contents t, n) ≡ trap_answer (machine_contents s) m call →
    turn_answer (turn_with (touches (machine_contents s).bytes call) call t n value) ≡ turn_answer (turn s m)
trap-ends s t m n call value whole c e =
    let looks = touches (machine_contents s).bytes call in
    ap (λ (v : State). turn_answer (turn_with looks call v n value)) (sym (told t whole))
    ∙ ap (λ p. turn_answer (trap_turn looks call p)) e ∙ ap turn_answer (sym (trap-turn s m call c))

trap-stops : (s t u : State) (m n : HostModel) (call : TrapCall) → IsWholeSpace t → step s ≡ calls call → Stops both (machine_contents t, n) (trap_plan call) (machine_contents s, m) →
    u ≡ with_touch_if (touches (machine_contents s).bytes call) t → Stops running (u, n) turn_plan (s, m)
unfolding turn_plan Stops running
trap-stops s t u m n call whole c h e =
    inl (inr (rw c (record { moved = machine_contents t; stops = h; state = e ∙ ap (λ (v : State). with_touch_if (touches (machine_contents s).bytes call) v) (sym (told t whole)) })))

-- what comes of a trap as a whole: its bytes and its calls left t and n, and the answer and u were made of them
pub trap-comes : (s t u : State) (m n : HostModel) (call : TrapCall) (looks : Bool) (value : TrapAnswer) (r : TurnAnswer) → step s ≡ calls call → looks ≡ touches (machine_contents s).bytes call → IsWholeSpace t →
    Comes both (machine_contents s, m) (machine_contents t, n) trap.OutOfMemory value (trap_plan call) →
    (value ≢ trap.OutOfMemory → (k : HostModel) → (r, u, k) ≡ turn_answer (turn_with looks call t k value)) →
    (r ≡ answer.OutOfMemory → value ≡ trap.OutOfMemory) → (value ≡ trap.OutOfMemory → r ≡ answer.OutOfMemory) → (value ≡ trap.OutOfMemory → u ≡ with_touch_if looks t) →
    Comes running (s, m) (u, n) answer.OutOfMemory r turn_plan
trap-comes s t u m n call looks value r c l whole h finished memory unmade touch =
    record {
      ending = λ ne.
          let had : value ≢ trap.OutOfMemory = λ e. ne (unmade e) in
          ap beside_world (finished had n ∙ ap (λ b. turn_answer (turn_with b call t n value)) l ∙ trap-ends s t m n call value whole c (trap-told (machine_contents s) (machine_contents t) m n value call h had)) ∙ sym (turn-end s m);
      stopping = λ e. trap-stops s t u m n call whole c (h.stopping (memory e)) (subst (λ b. u ≡ with_touch_if b t) l (touch (memory e)));
    }

-- WANT OF MEMORY

went-on : (Next : State → Type 0) (s t : State) (trace : Trace) (x : Stepped) → (made.Went trace, t) ≡ step_answer s x → SparesOn Next x → Next t
went-on Next s t trace (went u other) e h = subst Next (sym (ap (λ p. p.1) e)) h
went-on Next s t trace (calls call) e h = absurd h
went-on Next s t trace (stopped reason) e h = let first : made.Went trace ≡ made.Stopped reason = ap (λ p. p.0) e in absurd (cc)

pub went-spares : (n : ℕ) (s t : State) (trace : Trace) → (made.Went trace, t) ≡ step_answer s (step s) → SparesMemory (suc n) s → SparesMemory n t
unfolding SparesMemory
went-spares n s t trace e h = went-on (SparesMemory n) s t trace (step s) e h.1

pub calls-none : (n : ℕ) (s t : State) (call : TrapCall) → (made.Trap call, t) ≡ step_answer s (step s) → SparesMemory (suc n) s → ⊥
unfolding SparesMemory
calls-none n s t call e h = rw (called-by s t call (step s) e).0 at h.1

pub needs-none : (n : ℕ) (s : State) → IsTrue (step_needs_page s) → SparesMemory (suc n) s → ⊥
unfolding SparesMemory
needs-none n s e h = let wrong : false ≡ true = sym h.0 ∙ e in absurd (cc)

pub ruleset sparing = (needs-none)
