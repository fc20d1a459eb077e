-- A step of a run without flags, and where a step spares memory.
use Rattle.std.proofs.Common.{◌≡◌, ℕ, suc, ◌+◌, ◌/◌, Bool, true, false, IsTrue, cond, List, [], Option, None, Some, Ok, Err, inl, inr, refl, sym, subst, ◌∙◌, ap}
use Rattle.std.specs.Prelude.{◌&&◌, nat_lt, Result}
use Rattle.mx_host.specs.HostModel.{HostModel}
use Rattle.mx_plan.specs.Plan.{Comes, Stops, bind}
use Rattle.mx_code.specs.Reasons.{number_of}
use Rattle.mx_core.specs.State.{State}
use Rattle.mx_core.specs.Step.{Stepped, went, calls, stopped, step}
use Rattle.mx_core.specs.Way.Stepping.{advanced, step_needs_page}
use Rattle.mx_code.specs.declared.reason.Reason.{Reason}
use Rattle.mx_core.specs.declared.step.Advance.TheVariants as advance
use Rattle.mx_code.specs.declared.trace.Touch.{Touch}
use Rattle.mx_code.specs.declared.trace.Trace.{Trace}
use Rattle.mx_run.specs.FlagMaps.{flags_at}
use Rattle.mx_run.specs.RunPlans.{RunWorld, running, beside_world, look, turn_plan, ended_turn, step_plan, SparesOn, SparesMemory, SparesAfter, SparesStep}
use Rattle.mx_run.specs.RunPlans.{end_of_trace, end_of_turn}
use Rattle.mx_run.specs.Ends.{FlagsOf, flagged_in, break_of}
use Rattle.mx_run.specs.Turns.{turn_answer, turn_of, turn}
use Rattle.mx_run.specs.declared.end.BreakKind.{BreakKind}
use Rattle.mx_run.specs.declared.end.End.{End}
use Rattle.mx_run.specs.declared.end.End.TheVariants.{Stopped, OutOfMemory}
use Rattle.mx_run.specs.declared.flags.Flags.{Flags}
use Rattle.mx_run.specs.declared.turn_answer.TurnAnswer.{TurnAnswer}
use Rattle.mx_run.specs.declared.turn_answer.TurnAnswer.TheVariants as answer
use Rattle.mx_run.proofs.PlanEnds.{turn_ended, run_step, step-end}

-- ---- without flags

and-false : (b : Bool) → (b && false) ≡ false
and-false true = refl
and-false false = refl

unflagged : (o : Option Touch) → flagged_in (λ n. false) o ≡ None
unflagged None = refl
unflagged (Some t) = ap (λ b. cond b (Some (t.at / 4 + 1)) None) (and-false (nat_lt 4 t.size))

pub no-break : (trace : Trace) → break_of (flags_at []) trace ≡ None
no-break trace = rw (unflagged trace.reads, unflagged trace.writes) refl

free-by : (s t : State) (m : HostModel) (x : Stepped) → (advance.Went, t) ≡ advanced s x → (Ok tt, t, m) ≡ turn_ended (flags_at []) s.pc (turn_answer (turn_of s m x))
free-by s t m (went u trace) e = let same : t ≡ u = ap (λ p. p.1) e in rw (same, no-break trace) refl
free-by s t m (calls call) e = let first : advance.Went ≡ advance.Trap = ap (λ p. p.0) e in absurd (cc)
free-by s t m (stopped reason) e = let first : advance.Went ≡ advance.Stopped reason = ap (λ p. p.0) e in absurd (cc)

went-free : (s t : State) (m : HostModel) → (advance.Went, t) ≡ advanced s (step s) → (Ok tt, t, m) ≡ run_step (flags_at []) true s m
unfolding run_step turn
went-free s t m e = free-by s t m (step s) e

stop-by : (s t : State) (m : HostModel) (reason : Reason) (x : Stepped) → (advance.Stopped reason, t) ≡ advanced s x → (Err (Stopped t.pc (number_of reason)), t, m) ≡ turn_ended (flags_at []) s.pc (turn_answer (turn_of s m x))
stop-by s t m reason (went u trace) e = let first : advance.Stopped reason ≡ advance.Went = ap (λ p. p.0) e in absurd (cc)
stop-by s t m reason (calls call) e = let first : advance.Stopped reason ≡ advance.Trap = ap (λ p. p.0) e in absurd (cc)
stop-by s t m reason (stopped other) e = let same : t ≡ s = ap (λ p. p.1) e in let first : advance.Stopped reason ≡ advance.Stopped other = ap (λ p. p.0) e in let why : reason ≡ other = cc in rw (same, why) refl

stopped-free : (s t : State) (m : HostModel) (reason : Reason) → (advance.Stopped reason, t) ≡ advanced s (step s) → (Err (Stopped t.pc (number_of reason)), t, m) ≡ run_step (flags_at []) true s m
unfolding run_step turn
stopped-free s t m reason e = stop-by s t m reason (step s) e

-- what comes of a step without flags
abbrev FreelyComes : List (ℕ × Flags) → RunWorld → RunWorld → Result (Unit {0}) End → Type 0
FreelyComes entries v w r = Comes running v w (Err OutOfMemory) r (step_plan (flags_at entries) true)

with-none : (entries : List (ℕ × Flags)) (v w : RunWorld) (r : Result (Unit {0}) End) → entries ≡ [] → FreelyComes [] v w r → FreelyComes entries v w r
with-none entries v w r h c = subst (λ es. FreelyComes es v w r) (sym h) c

pub free-went : (entries : List (ℕ × Flags)) (s t : State) (m : HostModel) → entries ≡ [] → (advance.Went, t) ≡ advanced s (step s) →
    Comes running (s, m) (t, m) (Err OutOfMemory) (Ok tt) (step_plan (flags_at entries) true)
free-went entries s t m h e =
    with-none entries (s, m) (t, m) (Ok tt) h (record { ending = λ ne. ap beside_world (went-free s t m e) ∙ sym (step-end (flags_at []) true s m); stopping = λ o. absurd (cc) })

pub free-stopped : (entries : List (ℕ × Flags)) (s t : State) (m : HostModel) (reason : Reason) → entries ≡ [] → (advance.Stopped reason, t) ≡ advanced s (step s) →
    Comes running (s, m) (t, m) (Err OutOfMemory) (Err (Stopped t.pc (number_of reason))) (step_plan (flags_at entries) true)
free-stopped entries s t m reason h e =
    with-none entries (s, m) (t, m) _ h (record { ending = λ ne. ap beside_world (stopped-free s t m reason e) ∙ sym (step-end (flags_at []) true s m); stopping = λ o. absurd (cc) })

lacking-free : (s : State) (m : HostModel) → IsTrue (step_needs_page s) → Stops running (s, m) (step_plan (flags_at []) true) (s, m)
unfolding step_plan look bind ended_turn turn_plan Stops running
lacking-free s m h = inr (inl (inl (h, refl)))

pub free-lacking : (entries : List (ℕ × Flags)) (s : State) (m : HostModel) → entries ≡ [] → IsTrue (step_needs_page s) →
    Comes running (s, m) (s, m) (Err OutOfMemory) (Err OutOfMemory) (step_plan (flags_at entries) true)
free-lacking entries s m h e = with-none entries (s, m) (s, m) _ h (record { ending = λ ne. absurd (ne refl); stopping = λ o. lacking-free s m e })

pub ruleset freely = (free-went, free-stopped, free-lacking)

-- ---- where memory runs out

went-on : (Next : State → Type 0) (s t : State) (x : Stepped) → (advance.Went, t) ≡ advanced s x → SparesOn Next x → Next t
went-on Next s t (went u trace) e h = subst Next (sym (ap (λ p. p.1) e)) h
went-on Next s t (calls call) e h = absurd h
went-on Next s t (stopped reason) e h = let first : advance.Went ≡ advance.Stopped reason = ap (λ p. p.0) e in absurd (cc)

pub went-spares : (n : ℕ) (s t : State) → (advance.Went, t) ≡ advanced s (step s) → SparesMemory (suc n) s → SparesMemory n t
unfolding SparesMemory
went-spares n s t e h = went-on (SparesMemory n) s t (step s) e h.1

pub needs-none : (n : ℕ) (s : State) → IsTrue (step_needs_page s) → SparesMemory (suc n) s → ⊥
unfolding SparesMemory
needs-none n s e h = let wrong : false ≡ true = sym h.0 ∙ e in absurd (cc)

trace-spares : (n : ℕ) (traced : Bool) (trace : Trace) (b : Option (BreakKind × ℕ)) (t : State) → SparesMemory n t → SparesStep n (end_of_trace traced trace b) t
trace-spares n traced trace (Some (kind, k)) t h = tt
trace-spares n true trace None t h = tt
trace-spares n false trace None t h = h

pub ended-spares : (n : ℕ) (f : FlagsOf) (pc : ℕ) (r : TurnAnswer) (t : State) → SparesAfter n r t → SparesStep n (end_of_turn f pc r) t
ended-spares n f pc (answer.Went trace) t h = trace-spares n (f (pc / 4)).t trace (break_of f trace) t h
ended-spares n f pc (answer.Halted status) t h = tt
ended-spares n f pc (answer.Stopped reason) t h = tt
ended-spares n f pc answer.OutOfMemory t h = absurd h

pub ruleset sparing = (went-spares, needs-none, ended-spares)
