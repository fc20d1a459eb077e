-- A run whose last steps are kept, step by step.
use Rattle.std.proofs.Common.{◌≡◌, ◌≢◌, ◌<◌, ◌≤◌, ◌+◌, ◌-◌, ℕ, zero, suc, Bool, true, false, List, [], Ok, Err, inl, inr, arith, refl, sym, subst, ◌∙◌, ap}
use Rattle.std.specs.Prelude.{Option, Result, ◌⊎◌}
use Rattle.mx_host.specs.HostModel.{HostModel, contents}
use Rattle.mx_host.proofs.Keeping.{keeps-all}
use Rattle.mx_plan.specs.Plan.{Comes, Stops}
use Rattle.mx_alu.specs.declared.call.TrapCall.{TrapCall}
use Rattle.mx_code.specs.Reasons.{number_of}
use Rattle.mx_core.specs.State.{State}
use Rattle.mx_core.specs.Step.{Stepped, went, calls, stopped, step}
use Rattle.mx_core.specs.Way.Stepping.{advanced, step_answer}
use Rattle.mx_core.specs.Undoing.{StateWas}
use Rattle.mx_code.specs.declared.reason.Reason.{Reason}
use Rattle.mx_core.specs.declared.step.Advance.{Advance}
use Rattle.mx_core.specs.declared.step.Advance.TheVariants as advance
use Rattle.mx_core.specs.declared.step.Step.TheVariants as made
use Rattle.mx_code.specs.declared.trace.Trace.{Trace}
use Rattle.mx_run.specs.RunPlans.{RunWorld, running, beside_world, turn_plan, step_plan, run_plan}
use Rattle.mx_run.specs.AccompaniedRuns.{AfterSteps, ComesAccompanied}
use Rattle.mx_run.specs.Runs.{Ended, IsLater, ended, no_flags, run}
use Rattle.mx_run.specs.Turns.{Answered, Turn, went_on, halts, stops, turn, turn_answer, may_change}
use Rattle.mx_run.specs.declared.end.End.{End}
use Rattle.mx_run.specs.declared.end.End.TheVariants as end
use Rattle.mx_run.specs.declared.turn_answer.TurnAnswer.{TurnAnswer}
use Rattle.mx_run.specs.declared.turn_answer.TurnAnswer.TheVariants as answer
use Rattle.mx_run.proofs.AccompaniedRuns.{Rest, Made, of-run}
use Rattle.mx_run.proofs.FreeRuns.{went-turn, went-free, halted-step, stopped-step, lacking-step}
use Rattle.mx_run.proofs.FreeTurns.{trace-free, none-made, run-went, run-halts, run-stops}
use Rattle.mx_run.proofs.Later.{stepped-later}
use Rattle.mx_run.proofs.PlanEnds.{left-after, run_step, turn_ended, step-end, step-answer, rest-ended}
use Rattle.mx_run.proofs.Runners.{turn-told}
use Rattle.mx_run.proofs.TurnAnswers.{call-told, went-comes, stopped-comes, called-comes}
use Rattle.mx_back.specs.History.{AreNotesOf, Turned, stepped, kept_turn, states_kept, states_before}
use Rattle.mx_back.specs.KeptRuns.{ComesStep, CallsTrap, LeavesLacking, FrontKept, TakesKeptStepBetween, TakesUsualStep, ended_at, notes_left, kind_by, trap_kind, turn_kind, kind_at, turns_after, turns_of}

-- ---- one step

as-step : (v w : RunWorld) (x : Result (Unit {0}) End) → Comes running v w (Err end.OutOfMemory) x (step_plan no_flags false) → ComesStep v w x
as-step v w x c = record { ending = c.ending; stopping = λ o. inl (c.stopping o) }

went-by : (s t : State) (m n : HostModel) (trace : Trace) → Comes running (s, m) (t, n) answer.OutOfMemory (answer.Went trace) turn_plan → ComesStep (s, m) (t, n) (Ok tt)
went-by s t m n trace c = record {
  ending = λ ne. ap beside_world (went-free s t m n trace (went-turn s t m n trace c)) ∙ sym (step-end no_flags false s m);
  stopping = λ o. absurd (cc);
}

-- by the answer of its turn
turned-by : (s t : State) (m n : HostModel) (pc : ℕ) (r : TurnAnswer) → pc ≡ s.pc → Comes running (s, m) (t, n) answer.OutOfMemory r turn_plan → ComesStep (s, m) (t, n) (ended_at pc r)
turned-by s t m n pc (answer.Went trace) e c = went-by s t m n trace c
turned-by s t m n pc (answer.Halted status) e c = as-step _ _ _ (halted-step s t m n status c)
turned-by s t m n pc (answer.Stopped reason) e c = as-step _ _ _ (stopped-step s t m n pc reason e c)
turned-by s t m n pc answer.OutOfMemory e c = as-step _ _ _ (lacking-step s t m n c)

pub went-step : (s t : State) (m : HostModel) (trace : Trace) → (made.Went trace, t) ≡ step_answer s (step s) → ComesStep (s, m) (t, m) (Ok tt)
went-step s t m trace e = went-by s t m m trace (went-comes s t m trace e)

pub stopped-step-at : (s t : State) (m : HostModel) (pc number : ℕ) (reason : Reason) → pc ≡ s.pc → number ≡ number_of reason → (made.Stopped reason, t) ≡ step_answer s (step s) →
    ComesStep (s, m) (t, m) (Err (end.Stopped pc number))
stopped-step-at s t m pc number reason at e h =
    turned-by s t m m pc (answer.Stopped number) at (subst (λ k. Comes running (s, m) (t, m) answer.OutOfMemory (answer.Stopped k) turn_plan) (sym e) (stopped-comes s t m reason h))

pub called-step : (s t u : State) (m n : HostModel) (pc : ℕ) (call : TrapCall) (r : TurnAnswer) → pc ≡ s.pc → (made.Trap call, t) ≡ step_answer s (step s) → Comes running (t, m) (u, n) answer.OutOfMemory r turn_plan →
    ComesStep (s, m) (u, n) (ended_at pc r)
called-step s t u m n pc call r at e c = turned-by s u m n pc r at (called-comes s t u m n call r e c)

pub unnoted-step : (s t : State) (m : HostModel) → t ≡ s → ComesStep (s, m) (t, m) (Err end.OutOfMemory)
unnoted-step s t m e = record { ending = λ ne. absurd (ne refl); stopping = λ o. inr (ap (λ (u : State). (u, m)) e) }

-- ---- a file trap

pub left-fits : (changed : Bool) (r : TurnAnswer) (old new : List StateWas) (s t : State) → changed ≡ may_change r → new ≡ notes_left changed old → (may_change r ≡ false → t ≡ s) → AreNotesOf old s → AreNotesOf new t
unfolding AreNotesOf
left-fits true r old new s t c e f h = subst (λ ns. AreNotesOf ns t) (sym e) tt
left-fits false r old new s t c e f h = subst (λ ns. AreNotesOf ns t) (sym e) (subst (AreNotesOf old) (sym (f (sym c))) h)

-- ---- the run, after some of its steps

ended-plainly : (n i : ℕ) (why : End) (v w start : RunWorld) → i < n → Rest n (n - i) v start → Comes running v w (Err end.OutOfMemory) (Err why) (step_plan no_flags false) → ComesAccompanied n start w why
ended-plainly n i why v w start l r c = of-run n start w why (rest-ended n i no_flags false why v w start (run_plan n no_flags false) l r.window c)

ended-by : (n i : ℕ) (why : End) (v w start : RunWorld) → i < n → Rest n (n - i) v start → Made i v start → why ≡ end.OutOfMemory →
    Stops running w (step_plan no_flags false) v ⊎ (w ≡ v) → Stops running w (run_plan n no_flags false) start ⊎ AfterSteps n start w
ended-by n i why v w start l r h o (inl lacks) =
    (ended-plainly n i why v w start l r (record { ending = λ ne. absurd (ne (ap Err o)); stopping = λ e. lacks })).stopping o
ended-by n i why v w start l r h o (inr same) = inr (record { made = i; few = omega (arith, l); steps = h ∙ ap (λ (x : RunWorld). ended end.Spent x.0 x.1) (sym same) })

pub ended-kept : (n i : ℕ) (why : End) (v w start : RunWorld) → i < n → Rest n (n - i) v start → Made i v start → ComesStep v w (Err why) → ComesAccompanied n start w why
ended-kept n i why v w start l r h c = record {
  ending = λ ne. (ended-plainly n i why v w start l r (record { ending = c.ending; stopping = λ e. absurd (ne (cc)) })).ending ne;
  stopping = λ o. ended-by n i why v w start l r h o (c.stopping (ap Err o));
}

-- ---- what is kept

kind-is : (r : TurnAnswer) → trap_kind r ≡ kind_by (may_change r)
kind-is (answer.Went trace) = refl
kind-is (answer.Halted status) = refl
kind-is (answer.Stopped reason) = refl
kind-is answer.OutOfMemory = refl

pub left-kept : (changed : Bool) (r : TurnAnswer) (old new : List StateWas) (s t : State) → changed ≡ may_change r → new ≡ notes_left changed old → (may_change r ≡ false → t ≡ s) →
    states_before new t ≡ kept_turn (trap_kind r) s (states_before old s)
unfolding states_before
left-kept true r old new s t c e f = ap (λ ns. states_before ns t) e ∙ ap (λ x. kept_turn x s (states_before old s)) (sym (kind-is r ∙ ap kind_by (sym c)))
left-kept false r old new s t c e f =
    ap (λ ns. states_before ns t) e ∙ ap (states_before old) (f (sym c)) ∙ ap (λ x. kept_turn x s (states_before old s)) (sym (kind-is r ∙ ap kind_by (sym c)))

-- the kind of a step by its answer
went-kind : (s t : State) (trace : Trace) (x : Stepped) (r : TurnAnswer) → (made.Went trace, t) ≡ step_answer s x → turn_kind x r ≡ stepped
went-kind s t trace (went u other) r e = refl
went-kind s t trace (calls call) r e = let first : made.Went trace ≡ made.Trap call = ap (λ p. p.0) e in absurd (cc)
went-kind s t trace (stopped reason) r e = let first : made.Went trace ≡ made.Stopped reason = ap (λ p. p.0) e in absurd (cc)

stopped-kind : (s t : State) (reason : Reason) (x : Stepped) (r : TurnAnswer) → (made.Stopped reason, t) ≡ step_answer s x → turn_kind x r ≡ kind_by false
stopped-kind s t reason (went u other) r e = let first : made.Stopped reason ≡ made.Went other = ap (λ p. p.0) e in absurd (cc)
stopped-kind s t reason (calls call) r e = let first : made.Stopped reason ≡ made.Trap call = ap (λ p. p.0) e in absurd (cc)
stopped-kind s t reason (stopped other) r e = refl

called-state : (s t : State) (call : TrapCall) (x : Stepped) → (made.Trap call, t) ≡ step_answer s x → t ≡ s
called-state s t call (went u other) e = let first : made.Trap call ≡ made.Went other = ap (λ p. p.0) e in absurd (cc)
called-state s t call (calls other) e = ap (λ p. p.1) e
called-state s t call (stopped reason) e = let first : made.Trap call ≡ made.Stopped reason = ap (λ p. p.0) e in absurd (cc)

pub went-keeps : (s t : State) (m : HostModel) (trace : Trace) (now kept : List State) → (made.Went trace, t) ≡ step_answer s (step s) → now ≡ kept_turn stepped s kept → now ≡ kept_turn (kind_at s m) s kept
went-keeps s t m trace now kept e h = h ∙ ap (λ k. kept_turn k s kept) (sym (went-kind s t trace (step s) (turn_answer (turn s m)).0 e))

pub stopped-keeps : (s t : State) (m : HostModel) (reason : Reason) (now kept : List State) → (made.Stopped reason, t) ≡ step_answer s (step s) → now ≡ kept → now ≡ kept_turn (kind_at s m) s kept
stopped-keeps s t m reason now kept e h = h ∙ ap (λ k. kept_turn k s kept) (sym (stopped-kind s t reason (step s) (turn_answer (turn s m)).0 e))

pub called-keeps : (s t u : State) (m n : HostModel) (call : TrapCall) (r : TurnAnswer) (now mid kept : List State) → (made.Trap call, t) ≡ step_answer s (step s) → Comes running (t, m) (u, n) answer.OutOfMemory r turn_plan → r ≢ answer.OutOfMemory →
    now ≡ kept_turn (trap_kind r) t mid → mid ≡ kept → now ≡ kept_turn (kind_at s m) s kept
called-keeps s t u m n call r now mid kept e c ne h g =
    let same = called-state s t call (step s) e in
    let told = ap (λ (a : Answered TurnAnswer). a.0) (turn-told t u m n r c ne) in
    h ∙ ap (kept_turn (trap_kind r) t) g ∙ ap (λ a. kept_turn (trap_kind a) t kept) told ∙ ap (λ x. kept_turn (turn_kind x (turn_answer (turn t m)).0) t kept) (sym (call-told s t call e)) ∙ ap (λ (v : State). kept_turn (kind_at v m) v kept) same

-- ---- a usual step

went-trace : (P : Type 0) (s t : State) (x : Stepped) → (advance.Went, t) ≡ advanced s x → ((trace : Trace) → (made.Went trace, t) ≡ step_answer s x → P) → P
went-trace P s t (went u trace) e f = f trace (ap (λ (p : Advance × State). (made.Went trace, p.1)) e)
went-trace P s t (calls call) e f = let first : advance.Went ≡ advance.Trap = ap (λ (p : Advance × State). p.0) e in absurd (cc)
went-trace P s t (stopped reason) e f = let first : advance.Went ≡ advance.Stopped reason = ap (λ (p : Advance × State). p.0) e in absurd (cc)

pub usual-step : (s t : State) (m : HostModel) → (advance.Went, t) ≡ advanced s (step s) → ComesStep (s, m) (t, m) (Ok tt)
usual-step s t m e = went-trace (ComesStep (s, m) (t, m) (Ok tt)) s t (step s) e (λ trace f. went-step s t m trace f)

pub usual-later : (s t : State) → (advance.Went, t) ≡ advanced s (step s) → IsLater 1 s t
usual-later s t e = went-trace (IsLater 1 s t) s t (step s) e (λ trace f. stepped-later (made.Went trace) s t f)

pub usual-keeps : (s t : State) (m : HostModel) (now kept : List State) → (advance.Went, t) ≡ advanced s (step s) → now ≡ kept_turn stepped s kept → now ≡ kept_turn (kind_at s m) s kept
usual-keeps s t m now kept e h = went-trace (now ≡ kept_turn (kind_at s m) s kept) s t (step s) e (λ trace f. went-keeps s t m trace now kept f h)

pub usual-taken : (told : Option HostModel) (faults : ℕ) (s t : State) (earlier later : List StateWas) → TakesUsualStep s t earlier later → TakesKeptStepBetween told told faults faults s t earlier later (Ok tt)
usual-taken told faults s t earlier later e = record {
  told = λ h. usual-step s t (contents told) e.made;
  over = e.over;
  bound = usual-later s t e.made;
  keeps = keeps-all told faults;
  fits = e.fits;
  kept = λ h ne. usual-keeps s t (contents told) _ _ e.made e.kept;
  lacking = λ h o. absurd (cc);
}

-- a step after one that was not made
pub same-step : (old new : Option HostModel) (f g : ℕ) (s u t : State) (earlier notes later : List StateWas) (r : Result (Unit {0}) End) → u ≡ s → notes ≡ earlier → TakesKeptStepBetween old new f g u t notes later r → TakesKeptStepBetween old new f g s t earlier later r
same-step old new f g s u t earlier notes later r e h k = subst (λ x. TakesKeptStepBetween old new f g x t earlier later r) e (subst (λ ns. TakesKeptStepBetween old new f g u t ns later r) h k)

-- ---- where memory was lacking

ended-lacks : (pc : ℕ) (r : TurnAnswer) → ended_at pc r ≡ Err end.OutOfMemory → r ≡ answer.OutOfMemory
ended-lacks pc (answer.Went trace) e = absurd (cc)
ended-lacks pc (answer.Halted status) e = absurd (cc)
ended-lacks pc (answer.Stopped reason) e = absurd (cc)
ended-lacks pc answer.OutOfMemory e = refl

pub unnoted-lacks : (s t : State) (m : HostModel) (kept now : List State) → t ≡ s → now ≡ kept → LeavesLacking (s, m) (t, m) kept now
unnoted-lacks s t m kept now e k = inl (ap (λ (u : State). (u, m)) e, k)

pub call-lacks : (s t u : State) (m n : HostModel) (pc : ℕ) (call : TrapCall) (r : TurnAnswer) (x : Result (Unit {0}) End) (kept mid now : List State) → (made.Trap call, t) ≡ step_answer s (step s) → Comes running (t, m) (u, n) answer.OutOfMemory r turn_plan →
    now ≡ kept_turn (trap_kind r) t mid → x ≡ ended_at pc r → x ≡ Err end.OutOfMemory → LeavesLacking (s, m) (u, n) kept now
call-lacks s t u m n pc call r x kept mid now e c h is o =
    let lacks : r ≡ answer.OutOfMemory = ended-lacks pc r (sym is ∙ o) in
    let same : t ≡ s = called-state s t call (step s) e in
    let called : step s ≡ calls call = ap step (sym same) ∙ call-told s t call e in
    inr (subst CallsTrap (sym called) tt, subst (λ v. Stops running (u, n) turn_plan (v, m)) same (c.stopping lacks), h ∙ ap (λ a. kept_turn (trap_kind a) t mid) lacks)

-- the turns after a step
on-by : (more : State → HostModel → List (Turned × State)) (pc : ℕ) (u : Unit {0}) (t : State) (n : HostModel) (x : Turn) → (Ok u, t, n) ≡ turn_ended no_flags pc (turn_answer x) → turns_after more x ≡ more t n
on-by more pc u t n (went_on v k trace) e = ap (λ (a : Answered (Result (Unit {0}) End)). more a.1 a.2) (sym e)
on-by more pc u t n (halts status v k) e = let first : Ok u ≡ Err (end.Halted status) = ap (λ (a : Answered (Result (Unit {0}) End)). a.0) e in absurd (cc)
on-by more pc u t n (stops reason v k) e = let first : Ok u ≡ Err (end.Stopped pc reason) = ap (λ (a : Answered (Result (Unit {0}) End)). a.0) e in absurd (cc)

end-by : (more : State → HostModel → List (Turned × State)) (pc : ℕ) (why : End) (t : State) (n : HostModel) (x : Turn) → (Err why, t, n) ≡ turn_ended no_flags pc (turn_answer x) → turns_after more x ≡ []
end-by more pc why t n (went_on v k trace) e = let first : Err why ≡ Ok tt = ap (λ (a : Answered (Result (Unit {0}) End)). a.0) e ∙ trace-free trace in absurd (cc)
end-by more pc why t n (halts status v k) e = refl
end-by more pc why t n (stops reason v k) e = refl

turns-left : (n i : ℕ) (s : State) (m : HostModel) (kept : List State) → i < n → states_kept (turns_of (n - i) s m) kept ≡ states_kept (turns_after (turns_of (n - (i + 1))) (turn s m)) (kept_turn (kind_at s m) s kept)
unfolding turns_of states_kept
turns-left n i s m kept l = rw (left-after n i l) refl

pub begun-kept : (n : ℕ) (s : State) (m : HostModel) (kept : List State) → states_kept (turns_of (n - 0) s m) kept ≡ states_kept (turns_of n s m) kept
begun-kept n s m kept = let all : n - 0 ≡ n = omega arith in rw all refl

pub went-kept-on : (n i : ℕ) (u : Unit {0}) (s t : State) (m k : HostModel) (before now whole : List State) → i < n → ComesStep (s, m) (t, k) (Ok u) → now ≡ kept_turn (kind_at s m) s before → states_kept (turns_of (n - i) s m) before ≡ whole →
    states_kept (turns_of (n - (i + 1)) t k) now ≡ whole
unfolding run_step
went-kept-on n i u s t m k before now whole l c e h =
    ap (states_kept (turns_of (n - (i + 1)) t k)) e
    ∙ ap (λ ts. states_kept ts (kept_turn (kind_at s m) s before)) (sym (on-by (turns_of (n - (i + 1))) s.pc u t k (turn s m) (step-answer no_flags false s t m k (Ok u) (c.ending (λ o. absurd (cc))))))
    ∙ sym (turns-left n i s m before l) ∙ h

pub ended-kept-so : (n i : ℕ) (why : End) (s t : State) (m k : HostModel) (before now whole : List State) → i < n → why ≢ end.OutOfMemory → ComesStep (s, m) (t, k) (Err why) → now ≡ kept_turn (kind_at s m) s before → states_kept (turns_of (n - i) s m) before ≡ whole →
    now ≡ whole
unfolding run_step states_kept
ended-kept-so n i why s t m k before now whole l ne c e h =
    e ∙ ap (λ ts. states_kept ts (kept_turn (kind_at s m) s before)) (sym (end-by (turns_of (n - (i + 1))) s.pc why t k (turn s m) (step-answer no_flags false s t m k (Err why) (c.ending (λ o. ne (cc))))))
    ∙ sym (turns-left n i s m before l) ∙ h

pub spent-kept-so : (n i : ℕ) (s : State) (m : HostModel) (now whole : List State) → n ≤ i → states_kept (turns_of (n - i) s m) now ≡ whole → now ≡ whole
unfolding turns_of states_kept
spent-kept-so n i s m now whole l h = let none : n - i ≡ 0 = omega arith in sym (ap (λ j. states_kept (turns_of j s m) now) none) ∙ h

-- ---- what some turns keep, and one more

none-after : (x : Turn) → turns_after (turns_of zero) x ≡ []
unfolding turns_of
none-after (went_on s m trace) = refl
none-after (halts status s m) = refl
none-after (stops reason s m) = refl

-- such turns after one
abbrev KeepsMore : ℕ → State → HostModel → State → HostModel → List State → Type 0
KeepsMore i s m t n kept = run i no_flags false s m ≡ ended end.Spent t n → states_kept (turns_of (suc i) s m) kept ≡ kept_turn (kind_at t n) t (states_kept (turns_of i s m) kept)

more-by : (i : ℕ) (s t : State) (m n : HostModel) (kept : List State) (x : Turn) → turn s m ≡ x → ((u : State) (h : HostModel) → KeepsMore i u h t n kept) → run (suc i) no_flags false s m ≡ ended end.Spent t n →
    states_kept (turns_after (turns_of (suc i)) x) kept ≡ kept_turn (kind_at t n) t (states_kept (turns_after (turns_of i) x) kept)
more-by i s t m n kept (went_on u h trace) e more r = more u h (sym (run-went i s u m h trace e) ∙ r)
more-by i s t m n kept (halts status u h) e more r = let wrong : end.Halted status ≡ end.Spent = ap (λ (x : Ended). x.end) (sym (run-halts i s u m h status e) ∙ r) in absurd (cc)
more-by i s t m n kept (stops reason u h) e more r = let wrong : end.Stopped s.pc reason ≡ end.Spent = ap (λ (x : Ended). x.end) (sym (run-stops i s u m h reason e) ∙ r) in absurd (cc)

kept-more : (i : ℕ) (s t : State) (m n : HostModel) (kept : List State) → KeepsMore i s m t n kept
unfolding turns_of states_kept
kept-more zero s t m n kept h =
    let same : ended end.Spent s m ≡ ended end.Spent t n = sym (none-made s m) ∙ h in
    ap (λ ts. states_kept ts (kept_turn (kind_at s m) s kept)) (none-after (turn s m)) ∙ ap (λ (x : Ended). kept_turn (kind_at x.state x.host) x.state kept) same
kept-more (suc i) s t m n kept h = more-by i s t m n (kept_turn (kind_at s m) s kept) (turn s m) refl (λ u g. kept-more i u t g n (kept_turn (kind_at s m) s kept)) h

pub none-kept : (s : State) (m : HostModel) (kept : List State) → kept ≡ states_kept (turns_of 0 s m) kept
unfolding turns_of states_kept
none-kept s m kept = refl

pub went-turns : (i : ℕ) (start v : RunWorld) (before now earlier : List State) → Made i v start → now ≡ kept_turn (kind_at v.0 v.1) v.0 before → before ≡ states_kept (turns_of i start.0 start.1) earlier →
    now ≡ states_kept (turns_of (i + 1) start.0 start.1) earlier
went-turns i start v before now earlier h e b =
    let next : suc i ≡ i + 1 = omega arith in
    e ∙ ap (kept_turn (kind_at v.0 v.1) v.0) b ∙ sym (kept-more i start.0 v.0 start.1 v.1 earlier h) ∙ ap (λ j. states_kept (turns_of j start.0 start.1) earlier) next

pub lacking-turns : (n i : ℕ) (start v w : RunWorld) (before now earlier : List State) → i < n → Made i v start → before ≡ states_kept (turns_of i start.0 start.1) earlier → LeavesLacking v w before now → FrontKept n start w earlier now
lacking-turns n i start v w before now earlier l h b e = record { made = i; few = l; reached = v; turns = h; left = subst (λ ks. LeavesLacking v w ks now) b e }
