-- What further steps come to after some steps of a run.
use Rattle.std.proofs.Common.{◌≡◌, ◌≢◌, ℕ, zero, suc, ◌+◌, ◌/◌, Bool, true, false, cond, Option, None, Some, Ok, Err, arith, refl, sym, subst, ◌∙◌, ap}
use Rattle.std.proofs.lemmas.Bool.Decides.{nat_tests}
use Rattle.std.specs.Prelude.{Result, ◌&&◌, ◌==◌, not}
use Rattle.mx_host.specs.HostModel.{HostModel}
use Rattle.mx_plan.specs.Plan.{returns, bind}
use Rattle.mx_plan.specs.Wild.{Course, ends, meets_wild, then_on, course}
use Rattle.mx_plan.proofs.WildLaws.{course_bind}
use Rattle.mx_core.specs.State.{State}
use Rattle.mx_code.specs.declared.trace.Trace.{Trace}
use Rattle.mx_run.specs.RunPlans.{RunWorld, running, look, turn_plan, ended_turn, step_plan, run_next, run_plan, end_of_trace, end_of_turn}
use Rattle.mx_run.specs.Runs.{FlagsOf, Ended, ended, break_of, run}
use Rattle.mx_run.specs.Turns.{Answered, turn, turn_answer}
use Rattle.mx_run.specs.WildRuns.{MachineKind, window_machine, ends_wild, run_goes, run_by, run_ended}
use Rattle.mx_run.specs.declared.end.BreakKind.{BreakKind}
use Rattle.mx_run.specs.declared.end.BreakKind.TheVariants.{Execute}
use Rattle.mx_run.specs.declared.end.End.{End}
use Rattle.mx_run.specs.declared.end.End.TheVariants.{Halted, Stopped, Broke, Traced, Spent, OutOfMemory}
use Rattle.mx_run.specs.declared.turn_answer.TurnAnswer.{TurnAnswer}
use Rattle.mx_run.specs.declared.turn_answer.TurnAnswer.TheVariants as answer
use Rattle.mx_run.proofs.BothMachines.{window-ends}

-- ---- a step that ends a run is not the end of all its steps

abbrev EndsOver : Result (Unit {0}) End → Type 0
EndsOver (Ok u) = Unit {0}
EndsOver (Err end) = end ≢ Spent

over-trace : (traced : Bool) (trace : Trace) (b : Option (BreakKind × ℕ)) → EndsOver (end_of_trace traced trace b)
over-trace traced trace (Some (kind, n)) = λ e. absurd (cc)
over-trace true trace None = λ e. absurd (cc)
over-trace false trace None = tt

over-turn : (f : FlagsOf) (pc : ℕ) (r : TurnAnswer) → EndsOver (end_of_turn f pc r)
over-turn f pc (answer.Went trace) = over-trace (f (pc / 4)).t trace (break_of f trace)
over-turn f pc (answer.Halted status) = λ e. absurd (cc)
over-turn f pc (answer.Stopped reason) = λ e. absurd (cc)
over-turn f pc answer.OutOfMemory = λ e. absurd (cc)

abbrev StepOver : Course (Result (Unit {0}) End) RunWorld → Type 0
StepOver (ends r w) = EndsOver r
StepOver (meets_wild w) = Unit {0}

over-wild : (f : FlagsOf) (pc : ℕ) (wild : Bool) (w : RunWorld) (a : Answered TurnAnswer) →
    StepOver (then_on (λ r v. ends (end_of_turn f pc r) v) (cond wild (meets_wild w) (ends a.0 (a.1, a.2))))
over-wild f pc true w a = tt
over-wild f pc false w a = over-turn f pc a.0

over-break : (kind : MachineKind) (f : FlagsOf) (b : Bool) (s : State) (m : HostModel) →
    StepOver (course (run_goes kind) (cond b (returns (Err (Broke Execute s.pc None))) (ended_turn f s.pc)) (s, m))
unfolding course ended_turn turn_plan bind running
over-break kind f true s m = λ e. absurd (cc)
over-break kind f false s m = over-wild f s.pc (ends_wild kind s) (s, m) (turn_answer (turn s m))

over-step : (kind : MachineKind) (f : FlagsOf) (pass : Bool) (w : RunWorld) → StepOver (course (run_goes kind) (step_plan f pass) w)
unfolding course step_plan look bind running
over-step kind f pass w = over-break kind f ((f (w.0.pc / 4)).x && not pass) w.0 w.1

-- ---- what follows

abbrev goes : MachineKind → ℕ → FlagsOf → Bool → RunWorld → Course End RunWorld
goes kind n f pass w = course (run_goes kind) (run_plan n f pass) w

abbrev next : MachineKind → ℕ → FlagsOf → Result (Unit {0}) End → RunWorld → Course End RunWorld
next kind n f r w = course (run_goes kind) (run_next (run_plan n f false) r) w

-- what so many further steps come to, where some steps came to this: those from there, where all steps were made, and else the same
abbrev Follows : MachineKind → ℕ → FlagsOf → Bool → Course End RunWorld → Course End RunWorld → Type 0
Follows kind j f pass (ends Spent w) c = c ≡ goes kind j f pass w
Follows kind j f pass (ends (Halted status) w) c = c ≡ ends (Halted status) w
Follows kind j f pass (ends (Stopped pc reason) w) c = c ≡ ends (Stopped pc reason) w
Follows kind j f pass (ends (Broke why at trace) w) c = c ≡ ends (Broke why at trace) w
Follows kind j f pass (ends (Traced trace) w) c = c ≡ ends (Traced trace) w
Follows kind j f pass (ends OutOfMemory w) c = c ≡ ends OutOfMemory w
Follows kind j f pass (meets_wild w) c = c ≡ meets_wild w

over-follows : (kind : MachineKind) (j : ℕ) (f : FlagsOf) (pass : Bool) (end : End) (w : RunWorld) → end ≢ Spent → Follows kind j f pass (ends end w) (ends end w)
over-follows kind j f pass Spent w h = absurd (h refl)
over-follows kind j f pass (Halted status) w h = refl
over-follows kind j f pass (Stopped pc reason) w h = refl
over-follows kind j f pass (Broke why at trace) w h = refl
over-follows kind j f pass (Traced trace) w h = refl
over-follows kind j f pass OutOfMemory w h = refl

first-step : (kind : MachineKind) (n : ℕ) (f : FlagsOf) (pass : Bool) (w : RunWorld) →
    goes kind (suc n) f pass w ≡ then_on (λ r v. next kind n f r v) (course (run_goes kind) (step_plan f pass) w)
unfolding run_plan
first-step kind n f pass w = course_bind (run_goes kind) (run_next (run_plan n f false)) (step_plan f pass) w

no-pass : (pass : Bool) → (pass && false) ≡ false
no-pass true = refl
no-pass false = refl

still-pass : (pass : Bool) → pass ≡ (pass && true)
still-pass true = refl
still-pass false = refl

by-step : (kind : MachineKind) (i j : ℕ) (f : FlagsOf) (pass : Bool) (c : Course (Result (Unit {0}) End) RunWorld) → StepOver c →
    ((v : RunWorld) → Follows kind j f false (goes kind i f false v) (goes kind (i + j) f false v)) →
    Follows kind j f (pass && false) (then_on (λ r v. next kind i f r v) c) (then_on (λ r v. next kind (i + j) f r v) c)
unfolding course
by-step kind i j f pass (ends (Ok u) v) o more = subst (λ p. Follows kind j f p (goes kind i f false v) (goes kind (i + j) f false v)) (sym (no-pass pass)) (more v)
by-step kind i j f pass (ends (Err end) v) o more = over-follows kind j f (pass && false) end v o
by-step kind i j f pass (meets_wild v) o more = refl

none-made : (kind : MachineKind) (j : ℕ) (f : FlagsOf) (pass : Bool) (w : RunWorld) → Follows kind j f (pass && true) (goes kind 0 f pass w) (goes kind (0 + j) f pass w)
unfolding run_plan course
none-made kind j f pass w =
    let all : 0 + j ≡ j = omega arith in
    ap (λ n. course (run_goes kind) (run_plan n f pass) w) all ∙ ap (λ p. course (run_goes kind) (run_plan j f p) w) (still-pass pass)

not-first : (i : ℕ) → (suc i == 0) ≡ false
not-first i = grind (arith, nat_tests)

follows : (kind : MachineKind) (i j : ℕ) (f : FlagsOf) (pass : Bool) (w : RunWorld) → Follows kind j f (pass && (i == 0)) (goes kind i f pass w) (goes kind (i + j) f pass w)
follows kind zero j f pass w = none-made kind j f pass w
follows kind (suc i) j f pass w =
    let sum : suc (i + j) ≡ suc i + j = omega arith in
    subst (λ p. Follows kind j f (pass && p) (goes kind (suc i) f pass w) (goes kind (suc i + j) f pass w)) (sym (not-first i))
    (subst (λ n. Follows kind j f (pass && false) (goes kind (suc i) f pass w) (goes kind n f pass w)) sum
    (subst (λ c. Follows kind j f (pass && false) c (goes kind (suc (i + j)) f pass w)) (sym (first-step kind i f pass w))
    (subst (λ c. Follows kind j f (pass && false) (then_on (λ r v. next kind i f r v) (course (run_goes kind) (step_plan f pass) w)) c) (sym (first-step kind (i + j) f pass w))
    (by-step kind i j f pass (course (run_goes kind) (step_plan f pass) w) (over-step kind f pass w) (λ v. follows kind i j f false v)))))

-- ---- told of runs

abbrev end_in : Course End RunWorld → End
end_in (ends end w) = end
end_in (meets_wild w) = OutOfMemory

spent-by : (kind : MachineKind) (j : ℕ) (f : FlagsOf) (pass : Bool) (c d : Course End RunWorld) (t : State) (k : HostModel) → Follows kind j f pass c d → c ≡ ends Spent (t, k) →
    d ≡ goes kind j f pass (t, k)
spent-by kind j f pass (ends Spent w) d t k h e =
    let is : w ≡ (t, k) = cc in
    h ∙ ap (goes kind j f pass) is
spent-by kind j f pass (ends (Halted status) w) d t k h e = let wrong : Halted status ≡ Spent = ap end_in e in absurd (cc)
spent-by kind j f pass (ends (Stopped pc reason) w) d t k h e = let wrong : Stopped pc reason ≡ Spent = ap end_in e in absurd (cc)
spent-by kind j f pass (ends (Broke why at trace) w) d t k h e = let wrong : Broke why at trace ≡ Spent = ap end_in e in absurd (cc)
spent-by kind j f pass (ends (Traced trace) w) d t k h e = let wrong : Traced trace ≡ Spent = ap end_in e in absurd (cc)
spent-by kind j f pass (ends OutOfMemory w) d t k h e = let wrong : OutOfMemory ≡ Spent = ap end_in e in absurd (cc)
spent-by kind j f pass (meets_wild w) d t k h e = absurd (cc)

over-by : (kind : MachineKind) (j : ℕ) (f : FlagsOf) (pass : Bool) (c d : Course End RunWorld) (x : Ended) → Follows kind j f pass c d → x.end ≢ Spent → c ≡ run_ended x → d ≡ run_ended x
over-by kind j f pass (ends Spent w) d x h ne e = absurd (ne (sym (ap end_in e)))
over-by kind j f pass (ends (Halted status) w) d x h ne e = h ∙ e
over-by kind j f pass (ends (Stopped pc reason) w) d x h ne e = h ∙ e
over-by kind j f pass (ends (Broke why at trace) w) d x h ne e = h ∙ e
over-by kind j f pass (ends (Traced trace) w) d x h ne e = h ∙ e
over-by kind j f pass (ends OutOfMemory w) d x h ne e = h ∙ e
over-by kind j f pass (meets_wild w) d x h ne e = absurd (cc)

wild-by : (kind : MachineKind) (j : ℕ) (f : FlagsOf) (pass : Bool) (c d : Course End RunWorld) (v : RunWorld) → Follows kind j f pass c d → c ≡ meets_wild v → d ≡ meets_wild v
wild-by kind j f pass (ends end w) d v h e = absurd (cc)
wild-by kind j f pass (meets_wild w) d v h e = h ∙ e

pub spent-follows : (kind : MachineKind) (i j : ℕ) (f : FlagsOf) (pass : Bool) (s t : State) (m k : HostModel) → run_by kind i f pass s m ≡ ends Spent (t, k) →
    run_by kind (i + j) f pass s m ≡ run_by kind j f (pass && (i == 0)) t k
unfolding run_by
spent-follows kind i j f pass s t m k e = spent-by kind j f (pass && (i == 0)) (goes kind i f pass (s, m)) (goes kind (i + j) f pass (s, m)) t k (follows kind i j f pass (s, m)) e

pub over-stays : (kind : MachineKind) (i j : ℕ) (f : FlagsOf) (pass : Bool) (s : State) (m : HostModel) (x : Ended) → x.end ≢ Spent → run_by kind i f pass s m ≡ run_ended x →
    run_by kind (i + j) f pass s m ≡ run_ended x
unfolding run_by
over-stays kind i j f pass s m x ne e = over-by kind j f (pass && (i == 0)) (goes kind i f pass (s, m)) (goes kind (i + j) f pass (s, m)) x (follows kind i j f pass (s, m)) ne e

pub wild-stays : (kind : MachineKind) (i j : ℕ) (f : FlagsOf) (pass : Bool) (s : State) (m : HostModel) (w : RunWorld) → run_by kind i f pass s m ≡ meets_wild w → run_by kind (i + j) f pass s m ≡ meets_wild w
unfolding run_by
wild-stays kind i j f pass s m w e = wild-by kind j f (pass && (i == 0)) (goes kind i f pass (s, m)) (goes kind (i + j) f pass (s, m)) w (follows kind i j f pass (s, m)) e

pub ruleset following = (spent-follows, over-stays, wild-stays)

-- ---- of the machine over a window

abbrev end_of_run : Course End RunWorld → Ended
end_of_run (ends end w) = ended end w.0 w.1
end_of_run (meets_wild w) = ended OutOfMemory w.0 w.1

ended-both : (x y : Ended) → run_ended x ≡ run_ended y → x ≡ y
ended-both x y e = ap end_of_run e

pub run-spent : (i j : ℕ) (f : FlagsOf) (s t : State) (m k : HostModel) → run i f false s m ≡ ended Spent t k → run (i + j) f false s m ≡ run j f false t k
run-spent i j f s t m k e =
    ended-both (run (i + j) f false s m) (run j f false t k)
    (sym (window-ends (i + j) f false s m) ∙ spent-follows window_machine i j f false s t m k (window-ends i f false s m ∙ ap run_ended e) ∙ window-ends j f false t k)

pub run-over : (i j : ℕ) (f : FlagsOf) (pass : Bool) (s : State) (m : HostModel) → (run i f pass s m).end ≢ Spent → run (i + j) f pass s m ≡ run i f pass s m
run-over i j f pass s m ne =
    ended-both (run (i + j) f pass s m) (run i f pass s m)
    (sym (window-ends (i + j) f pass s m) ∙ over-stays window_machine i j f pass s m (run i f pass s m) ne (window-ends i f pass s m))
