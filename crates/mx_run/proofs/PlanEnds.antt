-- What the plan of a run comes to, and what is left of it after some steps.
use Rattle.std.proofs.Common.{◌≡◌, ℕ, zero, suc, ◌+◌, ◌-◌, ◌/◌, ◌<◌, Bool, true, false, cond, List, [], None, Err, arith, refl, sym, subst, ◌∙◌, ap}
use Rattle.std.specs.Prelude.{Result, ◌&&◌, not}
use Rattle.mx_host.specs.HostModel.{HostModel}
use Rattle.mx_plan.specs.Plan.{returns, bind, Comes, IsRest, end_of}
use Rattle.mx_plan.proofs.Plans.{rest_done}
use Rattle.mx_core.specs.State.{State}
use Rattle.mx_run.specs.FlagMaps.{flags_at}
use Rattle.mx_run.specs.RunPlans.{RunPlan, RunWorld, running, beside_world, ended_world, turn_plan, look, ended_turn, step_plan, run_next, run_plan, end_of_turn}
use Rattle.mx_run.specs.Runs.{FlagsOf, run}
use Rattle.mx_run.specs.Turns.{Answered, turn_answer, turn}
use Rattle.mx_run.specs.declared.end.BreakKind.TheVariants.{Execute}
use Rattle.mx_run.specs.declared.end.End.{End}
use Rattle.mx_run.specs.declared.end.End.TheVariants.{Broke, OutOfMemory}
use Rattle.mx_run.specs.declared.flags.Flags.{Flags}
use Rattle.mx_run.specs.declared.turn_answer.TurnAnswer.{TurnAnswer}

-- ---- a step

pub turn-end : (s : State) (m : HostModel) → end_of running turn_plan (s, m) ≡ beside_world (turn_answer (turn s m))
unfolding turn_plan end_of running
turn-end s m = refl

pub look-end : (w : RunWorld) → end_of running look w ≡ (w.0.pc, w)
unfolding look end_of running
look-end w = refl

pub ruleset looks = (look-end)

abbrev pub turn_ended : FlagsOf → ℕ → Answered TurnAnswer → Answered (Result (Unit {0}) End)
turn_ended f pc a = (end_of_turn f pc a.0, a.1, a.2)

-- what a step of a run answers and leaves, by whether the run breaks before it
abbrev pub step_by_break : Bool → FlagsOf → State → HostModel → Answered (Result (Unit {0}) End)
step_by_break b f s m = cond b (Err (Broke Execute s.pc None), s, m) (turn_ended f s.pc (turn_answer (turn s m)))

unfoldable pub run_step : FlagsOf → Bool → State → HostModel → Answered (Result (Unit {0}) End)
run_step f pass s m = step_by_break ((f (s.pc / 4)).x && not pass) f s m

step-by : (f : FlagsOf) (b : Bool) (s : State) (m : HostModel) → end_of running (cond b (returns (Err (Broke Execute s.pc None))) (ended_turn f s.pc)) (s, m) ≡ beside_world (step_by_break b f s m)
unfolding ended_turn turn_plan bind end_of running
step-by f true s m = refl
step-by f false s m = refl

pub step-end : (f : FlagsOf) (pass : Bool) (s : State) (m : HostModel) → end_of running (step_plan f pass) (s, m) ≡ beside_world (run_step f pass s m)
unfolding step_plan look bind end_of running run_step
step-end f pass s m = step-by f ((f (s.pc / 4)).x && not pass) s m

-- the same, told of an answer
pub step-answer : (f : FlagsOf) (pass : Bool) (s t : State) (m n : HostModel) (r : Result (Unit {0}) End) → (r, (t, n)) ≡ end_of running (step_plan f pass) (s, m) → (r, t, n) ≡ run_step f pass s m
step-answer f pass s t m n r e = ap (λ (p : Result (Unit {0}) End × RunWorld). (p.0, p.1.0, p.1.1)) (e ∙ step-end f pass s m)

-- ---- a run

pub run-end : (n : ℕ) (f : FlagsOf) (pass : Bool) (s : State) (m : HostModel) → end_of running (run_plan n f pass) (s, m) ≡ ended_world (run n f pass s m)
unfolding run
run-end n f pass s m = refl

pub ruleset ends = (run-end)

-- ---- what is left of a run

pub left-after : (k i : ℕ) → i < k → k - i ≡ suc (k - (i + 1))
left-after k i l = omega arith

pub rest-ended : (n i : ℕ) (f : FlagsOf) (pass : Bool) (end : End) (v w start : RunWorld) (whole : RunPlan End) → i < n → IsRest running (run_plan (n - i) f pass) v whole start →
    Comes running v w (Err OutOfMemory) (Err end) (step_plan f pass) → Comes running start w OutOfMemory end whole
unfolding run_plan
rest-ended n i f pass end v w start whole l r c =
    rest_done running (run_next (run_plan (n - (i + 1)) f false)) (step_plan f pass) (Err end) (Err OutOfMemory) OutOfMemory end v w start whole refl (λ ne e. ne (cc)) (ap Err) c
    (subst (λ j. IsRest running (run_plan j f pass) v whole start) (left-after n i l) r)

-- ---- without flags the first step goes as the others

passed : (n : ℕ) (pass : Bool) → run_plan n (flags_at []) pass ≡ run_plan n (flags_at []) true
unfolding run_plan step_plan
passed zero pass = refl
passed (suc n) pass = refl

pub free-plan : (n : ℕ) (entries : List (ℕ × Flags)) (pass : Bool) → entries ≡ [] → run_plan n (flags_at entries) pass ≡ run_plan n (flags_at entries) true
free-plan n entries pass h = ap (λ es. run_plan n (flags_at es) pass) h ∙ passed n pass ∙ ap (λ es. run_plan n (flags_at es) true) (sym h)
