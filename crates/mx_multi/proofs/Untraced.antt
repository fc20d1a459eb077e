-- A step without its trace is a turn of the machine.
use Rattle.std.proofs.Common.{◌≡◌, IsTrue, refl, sym, subst, ap, ◌∙◌}
use Rattle.std.specs.Prelude.{Option}
use Rattle.mx_host.specs.HostModel.{HostModel, contents}
use Rattle.mx_code.specs.Reasons.{number_of}
use Rattle.mx_core.specs.State.{State}
use Rattle.mx_core.specs.Step.{Stepped, went, calls, stopped, step}
use Rattle.mx_core.specs.Way.Stepping.{advanced, step_answer, step_needs_page}
use Rattle.mx_code.specs.declared.reason.Reason.{Reason}
use Rattle.mx_core.specs.declared.step.Advance.{Advance}
use Rattle.mx_core.specs.declared.step.Advance.TheVariants as advance
use Rattle.mx_core.specs.declared.step.Step.TheVariants as made
use Rattle.mx_run.specs.Clauses.{CarriesOutOnMachine}
use Rattle.mx_run.specs.RunPlans as run
use Rattle.mx_run.specs.Runs.{IsLater}
use Rattle.mx_run.specs.declared.turn_answer.TurnAnswer.{TurnAnswer}
use Rattle.mx_run.specs.declared.turn_answer.TurnAnswer.TheVariants as answer
use Rattle.mx_run.proofs.Later.{advanced-later, same-later, unmade-later}
use Rattle.mx_run.proofs.TurnAnswers.{went-comes, stopped-comes, lacking-comes}
use Rattle.mx_multi.specs.Clauses.{MakesTurn}
use Rattle.mx_multi.specs.JointTurns.{told_at}
use Rattle.mx_multi.specs.declared.turn.Turn.TheVariants as turned

-- ---- a step that goes on has a trace, and is the turn with it

went-by : (o : Option HostModel) (s t : State) (x : Stepped) → step s ≡ x → (advance.Went, t) ≡ advanced s x → MakesTurn o o s t turned.Went
went-by o s t (went u trace) h e =
    record {
      step = answer.Went trace;
      told = refl;
      carried = λ tells. went-comes s t (contents o) trace (ap (λ (p : Advance × State). (made.Went trace, p.1)) e ∙ ap (step_answer s) (sym h));
    }
went-by o s t (calls call) h e = let first : advance.Went ≡ advance.Trap = ap (λ p. p.0) e in absurd (cc)
went-by o s t (stopped reason) h e = let first : advance.Went ≡ advance.Stopped reason = ap (λ p. p.0) e in absurd (cc)

pub went-makes : (o : Option HostModel) (s t : State) → (advance.Went, t) ≡ advanced s (step s) → MakesTurn o o s t turned.Went
went-makes o s t e = went-by o s t (step s) refl e

-- ---- a stop

stopped-by : (s t : State) (reason : Reason) (x : Stepped) → (advance.Stopped reason, t) ≡ advanced s x → (made.Stopped reason, t) ≡ step_answer s x
stopped-by s t reason (went u trace) e = let first : advance.Stopped reason ≡ advance.Went = ap (λ p. p.0) e in absurd (cc)
stopped-by s t reason (calls call) e = let first : advance.Stopped reason ≡ advance.Trap = ap (λ p. p.0) e in absurd (cc)
stopped-by s t reason (stopped other) e =
    let first : advance.Stopped reason ≡ advance.Stopped other = ap (λ p. p.0) e in
    let same : reason ≡ other = cc in
    ap (λ (u : State). (made.Stopped reason, u)) (ap (λ p. p.1) e) ∙ ap (λ r. (made.Stopped r, s)) same

pub stopped-makes : (o : Option HostModel) (s t : State) (reason : Reason) → (advance.Stopped reason, t) ≡ advanced s (step s) → MakesTurn o o s t (turned.Stopped s.pc (number_of reason))
stopped-makes o s t reason e = record {
  step = answer.Stopped (number_of reason);
  told = refl;
  carried = λ tells. stopped-comes s t (contents o) reason (stopped-by s t reason (step s) e);
}

-- ---- where memory runs out

pub lacking-makes : (o : Option HostModel) (s t : State) → t ≡ s → IsTrue (step_needs_page s) → MakesTurn o o s t turned.OutOfMemory
lacking-makes o s t e h = record { step = answer.OutOfMemory; told = refl; carried = λ tells. lacking-comes s t (contents o) e h }

-- ---- a file trap, which was told with the machine as it was

called-by : (s t : State) (x : Stepped) → (advance.Trap, t) ≡ advanced s x → t ≡ s
called-by s t (went u trace) e = let first : advance.Trap ≡ advance.Went = ap (λ p. p.0) e in absurd (cc)
called-by s t (calls call) e = ap (λ p. p.1) e
called-by s t (stopped reason) e = let first : advance.Trap ≡ advance.Stopped reason = ap (λ p. p.0) e in absurd (cc)

pub called-makes : (o n : Option HostModel) (s t u : State) (r : TurnAnswer) → (advance.Trap, t) ≡ advanced s (step s) → CarriesOutOnMachine o n t u answer.OutOfMemory r run.turn_plan →
    MakesTurn o n s u (told_at s.pc r)
called-makes o n s t u r e c = record {
  step = r;
  told = refl;
  carried = subst (λ (v : State). CarriesOutOnMachine o n v u answer.OutOfMemory r run.turn_plan) (called-by s t (step s) e) c;
}

pub called-later : (s t u : State) → (advance.Trap, t) ≡ advanced s (step s) → IsLater 1 t u → IsLater 1 s u
called-later s t u e h = same-later 1 s t u (ap (λ (v : State). v.steps) (called-by s t (step s) e)) h

pub ruleset making = (went-makes, stopped-makes, lacking-makes, called-makes, called-later, advanced-later, unmade-later)
