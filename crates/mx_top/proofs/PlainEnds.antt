-- A run without flags does not break, and traces nothing.
use Rattle.std.proofs.Common.{◌≡◌, ◌≢◌, ℕ, zero, suc, false, Ok, Err, refl, subst, sym}
use Rattle.std.specs.Prelude.{Result}
use Rattle.mx_plan.specs.Plan.{bind, end_of}
use Rattle.mx_plan.proofs.Giving.{Gives, gives-bind, gives-end}
use Rattle.mx_run.specs.RunPlans.{RunCall, RunSays, RunWorld, running, look, turn_plan, ended_turn, end_of_turn, step_plan, run_next, run_plan}
use Rattle.mx_run.specs.Runs.{no_flags}
use Rattle.mx_run.specs.declared.end.End.{End}
use Rattle.mx_run.specs.declared.end.End.TheVariants as ending
use Rattle.mx_run.specs.declared.turn_answer.TurnAnswer.{TurnAnswer}
use Rattle.mx_run.specs.declared.turn_answer.TurnAnswer.TheVariants as answer
use Rattle.mx_run.proofs.FreeTurns.{trace-free}
use Rattle.mx_outcome.specs.declared.outcome.Outcome.TheVariants.{OutOfMemory}
use Rattle.mx_begin.specs.Ends.{outcome_of}

abbrev IsPlain : End → Type 0
IsPlain (ending.Broke kind at traced) = ⊥
IsPlain (ending.Traced trace) = ⊥
IsPlain end = Unit {0}

abbrev Any : (o : RunCall) → RunSays o → Type 0
Any o r = Unit {0}

abbrev GoesPlainly : Result (Unit {0}) End → Type 0
GoesPlainly (Ok u) = Unit {0}
GoesPlainly (Err end) = IsPlain end

turned : (pc : ℕ) (a : TurnAnswer) → GoesPlainly (end_of_turn no_flags pc a)
turned pc (answer.Went trace) = subst GoesPlainly (sym (trace-free trace)) tt
turned pc (answer.Halted status) = tt
turned pc (answer.Stopped reason) = tt
turned pc answer.OutOfMemory = tt

stepped : Gives Any GoesPlainly (step_plan no_flags false)
unfolding Gives step_plan bind look ended_turn turn_plan
stepped = λ pc u. λ a v. turned pc a

next : (n : ℕ) → Gives Any IsPlain (run_plan n no_flags false) → (r : Result (Unit {0}) End) → GoesPlainly r → Gives Any IsPlain (run_next (run_plan n no_flags false) r)
unfolding Gives
next n h (Ok u) p = h
next n h (Err end) p = p

all : (n : ℕ) → Gives Any IsPlain (run_plan n no_flags false)
unfolding Gives run_plan
all zero = tt
all (suc n) = gives-bind Any GoesPlainly IsPlain (run_next (run_plan n no_flags false)) (step_plan no_flags false) stepped (next n (all n))

plain-end : (n : ℕ) (w : RunWorld) → IsPlain (end_of running (run_plan n no_flags false) w).0
plain-end n w = gives-end running Any IsPlain (λ o v. tt) (run_plan n no_flags false) w (all n)

has-outcome : (steps : ℕ) (end : End) → IsPlain end → end ≢ ending.OutOfMemory → outcome_of steps end ≢ OutOfMemory
has-outcome steps (ending.Halted status) p ne = λ e. absurd (cc)
has-outcome steps (ending.Stopped pc reason) p ne = λ e. absurd (cc)
has-outcome steps (ending.Broke kind at traced) p ne = absurd p
has-outcome steps (ending.Traced trace) p ne = absurd p
has-outcome steps ending.Spent p ne = λ e. absurd (cc)
has-outcome steps ending.OutOfMemory p ne = absurd (ne refl)

-- so that an end where there was memory has an outcome
pub ended-well : (n : ℕ) (w v : RunWorld) (end : End) → (end, v) ≡ end_of running (run_plan n no_flags false) w → end ≢ ending.OutOfMemory → outcome_of n end ≢ OutOfMemory
ended-well n w v end e ne = has-outcome n end (subst (λ (t : End × RunWorld). IsPlain t.0) (sym e) (plain-end n w)) ne
