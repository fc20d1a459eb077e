-- The summary of a generated program.
use Rattle.std.proofs.Common.{◌≡◌, ◌≢◌, ℕ, Bool, true, false, cond, [], ◌∷◌, sym, ap, subst}
use Rattle.std.specs.Prelude.{Option}
use Rattle.mx_host.specs.HostModel.{HostModel}
use Rattle.mx_plan.specs.Clauses.{CarriesOutOnHost}
use Rattle.mx_plan.specs.Plan.{returns}
use Rattle.mx_ring.specs.Stack.{register}
use Rattle.mx_core.specs.Bounds.{as_list_state}
use Rattle.mx_core.specs.State.{State}
use Rattle.mx_core.proofs.Same.Seen.{same-register}
use Rattle.mx_gen.specs.Generator.{summary}
use Rattle.mx_outcome.specs.declared.outcome.Outcome.{Outcome}
use Rattle.mx_outcome.specs.declared.outcome.Outcome.TheVariants.{Done, OutOfMemory}
use Rattle.mx_top.specs.Endings.{summed_plan}
use Rattle.mx_top.specs.Runs.{is_done}
use Rattle.mx_top.specs.Telling.{telling}
use Rattle.mx_top.proofs.Dumped.{unsaid-plan}

pub unsummed-plan : (a : Option HostModel) (blocks size : ℕ) (outcome : Outcome) (s : State) → is_done outcome ≡ false → outcome ≢ OutOfMemory → CarriesOutOnHost a a OutOfMemory outcome (summed_plan blocks size outcome s)
unsummed-plan a blocks size outcome s e ne = unsaid-plan a outcome (telling (Done 0) (summary blocks size s.steps (register s.stack 255) ∷ [])) (is_done outcome) e ne

pub done-plan : (a b : Option HostModel) (r : Outcome) (blocks size : ℕ) (outcome : Outcome) (s : State) → is_done outcome ≡ true → CarriesOutOnHost a b OutOfMemory r (summed_plan blocks size (Done 0) s) → CarriesOutOnHost a b OutOfMemory r (summed_plan blocks size outcome s)
done-plan a b r blocks size outcome s e h =
    subst (λ (x : Bool). CarriesOutOnHost a b OutOfMemory r (cond x (telling (Done 0) (summary blocks size s.steps (register s.stack 255) ∷ [])) (returns outcome))) (sym e) h

-- that of the list is the same
pub same-summed : (blocks size : ℕ) (outcome : Outcome) (s : State) → summed_plan blocks size outcome (as_list_state s) ≡ summed_plan blocks size outcome s
same-summed blocks size outcome s = ap (λ x. cond (is_done outcome) (telling (Done 0) (summary blocks size s.steps x ∷ [])) (returns outcome)) (same-register s.stack 255)

-- nothing was done where there was no memory
pub undone-lacking : (outcome : Outcome) → outcome ≡ OutOfMemory → is_done outcome ≡ true → ⊥
undone-lacking outcome e t = absurd (cc (ap is_done e, t))
