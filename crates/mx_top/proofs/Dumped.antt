-- What follows a run: lines after an outcome, and the dump.
use Rattle.std.proofs.Common.{◌≡◌, ◌≢◌, ℕ, List, Bool, true, false, cond, Ok, Err, refl, sym, ◌∙◌, ap, subst, ◌&&◌}
use Rattle.std.specs.Prelude.{Option, Result}
use Rattle.mx_host.specs.HostModel.{HostModel, contents}
use Rattle.mx_plan.specs.Calls.{host, HostPlan}
use Rattle.mx_plan.specs.Clauses.{CarriesOutOnHost}
use Rattle.mx_plan.specs.Plan.{returns, end_after}
use Rattle.mx_plan.proofs.Plans.{end_bind, end_returns, stops_first}
use Rattle.mx_core.specs.Bounds.{as_list_state}
use Rattle.mx_core.specs.State.{State}
use Rattle.mx_outcome.specs.Kinds.{leaves_machine}
use Rattle.mx_files.specs.Clauses.{DoesPartBetween}
use Rattle.mx_files.specs.FilePlans.{lines_plan}
use Rattle.mx_outcome.specs.declared.outcome.Outcome.{Outcome}
use Rattle.mx_outcome.specs.declared.outcome.Outcome.TheVariants.{HostFault, OutOfMemory}
use Rattle.mx_dump.specs.Dump.{dump_lines}
use Rattle.mx_top.specs.Telling.{written_with, telling}
use Rattle.mx_top.specs.Endings.{dumped_plan}
use Rattle.mx_top.proofs.SameDumps.{same-dump}

-- ---- lines after an outcome

lacked : (outcome : Outcome) (r : Result (Unit {0}) Outcome) → outcome ≢ OutOfMemory → written_with outcome r ≡ OutOfMemory → r ≡ Err OutOfMemory
lacked outcome (Ok u) ne e = absurd (ne e)
lacked outcome (Err other) ne e = ap Err e

pub written-plan : (a b : Option HostModel) (k m : ℕ) (outcome other : Outcome) (lines : List (List ℕ)) (r : Result (Unit {0}) Outcome) → outcome ≢ OutOfMemory → other ≡ written_with outcome r →
    DoesPartBetween a b k m r (lines_plan lines) → CarriesOutOnHost a b OutOfMemory other (telling outcome lines)
unfolding telling
written-plan a b k m outcome other lines r well is w = λ t. record {
  ending = λ ne.
      let e = (w.told t).ending (λ o. ne (is ∙ ap (written_with outcome) o)) in
      sym (end_bind host (λ (x : Result (Unit {0}) Outcome). returns (written_with outcome x)) (lines_plan lines) (contents a)
      ∙ ap (end_after host (λ (x : Result (Unit {0}) Outcome). returns (written_with outcome x))) (sym e) ∙ end_returns host (written_with outcome r) (contents b) ∙ ap (λ (o : Outcome). (o, contents b)) (sym is));
  stopping = λ o. stops_first host (λ (x : Result (Unit {0}) Outcome). returns (written_with outcome x)) (lines_plan lines) (contents b) (contents a) ((w.told t).stopping (lacked outcome r well (sym is ∙ o)));
}

-- where none are told
pub unsaid-plan : (a : Option HostModel) (outcome : Outcome) (p : HostPlan Outcome) (b : Bool) → b ≡ false → outcome ≢ OutOfMemory → CarriesOutOnHost a a OutOfMemory outcome (cond b p (returns outcome))
unsaid-plan a outcome p true e ne = absurd (cc)
unsaid-plan a outcome p false e ne = λ t. record { ending = λ no. sym (end_returns host outcome (contents a)); stopping = λ o. absurd (ne o) }

-- ---- the dump

pub undumped-plan : (a : Option HostModel) (wanted : Bool) (outcome : Outcome) (s : State) → (wanted && leaves_machine outcome) ≡ false → outcome ≢ OutOfMemory → CarriesOutOnHost a a OutOfMemory outcome (dumped_plan wanted outcome s)
unfolding dumped_plan
undumped-plan a wanted outcome s e ne = unsaid-plan a outcome (telling outcome (dump_lines s)) (wanted && leaves_machine outcome) e ne

pub dumped-plan : (a b : Option HostModel) (k m : ℕ) (wanted : Bool) (outcome other : Outcome) (s : State) (r : Result (Unit {0}) Outcome) → (wanted && leaves_machine outcome) ≡ true → outcome ≢ OutOfMemory →
    other ≡ written_with outcome r → DoesPartBetween a b k m r (lines_plan (dump_lines s)) → CarriesOutOnHost a b OutOfMemory other (dumped_plan wanted outcome s)
unfolding dumped_plan
dumped-plan a b k m wanted outcome other s r e ne is w =
    subst (λ (x : Bool). CarriesOutOnHost a b OutOfMemory other (cond x (telling outcome (dump_lines s)) (returns outcome))) (sym e) (written-plan a b k m outcome other (dump_lines s) r ne is w)

-- that of the list is the same, where nothing was touched
pub same-dumped : (wanted : Bool) (outcome : Outcome) (s : State) → s.touched ≡ false → dumped_plan wanted outcome (as_list_state s) ≡ dumped_plan wanted outcome s
unfolding dumped_plan
same-dumped wanted outcome s e = ap (λ lines. cond (wanted && leaves_machine outcome) (telling outcome lines) (returns outcome)) (same-dump s e)

-- where the host failed no machine is told
no-dump : (b : Bool) → (b && false) ≡ false
no-dump true = refl
no-dump false = refl

pub undumped-fault : (wanted : Bool) (s : State) (a : Option HostModel) → CarriesOutOnHost a a OutOfMemory HostFault (dumped_plan wanted HostFault s)
undumped-fault wanted s a = undumped-plan a wanted HostFault s (no-dump wanted) (λ e. absurd (cc))

-- nor where there was no memory
pub undumped-lacking : (wanted : Bool) (outcome : Outcome) → outcome ≡ OutOfMemory → (wanted && leaves_machine outcome) ≡ true → ⊥
undumped-lacking wanted outcome e t = absurd (cc (sym (no-dump wanted), ap (λ o. wanted && leaves_machine o) e, t))
