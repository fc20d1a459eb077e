-- Steps that are made at an address below Stack_Segment.
use Rattle.std.proofs.Common.{◌≡◌, ◌≢◌, ◌<◌, ◌^◌, false, Ok, sym, ap, ◌∙◌, arith}
use Rattle.std.proofs.lemmas.Bool.Decides.{nat_tests}
use Rattle.mx_core.specs.Way.Calls.{Left, left, with_touch_where}
use Rattle.mx_core.specs.Deeds.{deed_at, deed_for, deed_of, outcome}
use Rattle.mx_code.specs.Instructions.{operation_in}
use Rattle.mx_code.specs.declared.instruction.Instruction.{Instruction}
use Rattle.mx_word.specs.Segments.{is_in_stack_segment}
use Rattle.mx_core.specs.State.{State}
use Rattle.mx_core.specs.Step.{fetched, step}
use Rattle.mx_core.specs.Way.Stepping.{advanced}
use Rattle.mx_core.specs.Stops.{form_fault}
use Rattle.mx_code.specs.declared.operation.Operation.{Operation}
use Rattle.mx_code.specs.declared.operation.Operation.TheVariants as op
use Rattle.mx_core.specs.declared.step.Advance.TheVariants as advance
use Rattle.mx_core.proofs.Results.Outcomes.{or-false}
use Rattle.mx_core.proofs.Steps.{step_went}

-- a trap is not carried out
trap-refused : (s t : State) (i : Instruction) → (Ok tt, t) ≡ left s (outcome s (deed_of op.Trap s i)) → op.Trap ≢ op.Trap
unfolding form_fault
trap-refused s t i e = let f = ap (λ (p : Left). p.0) e in absurd (cc)

pub no-trap : (o : Operation) (s t : State) (i : Instruction) → (Ok tt, t) ≡ left s (outcome s (deed_for o s i)) → o ≢ op.Trap
no-trap op.Trap s t i e = trap-refused s t i e
no-trap o s t i e = λ x. absurd (cc)

pub went_usual : (s t : State) (i : Instruction) → i ≡ fetched s → s.pc < 0x6000_0000_0000_0000 → (Ok tt, t) ≡ left s (outcome s (deed_at s i)) → (advance.Went, t) ≡ advanced s (step s)
went_usual s t i f l e =
    let told = e ∙ ap (λ (j : Instruction). left s (outcome s (deed_at s j))) f in
    let below : s.pc < 2 ^ 63 = omega arith in
    let apart : is_in_stack_segment s.pc ≡ false = grind (arith, nat_tests) in
    let same : with_touch_where t (is_in_stack_segment s.pc) ≡ t = ap (with_touch_where t) apart ∙ ap (λ b. record t { touched = b }) (or-false t.touched) in
    ap (λ (u : State). (advance.Went, u)) (sym same) ∙ ap (advanced s) (sym (step_went s t below (no-trap (operation_in (fetched s)) s t (fetched s) told) told))
