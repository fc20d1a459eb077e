-- A usual step with its trace.
use Rattle.std.proofs.Common.{◌≡◌, ◌≢◌, ℕ, ◌<◌, ◌^◌, false, Ok, refl, sym, subst, ap, ◌∙◌, arith}
use Rattle.std.proofs.lemmas.Bool.Decides.{nat_tests}
use Rattle.mx_word.specs.Segments.{is_in_stack_segment}
use Rattle.mx_code.specs.Instructions.{instruction, operation_in}
use Rattle.mx_code.specs.declared.instruction.Instruction.{Instruction}
use Rattle.mx_code.specs.declared.operation.Operation.{Operation}
use Rattle.mx_code.specs.declared.operation.Operation.TheVariants as op
use Rattle.mx_code.specs.declared.trace.Trace.{Trace}
use Rattle.mx_core.specs.Deeds.{Deed, deed_at, deed_of, outcome}
use Rattle.mx_core.specs.State.{State}
use Rattle.mx_core.specs.Step.{fetched, step, trace_of, went, after}
use Rattle.mx_core.specs.Way.Calls.{left, with_touch_where}
use Rattle.mx_core.specs.Way.Stepping.{ShowsSight, is_swap, sight_of, step_answer}
use Rattle.mx_core.specs.declared.sight.Sight.{Sight}
use Rattle.mx_core.specs.declared.step.Step.TheVariants as answer
use Rattle.mx_core.proofs.Results.Outcomes.{or-false}
use Rattle.mx_core.proofs.Steps.{done-pc, other_deed, step_went}
use Rattle.mx_core.proofs.UsualSteps.{no-trap}

no-swap : (o : Operation) → o ≢ op.CompareAndSwap → is_swap o ≡ false
no-swap op.CompareAndSwap n = absurd (n refl)
no-swap o n = refl

-- a sight by the operation
pub sight-told : (s : State) (g : Sight) (i j : Instruction) (o : Operation) → i ≡ j → o ≡ operation_in i → o ≢ op.Resume → o ≢ op.CompareAndSwap → (is_swap (operation_in i) ≡ false → g ≡ sight_of (deed_of (operation_in i) s i)) → g ≡ sight_of (deed_at s j)
sight-told s g i j o same e n m h =
    let resumes : operation_in i ≢ op.Resume = λ x. n (e ∙ x) in
    let swaps : operation_in i ≢ op.CompareAndSwap = λ x. m (e ∙ x) in
    h (no-swap (operation_in i) swaps) ∙ ap sight_of (sym (other_deed (operation_in i) s i resumes)) ∙ ap (λ (k : Instruction). sight_of (deed_at s k)) same

-- the trace of a step that was made below Stack_Segment
pub went-traced : (s t : State) (at word : ℕ) (g : Trace) (n : ℕ) → instruction at word ≡ fetched s → at < 0x6000_0000_0000_0000 → ShowsSight g (sight_of (deed_at s (instruction at word))) → (Ok tt, t) ≡ left s (outcome s (deed_at s (instruction at word))) → n ≡ t.pc →
    (answer.Went (record { pc = at; word = word; dest = g.dest; reads = g.reads; writes = g.writes; next = n }), t) ≡ step_answer s (step s)
went-traced s t at word g n f l sees e next =
    let d : Deed = deed_at s (fetched s) in
    let here : at ≡ s.pc = ap (λ (i : Instruction). i.at) f in
    let told = e ∙ ap (λ (j : Instruction). left s (outcome s (deed_at s j))) f in
    let low : s.pc < 0x6000_0000_0000_0000 = subst (λ p. p < 0x6000_0000_0000_0000) here l in
    let below : s.pc < 2 ^ 63 = omega (arith, low) in
    let apart : is_in_stack_segment s.pc ≡ false = grind (arith, nat_tests) in
    let same : with_touch_where t (is_in_stack_segment s.pc) ≡ t = ap (with_touch_where t) apart ∙ ap (λ b. record t { touched = b }) (or-false t.touched) in
    let made : step s ≡ went t (trace_of s d) = step_went s t below (no-trap (operation_in (fetched s)) s t (fetched s) told) told ∙ ap (λ (u : State). went u (trace_of s d)) same in
    let seen : ShowsSight g (sight_of d) = subst (λ (i : Instruction). ShowsSight g (sight_of (deed_at s i))) f sees in
    let later : t.pc ≡ (after s d).pc = done-pc s t told in
    let trace : record { pc = at; word = word; dest = g.dest; reads = g.reads; writes = g.writes; next = n } ≡ trace_of s d =
    (λ q. record { pc = (f q).at; word = (f q).word; dest = seen.0 q; reads = seen.1 q; writes = seen.2 q; next = (next ∙ later) q }) in
    ap (λ (x : Trace). (answer.Went x, t)) trace ∙ ap (step_answer s) (sym made)
