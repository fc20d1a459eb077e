-- One step, by what its instruction comes to.
use Rattle.std.proofs.Common.{◌≡◌, ◌≢◌, ◌<◌, ◌≤◌, ℕ, ◌^◌, ◌||◌, Bool, true, false, Option, None, Some, Ok, Err, refl, sym, subst, ap, ◌∙◌, arith}
use Rattle.std.proofs.lemmas.Bool.Decides.{nat_tests}
use Rattle.mx_core.specs.Way.Calls.{Left, left, with_touch_where}
use Rattle.mx_core.specs.Deeds.{deed_for, deed_at, Deed, deed_of, outcome, state_done, unless_refused}
use Rattle.mx_code.specs.Instructions.{operation_in}
use Rattle.mx_code.specs.declared.instruction.Instruction.{Instruction}
use Rattle.mx_word.specs.Segments.{is_in_stack_segment}
use Rattle.mx_core.specs.State.{State, is_negative}
use Rattle.mx_core.specs.Step.{went, stopped, calls, fetched, after, trace_of, completed, carried_out, made, call_of, step}
use Rattle.mx_core.specs.Way.Stepping.{sight_of, Foretells, write_told}
use Rattle.mx_core.specs.declared.sight.Sight.{Sight}
use Rattle.mx_code.specs.declared.trace.Touch.{Touch}
use Rattle.mx_code.specs.declared.trace.Trace.{Trace}
use Rattle.mx_code.specs.declared.operation.Operation.{Operation}
use Rattle.mx_code.specs.declared.operation.Operation.TheVariants as op
use Rattle.mx_code.specs.declared.reason.Reason.{Reason}
use Rattle.mx_code.specs.declared.reason.Reason.TheVariants.{Negative}
use Rattle.mx_code.specs.declared.stop.Stop.TheVariants.{Stopped}

pub other_deed : (o : Operation) (s : State) (i : Instruction) → o ≢ op.Resume → deed_for o s i ≡ deed_of o s i
other_deed op.Resume s i n = absurd (n refl)
other_deed o s i n = refl

made-is : (o : Operation) (s : State) → o ≢ op.Trap → made s o ≡ carried_out s (deed_for o s (fetched s))
made-is op.Trap s n = absurd (n refl)
made-is o s n = refl

step-is : (s : State) → s.pc < 2 ^ 63 → operation_in (fetched s) ≢ op.Trap → step s ≡ carried_out s (deed_at s (fetched s))
unfolding step
step-is s l n =
    let positive : is_negative s.pc ≡ false = grind (arith, nat_tests) in
    rw positive (made-is (operation_in (fetched s)) s n)

pub step_negative : (s : State) → 2 ^ 63 ≤ s.pc → step s ≡ stopped Negative
unfolding step
step_negative s l =
    let negative : is_negative s.pc ≡ true = grind (arith, nat_tests) in
    rw negative refl

pub step_traps : (s : State) → s.pc < 2 ^ 63 → operation_in (fetched s) ≡ op.Trap → step s ≡ calls (call_of s)
unfolding step
step_traps s l e =
    let positive : is_negative s.pc ≡ false = grind (arith, nat_tests) in
    rw (positive, e) refl

or-of-three : (a b c : Bool) → ((a || b) || c) ≡ (a || b || c)
or-of-three true b c = refl
or-of-three false b c = refl

-- a deed that is done, and one that is refused
done-ok : (s t : State) (refused : Option Reason) (done : State) → (Ok tt, t) ≡ left s (unless_refused refused done) → (refused ≡ None) × (t ≡ done)
done-ok s t None done e = (refl, ap (λ (p : Left). p.1) e)
done-ok s t (Some reason) done e = let f = ap (λ (p : Left). p.0) e in absurd (cc)

-- where it leads
pub done-pc : (s t : State) → (Ok tt, t) ≡ left s (outcome s (deed_at s (fetched s))) → t.pc ≡ (after s (deed_at s (fetched s))).pc
done-pc s t e = let ok = done-ok s t (deed_at s (fetched s)).refused (state_done s (deed_at s (fetched s))) e in ap (λ (u : State). u.pc) ok.1

done-err : (s t : State) (refused : Option Reason) (done : State) (reason : Reason) → (Err (Stopped reason), t) ≡ left s (unless_refused refused done) → (refused ≡ Some reason) × (t ≡ s)
done-err s t None done reason e = let f = ap (λ (p : Left). p.0) e in absurd (cc)
done-err s t (Some other) done reason e = let f = ap (λ (p : Left). p.0) e in (cc, ap (λ (p : Left). p.1) e)

-- the state after a step, where the fetch may have been in Stack_Segment
seen-after : (s : State) (d : Deed) → with_touch_where (state_done s d) (is_in_stack_segment s.pc) ≡ after s d
seen-after s d = ap (λ b. record (state_done s d) { touched = b }) (or-of-three s.touched d.is_wild (is_in_stack_segment s.pc))

pub step_went : (s t : State) → s.pc < 2 ^ 63 → operation_in (fetched s) ≢ op.Trap → (Ok tt, t) ≡ left s (outcome s (deed_at s (fetched s))) →
    step s ≡ went (with_touch_where t (is_in_stack_segment s.pc)) (trace_of s (deed_at s (fetched s)))
step_went s t l n e =
    let d = deed_at s (fetched s) in
    let ok = done-ok s t d.refused (state_done s d) e in
    step-is s l n ∙ ap (completed s d) ok.0
    ∙ ap (λ (u : State). went u (trace_of s d)) (sym (ap (λ (u : State). with_touch_where u (is_in_stack_segment s.pc)) ok.1 ∙ seen-after s d))

pub step_stopped : (s t : State) (reason : Reason) → s.pc < 2 ^ 63 → operation_in (fetched s) ≢ op.Trap → (Err (Stopped reason), t) ≡ left s (outcome s (deed_at s (fetched s))) →
    (step s ≡ stopped reason) × (t ≡ s)
step_stopped s t reason l n e =
    let d = deed_at s (fetched s) in
    let err = done-err s t d.refused (state_done s d) reason e in
    (step-is s l n ∙ ap (completed s d) err.0, err.1)

-- a step that is made
pub went_as : (s t u : State) (i : Instruction) (looks : Bool) → i ≡ fetched s → s.pc < 2 ^ 63 → operation_in i ≢ op.Trap → (Ok tt, t) ≡ left s (outcome s (deed_at s i)) → looks ≡ is_in_stack_segment i.at → u ≡ with_touch_where t looks →
    step s ≡ went u (trace_of s (deed_at s (fetched s)))
went_as s t u i looks f l n e h k =
    let other : operation_in (fetched s) ≢ op.Trap = λ x. n (ap operation_in f ∙ x) in
    let told = e ∙ ap (λ (j : Instruction). left s (outcome s (deed_at s j))) f in
    let there : u ≡ with_touch_where t (is_in_stack_segment s.pc) = k ∙ ap (with_touch_where t) (h ∙ ap (λ (j : Instruction). is_in_stack_segment j.at) f) in
    step_went s t l other told ∙ ap (λ (x : State). went x (trace_of s (deed_at s (fetched s)))) (sym there)

-- one that is stopped
pub stopped_as : (s t : State) (i : Instruction) (reason : Reason) → i ≡ fetched s → s.pc < 2 ^ 63 → operation_in i ≢ op.Trap → (Err (Stopped reason), t) ≡ left s (outcome s (deed_at s i)) → (step s ≡ stopped reason) × (t ≡ s)
stopped_as s t i reason f l n e =
    let other : operation_in (fetched s) ≢ op.Trap = λ x. n (ap operation_in f ∙ x) in
    step_stopped s t reason l other (e ∙ ap (λ (j : Instruction). left s (outcome s (deed_at s j))) f)

-- the state after it
after-is : (s t u : State) (i : Instruction) (looks : Bool) → i ≡ fetched s → (Ok tt, t) ≡ left s (outcome s (deed_at s i)) → looks ≡ is_in_stack_segment i.at → u ≡ with_touch_where t looks →
    ((deed_at s (fetched s)).refused ≡ None) × (u ≡ after s (deed_at s (fetched s)))
after-is s t u i looks f e h k =
    let d = deed_at s (fetched s) in
    let ok = done-ok s t d.refused (state_done s d) (e ∙ ap (λ (j : Instruction). left s (outcome s (deed_at s j))) f) in (
      ok.0,
      k ∙ ap (with_touch_where t) (h ∙ ap (λ (j : Instruction). is_in_stack_segment j.at) f)
          ∙ ap (λ (x : State). with_touch_where x (is_in_stack_segment s.pc)) ok.1 ∙ seen-after s d,
    )

abbrev trace_by : Instruction → Sight → ℕ → Trace
trace_by i g n = record { pc = i.at; word = i.word; dest = g.dest; reads = g.reads; writes = g.writes; next = n }

-- the trace that is told: a sight from before, and what was written from after
pub trace_told : (s t u : State) (i : Instruction) (g : Sight) (looks : Bool) (w : Option Touch) (n : ℕ) → i ≡ fetched s → (Ok tt, t) ≡ left s (outcome s (deed_at s i)) → looks ≡ is_in_stack_segment i.at → u ≡ with_touch_where t looks →
    Foretells s (deed_at s i) g → w ≡ write_told u g → n ≡ u.pc →
    record { pc = i.at; word = i.word; dest = g.dest; reads = g.reads; writes = w; next = n } ≡ trace_of s (deed_at s (fetched s))
trace_told s t u i g looks w n f e h k told written next =
    let d = deed_at s (fetched s) in
    let later = after-is s t u i looks f e h k in
    let same : record g { writes = write_told (state_done s d) g } ≡ sight_of d = subst (λ (j : Instruction). Foretells s (deed_at s j) g) f told later.0 in
    let seen : w ≡ write_told (state_done s d) g = written ∙ ap (λ (x : State). write_told x g) later.1 in
    ap (λ (w : Option Touch). trace_by i (record g { writes = w }) n) seen
    ∙ ap (λ (g : Sight). trace_by i g n) same
    ∙ ap (λ (j : Instruction). trace_by j (sight_of d) n) f
    ∙ ap (λ m. trace_by (fetched s) (sight_of d) m) (next ∙ ap (λ (x : State). x.pc) later.1)

-- OUT OF MEMORY
