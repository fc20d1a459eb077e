-- The small note of a call takes it back.
use Rattle.std.proofs.Common.{◌≡◌, ℕ, ◌+◌, ◌*◌, ◌%◌, ◌^◌, ◌≤◌, min, false, List, slice_index, slice_set, Ok, refl, sym, subst, ◌∙◌, ap}
use Rattle.std.proofs.lemmas.List.{set-set, set-get_or}
use Rattle.mx_ring.proofs.CallsBack.{push-called, pop-called}
use Rattle.mx_ring.specs.Notes.{RingWas, TakesBack as RingTakesBack, call_noted, ring_undone, spilled_by}
use Rattle.mx_ring.specs.Stack.{Stack, windowed, hidden_count, spilled_count, push_overfills, pushed, pop_underflows, popped}
use Rattle.mx_ring.specs.Window.{Window}
use Rattle.mx_ring.specs.declared.notes.RingWork.{RingWork}
use Rattle.mx_ring.specs.declared.notes.RingWork.TheVariants as work
use Rattle.mx_code.specs.Instructions.{next_of, x_of, yz_of}
use Rattle.mx_code.specs.SpecialRegisters.{rJ}
use Rattle.mx_code.specs.declared.instruction.Instruction.{Instruction}
use Rattle.mx_code.specs.declared.operation.Operation.TheVariants as op
use Rattle.mx_code.specs.declared.reason.Reason.TheVariants.{StackFull, Underflow}
use Rattle.mx_core.specs.Bounds.{IsMachine}
use Rattle.mx_core.specs.Deeds.{deed_of, onward, outcome, with_stack, with_stack_marked}
use Rattle.mx_core.specs.Kept.{Kept, state_of}
use Rattle.mx_core.specs.State.{State, special_register, with_special}
use Rattle.mx_core.specs.Undoing.{StateWas, called, TakesBack, state_undone}
use Rattle.mx_core.specs.Way.Calls.{left, push_outcome}
use Rattle.mx_core.proofs.Results.Answered.{unless-ok}
use Rattle.mx_core.proofs.Results.Others.{pop_outcome_is}

-- rJ gets a value, the stack becomes another one, and the mark falls
given : (s : State) (w v : Window) (call : RingWork) (y a mark : ℕ) → s.stack ≡ windowed w → RingTakesBack (call_noted call w) v w → s.pc % 4 ≡ 0 → (s.touched ≡ false → s.mark ≤ w.hidden.spilled) →
    TakesBack (called (record { pc = s.pc; steps = s.steps; mark = s.mark; link = slice_index s.special rJ; ring = call_noted call w })) (onward (record (with_special s rJ y) { stack = windowed v; mark = mark }) a) s
unfolding state_undone call_noted
given s w v call y a mark o t p m =
    let stack : windowed (ring_undone (call_noted call w) v) ≡ s.stack = ap windowed t.back ∙ sym o in
    let special : slice_set (slice_set s.special rJ y) rJ (slice_index s.special rJ) ≡ s.special = set-set s.special rJ y (slice_index s.special rJ) ∙ set-get_or s.special rJ 0 in
    record {
      fits = record { pc = p; ring = t.fits; mark = m };
      back = λ i. record s { stack = stack i; special = special i };
    }

over-ring : (k : Kept) → (state_of k).stack ≡ windowed k.ring
unfolding state_of
over-ring k = refl

spilled-frames : (k : Kept) → IsMachine (state_of k) k.ring → (state_of k).touched ≡ false → (state_of k).mark ≤ k.ring.hidden.spilled
spilled-frames k h t = subst (λ z. (state_of k).mark ≤ spilled_count z) (over-ring k) (h.frames_are_spilled t)

-- the note with its parts
noted : (n : StateWas) (s : State) (was now : RingWas) → n ≡ called (record { pc = s.pc; steps = s.steps; mark = s.mark; link = special_register s rJ; ring = was }) → was ≡ now →
    n ≡ called (record { pc = s.pc; steps = s.steps; mark = s.mark; link = slice_index s.special rJ; ring = now })
unfolding special_register
noted n s was now e f = e ∙ ap (λ r. called (record { pc = s.pc; steps = s.steps; mark = s.mark; link = slice_index s.special rJ; ring = r })) f

pub push-taken : (n : StateWas) (k m : Kept) (was : RingWas) (i : Instruction) (a : ℕ) → n ≡ called (record { pc = (state_of k).pc; steps = (state_of k).steps; mark = (state_of k).mark; link = special_register (state_of k) rJ; ring = was }) → was ≡ call_noted (work.Push (x_of i)) k.ring →
    spilled_by (work.Push (x_of i)) k.ring ≡ 0 → IsMachine (state_of k) k.ring → (Ok tt, state_of m) ≡ left (state_of k) (push_outcome (state_of k) i a) → TakesBack n (state_of m) (state_of k)
push-taken n k m was i a e f z h g =
    let s : State = state_of k in
    let w : Window = k.ring in
    let x : ℕ = x_of i in
    let ok = unless-ok (push_overfills s.stack x) StackFull s (state_of m) (onward (with_stack (with_special s rJ (next_of i)) (pushed s.stack x)) a) g in
    let made : windowed m.ring ≡ pushed s.stack x = sym (over-ring m) ∙ ap (λ (u : State). u.stack) ok.1 in
    let room : push_overfills (windowed w) x ≡ false = ap (λ y. push_overfills y x) (sym (over-ring k)) ∙ ok.0 in
    let back : RingTakesBack (call_noted (work.Push x) w) m.ring w = push-called w m.ring x h.ring room z (made ∙ ap (λ y. pushed y x) (over-ring k)) in
    let after : state_of m ≡ onward (record (with_special s rJ (next_of i)) { stack = windowed m.ring; mark = s.mark }) a = ok.1 ∙ ap (λ (y : Stack). onward (with_stack (with_special s rJ (next_of i)) y) a) (sym made) in
    subst (λ u. TakesBack u (state_of m) s) (sym (noted n s was (call_noted (work.Push x) w) e f))
    (subst (λ u. TakesBack (called (record { pc = s.pc; steps = s.steps; mark = s.mark; link = slice_index s.special rJ; ring = call_noted (work.Push x) w })) u s) (sym after)
    (given s w m.ring (work.Push x) (next_of i) a s.mark (over-ring k) back h.address (spilled-frames k h)))

pub pop-taken : (n : StateWas) (k m : Kept) (was : RingWas) (i : Instruction) → n ≡ called (record { pc = (state_of k).pc; steps = (state_of k).steps; mark = (state_of k).mark; link = special_register (state_of k) rJ; ring = was }) → was ≡ call_noted (work.Pop (x_of i)) k.ring →
    IsMachine (state_of k) k.ring → (Ok tt, state_of m) ≡ left (state_of k) (outcome (state_of k) (deed_of op.Pop (state_of k) i)) → TakesBack n (state_of m) (state_of k)
pop-taken n k m was i e f h g =
    let s : State = state_of k in
    let w : Window = k.ring in
    let x : ℕ = x_of i in
    let a : ℕ = (special_register s rJ + 4 * yz_of i) % 2 ^ 64 in
    let mark : ℕ = min s.mark (hidden_count (popped s.stack x)) in
    let ok = unless-ok (pop_underflows s.stack) Underflow s (state_of m) (onward (with_stack_marked s (popped s.stack x) mark) a) (g ∙ ap (left s) (pop_outcome_is s i)) in
    let made : windowed m.ring ≡ popped s.stack x = sym (over-ring m) ∙ ap (λ (u : State). u.stack) ok.1 in
    let room : pop_underflows (windowed w) ≡ false = ap pop_underflows (sym (over-ring k)) ∙ ok.0 in
    let back : RingTakesBack (call_noted (work.Pop x) w) m.ring w = pop-called w m.ring x h.ring room (made ∙ ap (λ y. popped y x) (over-ring k)) in
    let after : state_of m ≡ onward (record (with_special s rJ (slice_index s.special rJ)) { stack = windowed m.ring; mark = mark }) a =
    ok.1 ∙ ap (λ (y : Stack). onward (with_stack_marked s y mark) a) (sym made) ∙ ap (λ (xs : List ℕ). onward (record s { special = xs; stack = windowed m.ring; mark = mark }) a) (sym (set-get_or s.special rJ 0)) in
    subst (λ u. TakesBack u (state_of m) s) (sym (noted n s was (call_noted (work.Pop x) w) e f))
    (subst (λ u. TakesBack (called (record { pc = s.pc; steps = s.steps; mark = s.mark; link = slice_index s.special rJ; ring = call_noted (work.Pop x) w })) u s) (sym after)
    (given s w m.ring (work.Pop x) (slice_index s.special rJ) a mark (over-ring k) back h.address (spilled-frames k h)))
