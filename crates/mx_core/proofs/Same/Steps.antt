-- A step that is not wild goes the same over both register stacks.
use Rattle.std.proofs.Common.{◌≡◌, ℕ, ◌==◌, ◌&&◌, ◌||◌, nat_le, nat_lt, not, Bool, true, false, cond, Option, None, Some, length, refl, sym, subst, ◌∙◌, ap}
use Rattle.std.specs.Option.{unwrap_or, option_map}
use Rattle.mx_mem.specs.Memory.{tetra_of}
use Rattle.mx_registers.specs.Registers.{Registers}
use Rattle.mx_ring.specs.Stack.{as_listed, register, set_overfills}
use Rattle.mx_ring.specs.Window.{Window}
use Rattle.mx_code.specs.SpecialRegisters.{rW, rX, rY, rZ}
use Rattle.mx_alu.specs.Insertions.{insertion}
use Rattle.mx_alu.specs.declared.call.TrapCall.{TrapCall}
use Rattle.mx_alu.specs.declared.insertion.Insert.{Insert}
use Rattle.mx_alu.specs.declared.insertion.Insert.TheVariants as insert
use Rattle.mx_alu.specs.declared.insertion.Kind.TheVariants.{Again, Continue, Set}
use Rattle.mx_core.specs.Bounds.{IsMachine, as_list_state, as_list_step}
use Rattle.mx_core.specs.Deeds.{deed_for, Deed, deed_of, plain_deed, given_instruction, inserted, resumed, applied}
use Rattle.mx_core.specs.Effects.{Effect, giving, going_to}
use Rattle.mx_code.specs.Instructions.{instruction, operation_in, x_of, xyz_of}
use Rattle.mx_code.specs.declared.instruction.Instruction.{Instruction}
use Rattle.mx_word.specs.Segments.{is_in_stack_segment}
use Rattle.mx_core.specs.State.{State, special_register, global_start, locals, is_negative}
use Rattle.mx_core.specs.Step.{Stepped, went, calls, stopped, fetched, after, store_touch, trace_of, completed, carried_out, call_of, made, step}
use Rattle.mx_core.specs.Wild.{deed, IsQuiet}
use Rattle.mx_code.specs.declared.operation.Operation.{Operation}
use Rattle.mx_code.specs.declared.operation.Operation.TheVariants as op
use Rattle.mx_code.specs.declared.reason.Reason.{Reason}
use Rattle.mx_code.specs.declared.reason.Reason.TheVariants.{Illegal, ResumeInsert, Negative}
use Rattle.mx_code.specs.declared.trace.Trace.{Trace}
use Rattle.mx_core.proofs.Kept.Applied.{plain, applied-listed}
use Rattle.mx_core.proofs.Kept.Insertions.{insertion-sets}
use Rattle.mx_core.proofs.Same.Quiet.{SameDone, SameDeed, same-deed}
use Rattle.mx_core.proofs.Kept.Rings.{IsRinged, room-for}
use Rattle.mx_core.proofs.Same.Effects.{outside-area}
use Rattle.mx_core.proofs.Same.Seen.{same-visible, same-register, same-special, same-octa}
use Rattle.mx_core.proofs.Kept.Stages.{IsSound}

-- RESUME

given-done : (P : Type 0) (s : State) (i : Instruction) (x value : ℕ) → IsSound P s → set_overfills s.stack x ≡ false → SameDeed (plain_deed s i (Some x) (giving i value) None) (plain_deed (as_list_state s) i (Some x) (giving i value) None)
given-done P s i x value h o = record {
  refused = refl;
  done = λ n. record { destination = refl; effect = refl; wild = refl; state = applied-listed P s i x (giving i value) h o refl (plain refl) tt tt };
}

going-done : (P : Type 0) (s : State) (i : Instruction) (address : ℕ) (refused : Option Reason) → IsSound P s → SameDeed (plain_deed s i None (going_to i address) refused) (plain_deed (as_list_state s) i None (going_to i address) refused)
going-done P s i address refused h = record {
  refused = refl;
  done = λ n. record { destination = refl; effect = refl; wild = refl; state = applied-listed P s i 0 (going_to i address) h tt refl (plain refl) tt tt };
}

pub same-given : (s : State) (at word : ℕ) → given_instruction (as_list_state s) at word ≡ given_instruction s at word
same-given s at word =
    ap (λ y. record { at = at; word = word; given = Some (y, special_register (as_list_state s) rZ) }) (same-special s s.stack rY refl) ∙ ap (λ z. record { at = at; word = word; given = Some (special_register s rY, z) }) (same-special s s.stack rZ refl)

abbrev given-deed : State → ℕ → ℕ → ℕ → Deed
given-deed s at word value = plain_deed s (instruction at word) (Some (x_of (instruction at word))) (giving (instruction at word) value) None

same-inserted : (P : Type 0) (s : State) (i : Instruction) (ins : Insert) → P → IsSound P s → ((at word : ℕ) → ins ≡ insert.Perform Set at word → set_overfills s.stack (x_of (instruction at word)) ≡ false) → (inserted s i ins).is_wild ≡ false → SameDeed (inserted s i ins) (inserted (as_list_state s) i ins)
same-inserted P s i (insert.Back address) p h o w = going-done P s i address None h
same-inserted P s i (insert.Perform Again at word) p h o w = same-deed P (operation_in (instruction at word)) s (instruction at word) p h w
same-inserted P s i (insert.Perform Continue at word) p h o w =
    let operation : Operation = operation_in (instruction at word) in
    subst (λ (j : Instruction). SameDeed (deed_of operation s (given_instruction s at word)) (deed_of operation (as_list_state s) j)) (sym (same-given s at word)) (same-deed P operation s (given_instruction s at word) p h w)
same-inserted P s i (insert.Perform Set at word) p h o w =
    subst (λ v. SameDeed (given-deed s at word (special_register s rZ)) (given-deed (as_list_state s) at word v)) (sym (same-special s s.stack rZ refl)) (given-done P s (instruction at word) (x_of (instruction at word)) (special_register s rZ) h (o at word refl))
same-inserted P s i insert.Illegal p h o w = going-done P s i i.at (Some Illegal) h
same-inserted P s i insert.LeftOut p h o w = going-done P s i i.at (Some ResumeInsert) h

both-orders : (a b : Bool) → (a && b) ≡ false → (b && a) ≡ false
both-orders true true e = absurd (cc)
both-orders true false e = refl
both-orders false true e = refl
both-orders false false e = refl

-- what RESUME inserts
abbrev pub insertion-in : State → Insert
insertion-in s = insertion (special_register s rX) (special_register s rW) (locals s) (global_start s)

pub set-room : (s : State) (at word : ℕ) → insertion-in s ≡ insert.Perform Set at word → set_overfills s.stack (x_of (instruction at word)) ≡ false
set-room s at word e = room-for s.stack (x_of (instruction at word)) (both-orders (nat_le (locals s) (x_of (instruction at word))) (nat_lt (x_of (instruction at word)) (global_start s)) (insertion-sets (special_register s rX) (special_register s rW) (locals s) (global_start s) at word e))

pub same-insertion : (s : State) → insertion-in (as_list_state s) ≡ insertion-in s
same-insertion s =
    ap (λ x. insertion x (special_register (as_list_state s) rW) (locals (as_list_state s)) (global_start (as_list_state s))) (same-special s s.stack rX refl) ∙ ap (λ x. insertion (special_register s rX) x (locals (as_list_state s)) (global_start (as_list_state s))) (same-special s s.stack rW refl) ∙ ap (λ (v : Registers). insertion (special_register s rX) (special_register s rW) (length v.locals) v.first_global) (same-visible s.stack)

abbrev pub resumed-if : Bool → State → Instruction → Insert → Deed
resumed-if b s i ins = cond b (plain_deed s i None (going_to i i.at) (Some Illegal)) (inserted s i ins)

same-if : (P : Type 0) (b : Bool) (s : State) (i : Instruction) (ins : Insert) → P → IsSound P s → ((at word : ℕ) → ins ≡ insert.Perform Set at word → set_overfills s.stack (x_of (instruction at word)) ≡ false) → (resumed-if b s i ins).is_wild ≡ false → SameDeed (resumed-if b s i ins) (resumed-if b (as_list_state s) i ins)
same-if P true s i ins p h o w = going-done P s i i.at (Some Illegal) h
same-if P false s i ins p h o w = same-inserted P s i ins p h o w

pub same-resumed : (P : Type 0) (s : State) (i : Instruction) → P → IsSound P s → (resumed s i).is_wild ≡ false → SameDeed (resumed s i) (resumed (as_list_state s) i)
same-resumed P s i p h w =
    subst (λ (ins : Insert). SameDeed (resumed s i) (resumed-if (not (xyz_of i == 0)) (as_list_state s) i ins)) (sym (same-insertion s)) (same-if P (not (xyz_of i == 0)) s i (insertion-in s) p h (set-room s) w)

-- STEPS

pub same-fetched : (s : State) → is_in_stack_segment s.pc ≡ false → fetched (as_list_state s) ≡ fetched s
same-fetched s e = ap (λ x. instruction s.pc (tetra_of x s.pc)) (same-octa s s.stack s.pc (outside-area s.pc e))

abbrev traced : ℕ → Instruction → Option ℕ → Effect → ℕ → Trace
traced pc i dest e next = record {
  pc = pc;
  word = i.word;
  dest = dest;
  reads = e.load;
  writes = option_map store_touch e.store;
  next = next;
}

-- with the same deed
abbrev with_touched : State → Bool → State
with_touched s b = record s { touched = b }

same-after : (s : State) (d c : Deed) → SameDone d c → after (as_list_state s) c ≡ as_list_state (after s d)
same-after s d c e =
    ap (λ (u : State). with_touched u (s.touched || c.is_wild || is_in_stack_segment s.pc)) e.state ∙ ap (λ b. with_touched (as_list_state (applied d.here d.instruction (unwrap_or d.destination 0) d.effect)) (s.touched || b || is_in_stack_segment s.pc)) e.wild

same-trace : (s : State) (d c : Deed) → fetched (as_list_state s) ≡ fetched s → SameDone d c → trace_of (as_list_state s) c ≡ trace_of s d
same-trace s d c f e =
    ap (λ (i : Instruction). traced s.pc i c.destination c.effect (after (as_list_state s) c).pc) f ∙ ap (λ k. traced s.pc (fetched s) k c.effect (after (as_list_state s) c).pc) e.destination ∙ ap (λ (x : Effect). traced s.pc (fetched s) d.destination x (after (as_list_state s) c).pc) e.effect ∙ ap (λ (u : State). traced s.pc (fetched s) d.destination d.effect u.pc) (same-after s d c e)

same-completed : (s : State) (d c : Deed) (r : Option Reason) → fetched (as_list_state s) ≡ fetched s → (r ≡ None → SameDone d c) → completed (as_list_state s) c r ≡ as_list_step (completed s d r)
same-completed s d c (Some reason) f h = refl
same-completed s d c None f h =
    ap (λ (u : State). went u (trace_of (as_list_state s) c)) (same-after s d c (h refl)) ∙ ap (λ (t : Trace). went (as_list_state (after s d)) t) (same-trace s d c f (h refl))

same-carried : (s : State) (d c : Deed) → fetched (as_list_state s) ≡ fetched s → SameDeed d c → carried_out (as_list_state s) c ≡ as_list_step (carried_out s d)
same-carried s d c f e = ap (λ (r : Option Reason). completed (as_list_state s) c r) e.refused ∙ same-completed s d c d.refused f e.done

same-call : (s : State) → fetched (as_list_state s) ≡ fetched s → call_of (as_list_state s) ≡ call_of s
same-call s f =
    ap (λ (i : Instruction). record { pc = s.pc; word = i.word; arg = register (as_listed s.stack) 255 }) f ∙ ap (λ x. record { pc = s.pc; word = (fetched s).word; arg = x }) (same-register s.stack 255)

deed-listed : (P : Type 0) (operation : Operation) (s : State) → P → IsSound P s → fetched (as_list_state s) ≡ fetched s → (deed_of operation s (fetched s)).is_wild ≡ false → SameDeed (deed_of operation s (fetched s)) (deed_of operation (as_list_state s) (fetched (as_list_state s)))
deed-listed P operation s p h f w = subst (λ (j : Instruction). SameDeed (deed_of operation s (fetched s)) (deed_of operation (as_list_state s) j)) (sym f) (same-deed P operation s (fetched s) p h w)

made-listed : (P : Type 0) (operation : Operation) (s : State) → P → IsSound P s → fetched (as_list_state s) ≡ fetched s → (deed_for operation s (fetched s)).is_wild ≡ false → made (as_list_state s) operation ≡ as_list_step (made s operation)
made-listed P op.Trap s p h f w = ap (λ (c : TrapCall). calls c) (same-call s f)
made-listed P op.Resume s p h f w = same-carried s (resumed s (fetched s)) (resumed (as_list_state s) (fetched (as_list_state s))) f (subst (λ (j : Instruction). SameDeed (resumed s (fetched s)) (resumed (as_list_state s) j)) (sym f) (same-resumed P s (fetched s) p h w))
made-listed P operation s p h f w = same-carried s (deed_of operation s (fetched s)) (deed_of operation (as_list_state s) (fetched (as_list_state s))) f (deed-listed P operation s p h f w)

pub sound-of : (s : State) (w : Window) → IsMachine s w → IsSound (s.touched ≡ false) s
sound-of s w m = record {
  ring = subst IsRinged (sym m.over) m.ring;
  marked = m.frames_are_spilled;
  pages = m.pages;
  specials = m.specials;
}

first-false : (a b : Bool) → (a || b) ≡ false → (a ≡ false) × (b ≡ false)
first-false true b e = absurd (cc)
first-false false true e = absurd (cc)
first-false false false e = (refl, refl)

abbrev step-if : Bool → State → Instruction → Stepped
step-if b s i = cond b (stopped Negative) (made s (operation_in i))

not-negative : (s : State) (w : Window) (b : Bool) → IsMachine s w → s.touched ≡ false → (not b && (is_in_stack_segment s.pc || (deed s).is_wild)) ≡ false → step-if b (as_list_state s) (fetched (as_list_state s)) ≡ as_list_step (step-if b s (fetched s))
not-negative s w true m t q = refl
not-negative s w false m t q =
    let parts : (is_in_stack_segment s.pc ≡ false) × ((deed s).is_wild ≡ false) = first-false _ _ q in
    let f : fetched (as_list_state s) ≡ fetched s = same-fetched s parts.0 in
    ap (λ (i : Instruction). made (as_list_state s) (operation_in i)) f ∙ made-listed (s.touched ≡ false) (operation_in (fetched s)) s t (sound-of s w m) f parts.1

pub step-listed : (s : State) (w : Window) → IsMachine s w → IsQuiet s → step (as_list_state s) ≡ as_list_step (step s)
unfolding step
step-listed s w m q = not-negative s w (is_negative s.pc) m q.untouched q.not_wild

-- two machines that represent the same list go on alike, whatever is in their stack areas from rS on
pub step-unread : (s t : State) (w x : Window) → IsMachine s w → IsMachine t x → IsQuiet s → IsQuiet t → as_list_state s ≡ as_list_state t → as_list_step (step s) ≡ as_list_step (step t)
step-unread s t w x m n q r e = sym (step-listed s w m q) ∙ ap (λ (u : State). step u) e ∙ step-listed t x n r
