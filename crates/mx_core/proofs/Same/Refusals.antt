-- What stops an instruction is the same over both register stacks.
use Rattle.std.proofs.Common.{◌≡◌, not, ℕ, ◌==◌, Bool, true, false, cond, Option, None, Some, refl, ap}
use Rattle.mx_alu.specs.declared.answer.Event.{Event}
use Rattle.mx_alu.specs.declared.answer.Event.TheVariants.{Divide, Overflow}
use Rattle.mx_mem.specs.Memory.{tetra_of}
use Rattle.mx_ring.specs.Stack.{Stack, listed, windowed, as_listed, register, in_stack_area, set_overfills, push_overfills, pop_underflows, save_overfills, unsave_refused}
use Rattle.mx_ring.specs.Window.{as_list}
use Rattle.mx_code.specs.Puts.{put_of}
use Rattle.mx_code.specs.SpecialRegisters.{rP}
use Rattle.mx_alu.specs.Trips.{handler}
use Rattle.mx_alu.specs.declared.decision.Trip.TheVariants.{Taken, Noted}
use Rattle.mx_core.specs.Effects.{Effect, Store, Tripping, effect_of, with_decision, with_event, z_operand, swapped}
use Rattle.mx_code.specs.Instructions.{x_of}
use Rattle.mx_code.specs.declared.instruction.Instruction.{Instruction}
use Rattle.mx_core.specs.State.{State, special_register, global_start, locals}
use Rattle.mx_core.specs.Stops.{refusal, form_fault, stack_fault, trip_fault, reason_where, page_fault}
use Rattle.mx_code.specs.declared.operation.Operation.{Operation}
use Rattle.mx_code.specs.declared.operation.Operation.TheVariants as op
use Rattle.mx_code.specs.declared.reason.Reason.TheVariants.{BadFrame, UnhandledTrip}
use Rattle.mx_core.proofs.Choices.{chosen, not-true, putting-bare}
use Rattle.mx_core.proofs.Same.Seen.{over, same-octa}

pub same-form : (operation : Operation) (s : State) (z : Stack) (i : Instruction) → form_fault operation (over s (as_listed z)) i ≡ form_fault operation (over s z) i
unfolding as_list register form_fault
same-form op.Put s (windowed w) i = refl
same-form op.Save s (windowed w) i = refl
same-form op.Float s (windowed w) i = refl
same-form op.Privileged s (windowed w) i = refl
same-form op.Resume s (windowed w) i = refl
same-form op.Trap s (windowed w) i = refl
same-form op.Get s (windowed w) i = refl
same-form op.Unsave s (windowed w) i = refl
same-form op.Synchronize s (windowed w) i = refl
same-form operation s (windowed w) i = refl
same-form operation s (listed r) i = refl

-- UNSAVE is refused alike
abbrev pub RefusesFrame : Operation → State → Stack → Instruction → Type 0
RefusesFrame op.Unsave s z i = unsave_refused (as_listed z) (z_operand (over s z) i) ≡ unsave_refused z (z_operand (over s z) i)
RefusesFrame operation s z i = Unit {0}

pub same-stack : (operation : Operation) (s : State) (z : Stack) (i : Instruction) → RefusesFrame operation s z i → stack_fault operation (over s (as_listed z)) i ≡ stack_fault operation (over s z) i
unfolding as_list register stack_fault set_overfills push_overfills pop_underflows save_overfills
same-stack op.PushJump s (windowed w) i f = refl
same-stack op.PushGo s (windowed w) i f = refl
same-stack op.Pop s (windowed w) i f = refl
same-stack op.Save s (windowed w) i f = refl
same-stack op.Unsave s (windowed w) i f = ap (λ b. reason_where b BadFrame) f
same-stack operation s (windowed w) i f = refl
same-stack operation s (listed r) i f = refl

-- HANDLERS, which are outside the stack area

abbrev pub is_outside : Option Tripping → Bool
is_outside None = true
is_outside (Some t) = not (in_stack_area t.handler)

decision-outside : (t : Bool) (event : Event) (ra y z : ℕ) (e : Effect) → e.trip ≡ None → is_outside (with_decision (cond t (Taken (handler event)) (Noted ra)) y z e).trip ≡ true
decision-outside true Divide ra y z e n = refl
decision-outside true Overflow ra y z e n = refl
decision-outside false event ra y z e n = ap is_outside n

event-outside : (s : State) (event : Option Event) (y z : ℕ) (e : Effect) → e.trip ≡ None → is_outside (with_event s event y z e).trip ≡ true
event-outside s None y z e n = ap is_outside n
event-outside s (Some event) y z e n = decision-outside _ event _ y z e n

swap-trip : (s : State) (i : Instruction) (a found : ℕ) → is_outside (swapped s i a found).trip ≡ true
swap-trip s i a found = chosen (λ (e : Effect). is_outside e.trip ≡ true) (found == special_register s rP) _ _ refl refl

pub trip-outside : (operation : Operation) (s : State) (i : Instruction) → is_outside (effect_of operation s i).trip ≡ true
unfolding effect_of
trip-outside op.Compute s i = event-outside s _ _ _ _ refl
trip-outside op.Negate s i = event-outside s _ _ _ _ refl
trip-outside (op.Store how) s i = event-outside s _ _ _ _ refl
trip-outside op.CompareAndSwap s i = swap-trip s i _ _
trip-outside op.Trip s i = refl
trip-outside op.Put s i = ap is_outside (putting-bare i (x_of i) (put_of (x_of i) (z_operand s i) (global_start s) (locals s))).trip
trip-outside op.Wyde s i = refl
trip-outside op.Branch s i = refl
trip-outside op.ConditionalSet s i = refl
trip-outside op.ZeroOrSet s i = refl
trip-outside (op.Load how) s i = refl
trip-outside op.Address s i = refl
trip-outside op.Jump s i = refl
trip-outside op.Go s i = refl
trip-outside op.PushJump s i = refl
trip-outside op.PushGo s i = refl
trip-outside op.Pop s i = refl
trip-outside op.Save s i = refl
trip-outside op.Unsave s i = refl
trip-outside op.Get s i = refl
trip-outside op.Nothing s i = refl
trip-outside op.Synchronize s i = refl
trip-outside op.Float s i = refl
trip-outside op.Privileged s i = refl
trip-outside op.Trap s i = refl
trip-outside op.Resume s i = refl

pub same-trip : (s : State) (z : Stack) (t : Option Tripping) → is_outside t ≡ true → trip_fault (over s (as_listed z)) t ≡ trip_fault (over s z) t
same-trip s z None e = refl
same-trip s z (Some t) e = ap (λ x. reason_where (tetra_of x t.handler == 0) UnhandledTrip) (same-octa s z t.handler (not-true (in_stack_area t.handler) e))

same-page : (s : State) (z : Stack) (store : Option Store) → page_fault (over s (as_listed z)) store ≡ page_fault (over s z) store
same-page s z None = refl
same-page s z (Some store) = refl

pub same-refusal : (operation : Operation) (s : State) (z : Stack) (i : Instruction) (e : Effect) → is_outside e.trip ≡ true → RefusesFrame operation s z i → refusal operation (over s (as_listed z)) i e ≡ refusal operation (over s z) i e
same-refusal operation s z i e t f =
    rw (same-form operation s z i, same-stack operation s z i f, same-trip s z e.trip t, same-page s z e.store) refl
