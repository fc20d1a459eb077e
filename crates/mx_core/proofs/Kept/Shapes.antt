-- What the effects of the operations do to the register stack, where nothing refuses them.
use Rattle.std.proofs.Common.{◌≡◌, Bool, cond, ℕ, ◌^◌, ◌≤◌, ◌<◌, ◌==◌, ◌||◌, not, nat_lt, min, true, false, Option, None, Some, arith, refl}
use Rattle.std.proofs.lemmas.Bool.Decides.{nat_tests}
use Rattle.mx_alu.specs.declared.answer.Event.{Event}
use Rattle.mx_ring.specs.Stack.{Stack, local_count, stack_index, unsave_refused}
use Rattle.mx_code.specs.Puts.{put_of, is_unchangeable, is_privileged, is_out_of_range, is_global_threshold, stored_value}
use Rattle.mx_code.specs.SpecialRegisters.{rA, rG, rL}
use Rattle.mx_code.specs.declared.put.Put.{Put}
use Rattle.mx_code.specs.declared.put.Put.TheVariants as put
use Rattle.mx_alu.specs.Trips.{handler}
use Rattle.mx_alu.specs.declared.decision.Trip.{Trip}
use Rattle.mx_alu.specs.declared.decision.Trip.TheVariants.{Taken, Noted}
use Rattle.mx_core.specs.Deeds.{with_destination}
use Rattle.mx_core.specs.Effects.{Effect, stays, unsaves, effect_of, with_decision, with_event, z_operand, putting, putting_value}
use Rattle.mx_code.specs.Instructions.{x_of, yz_of}
use Rattle.mx_code.specs.declared.instruction.Instruction.{Instruction}
use Rattle.mx_core.specs.State.{State, global_start, locals}
use Rattle.mx_core.specs.Stops.{form_fault, stack_fault}
use Rattle.mx_code.specs.declared.operation.Operation.{Operation}
use Rattle.mx_code.specs.declared.operation.Operation.TheVariants as op
use Rattle.mx_code.specs.declared.reason.Reason.TheVariants.{StackFull, Underflow, BadFrame, Illegal}
use Rattle.mx_core.proofs.Kept.Applied.{Shape, plain, moving, MovesSpilled}
use Rattle.mx_core.proofs.Choices.{chosen, chosen-by, no-reason, IsBare, putting-bare}
use Rattle.mx_core.proofs.Kept.Stages.{MoveFits}

-- EVENTS, which change neither the result nor what is moved

pub record IsLike (e f : Effect) : Type 0 where
  pub result : f.result ≡ e.result
  pub load : f.load ≡ e.load
  pub store : f.store ≡ e.store
  pub move : f.move ≡ e.move

like-itself : (e : Effect) → IsLike e e
like-itself e = record { result = refl; load = refl; store = refl; move = refl }

decision-like : (t : Trip) (y z : ℕ) (e : Effect) → IsLike e (with_decision t y z e)
decision-like (Taken handler) y z e = record { result = refl; load = refl; store = refl; move = refl }
decision-like (Noted a) y z e = record { result = refl; load = refl; store = refl; move = refl }

pub event-like : (s : State) (event : Option Event) (y z : ℕ) (e : Effect) → IsLike e (with_event s event y z e)
event-like s None y z e = like-itself e
event-like s (Some event) y z e = decision-like _ y z e

-- PUT

store-fits : (i : Instruction) (z : Stack) (code value : ℕ) → ((code == rL) ≡ true → value ≤ local_count z) → ((code == rG) ≡ true → is_global_threshold value (local_count z) ≡ true) → MoveFits z (putting_value i code value).move
store-fits i z code value l g =
    chosen-by (λ (e : Effect). MoveFits z e.move) (code == rL) _ _ l (λ n. chosen-by (λ (e : Effect). MoveFits z e.move) (code == rG) _ _ (λ m. let t = g m in (grind (arith, nat_tests), grind (arith, nat_tests), grind (arith, nat_tests))) (λ m. tt))

-- what holds of each answer of PUT; a value that it stores is in its bounds
pub record IsStored (code value l v : ℕ) : Type 0 where
  pub most : v ≤ value
  pub status : (code == rA) ≡ true → v < 2 ^ 18
  pub local : (code == rL) ≡ true → v ≤ l
  pub global : (code == rG) ≡ true → is_global_threshold v l ≡ true

in-range : (code value l : ℕ) → is_out_of_range code value l ≡ false → IsStored code value l (stored_value code value l)
in-range code value l e = by-local (code == rL) refl
  where
    by-local : (b : Bool) → (code == rL) ≡ b → IsStored code value l (cond b (min value l) value)
    by-local true c = record { most = omega arith; status = λ b. absurd (grind (arith, nat_tests)); local = λ b. omega arith; global = λ b. absurd (grind (arith, nat_tests)) }
    by-local false c = record { most = omega arith; status = λ b. grind (arith, nat_tests); local = λ b. absurd (cc); global = λ b. grind (arith, nat_tests) }

pub put-cases : (P : Put → Type 0) (code value g l : ℕ) → P put.Illegal → P put.Privileged → ((v : ℕ) → IsStored code value l v → P (put.Store v)) → P (put_of code value g l)
put-cases P code value g l bad kept good =
    chosen P (is_unchangeable code) _ _ bad (chosen P (is_privileged code) _ _ kept (chosen-by P (is_out_of_range code value l) _ _ (λ t. bad) (λ t. good (stored_value code value l) (in-range code value l t))))

abbrev PutFits : Instruction → Stack → ℕ → Put → Type 0
PutFits i z code p = MoveFits z (putting i code p).move

put-fits : (i : Instruction) (z : Stack) (code value g : ℕ) → PutFits i z code (put_of code value g (local_count z))
put-fits i z code value g = put-cases (PutFits i z code) code value g (local_count z) tt tt (λ v t. store-fits i z code v t.local t.global)

pub put-spilled : (i : Instruction) (z : Stack) (code : ℕ) (p : Put) → MovesSpilled z (putting i code p).move
put-spilled i z code (put.Store value) = chosen (λ (e : Effect). MovesSpilled z e.move) (code == rL) _ _ tt (chosen (λ (e : Effect). MovesSpilled z e.move) (code == rG) _ _ tt tt)
put-spilled i z code put.Illegal = tt
put-spilled i z code put.Privileged = tt

-- SHAPES

frame-fits : (z : Stack) (a : ℕ) → unsave_refused z a ≡ false → MoveFits z (unsaves (stack_index a))
unfolding unsave_refused
frame-fits z a e = (grind (arith, nat_tests), grind (arith, nat_tests))

save-places : (s : State) (i : Instruction) → form_fault op.Save s i ≡ None → global_start s ≤ x_of i
unfolding form_fault
save-places s i f = let e : (not (yz_of i == 0) || nat_lt (x_of i) (global_start s)) ≡ false = no-reason _ Illegal f in grind (arith, nat_tests)

pub shape : (operation : Operation) (s : State) (i : Instruction) → form_fault operation s i ≡ None → stack_fault operation s i ≡ None → Shape (with_destination operation s i).stack (effect_of operation (with_destination operation s i) i)
unfolding effect_of stack_fault
shape op.Compute s i f g = plain (event-like _ _ _ _ _).move
shape op.Negate s i f g = plain (event-like _ _ _ _ _).move
shape (op.Store how) s i f g = plain (event-like _ _ _ _ _).move
shape op.CompareAndSwap s i f g = plain (chosen (λ (e : Effect). e.move ≡ stays) _ _ _ refl refl)
shape op.PushJump s i f g = moving refl refl refl (no-reason _ StackFull g)
shape op.PushGo s i f g = moving refl refl refl (no-reason _ StackFull g)
shape op.Pop s i f g = moving refl refl refl (no-reason _ Underflow g)
shape op.Save s i f g = moving refl refl refl (save-places s i f, no-reason _ StackFull g)
shape op.Unsave s i f g = moving refl refl refl (frame-fits s.stack (z_operand s i) (no-reason _ BadFrame g))
shape op.Put s i f g =
    let p : Put = put_of (x_of i) (z_operand s i) (global_start s) (locals s) in
    let b : IsBare (putting i (x_of i) p) = putting-bare i (x_of i) p in
    moving b.result b.store b.trip (put-fits i s.stack (x_of i) (z_operand s i) (global_start s))
shape op.Wyde s i f g = plain refl
shape op.Branch s i f g = plain refl
shape op.ConditionalSet s i f g = plain refl
shape op.ZeroOrSet s i f g = plain refl
shape (op.Load how) s i f g = plain refl
shape op.Address s i f g = plain refl
shape op.Jump s i f g = plain refl
shape op.Go s i f g = plain refl
shape op.Get s i f g = plain refl
shape op.Trip s i f g = plain refl
shape op.Nothing s i f g = plain refl
shape op.Synchronize s i f g = plain refl
shape op.Float s i f g = plain refl
shape op.Privileged s i f g = plain refl
shape op.Trap s i f g = plain refl
shape op.Resume s i f g = plain refl
