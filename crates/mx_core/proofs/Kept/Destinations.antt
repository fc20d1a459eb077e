-- The destination of an instruction is local before its operands are read.
use Rattle.std.proofs.Common.{◌≡◌, ℕ, ◌&&◌, Bool, true, false, cond, Option, None, Some, refl, sym, subst, ◌∙◌, ap}
use Rattle.std.specs.Option.{unwrap_or}
use Rattle.mx_ring.specs.Stack.{Stack, set_overfills, with_register, register}
use Rattle.mx_core.specs.Bounds.{as_list_state}
use Rattle.mx_code.specs.Instructions.{x_of, destination_of}
use Rattle.mx_code.specs.declared.instruction.Instruction.{Instruction}
use Rattle.mx_core.specs.Deeds.{with_destination}
use Rattle.mx_core.specs.Effects.{effect_of, z_operand}
use Rattle.mx_core.specs.State.{State, with_local, with_value_in, global_start, locals}
use Rattle.mx_code.specs.Operations.{has_destination}
use Rattle.mx_core.specs.Stops.{stack_fault, page_fault}
use Rattle.mx_core.specs.Effects.{Store}
use Rattle.mx_code.specs.declared.operation.Operation.{Operation}
use Rattle.mx_code.specs.declared.operation.Operation.TheVariants as op
use Rattle.mx_code.specs.declared.reason.Reason.TheVariants.{StackFull}
use Rattle.mx_code.specs.Puts.{put_of}
use Rattle.mx_core.proofs.Kept.Applied.{ResultFits, value-listed}
use Rattle.mx_core.proofs.Choices.{no-reason, putting-bare}
use Rattle.mx_core.proofs.Kept.Rings.{IsRinged, room-again}
use Rattle.mx_core.proofs.Same.Seen.{same-register}
use Rattle.mx_core.proofs.Kept.Shapes.{event-like}
use Rattle.mx_core.proofs.Kept.Stages.{IsSound, value-sound}

-- there is room for the destination
second-false : (a b : Bool) → a ≡ true → (a && b) ≡ false → b ≡ false
second-false true b d e = e
second-false false b d e = absurd (cc)

room-for-destination : (operation : Operation) (s : State) (i : Instruction) → has_destination operation ≡ true → stack_fault operation s i ≡ None → set_overfills s.stack (x_of i) ≡ false
unfolding stack_fault
room-for-destination op.PushJump s i d e = absurd (cc)
room-for-destination op.PushGo s i d e = absurd (cc)
room-for-destination op.Pop s i d e = absurd (cc)
room-for-destination op.Save s i d e = absurd (cc)
room-for-destination op.Unsave s i d e = absurd (cc)
room-for-destination operation s i d e = second-false (has_destination operation) (set_overfills s.stack (x_of i)) d (no-reason (has_destination operation && set_overfills s.stack (x_of i)) StackFull e)

abbrev pub local-if : Bool → State → ℕ → State
local-if b s x = cond b (with_local s x) s

sound-if : (P : Type 0) (b : Bool) (s : State) (x : ℕ) → IsSound P s → (b ≡ true → set_overfills s.stack x ≡ false) → IsSound P (local-if b s x)
sound-if P true s x h o = value-sound P s x (register s.stack x) h (o refl)
sound-if P false s x h o = h

pub destination-sound : (P : Type 0) (operation : Operation) (s : State) (i : Instruction) → IsSound P s → stack_fault operation s i ≡ None → IsSound P (with_destination operation s i)
destination-sound P operation s i h e = sound-if P (has_destination operation) s (x_of i) h (λ d. room-for-destination operation s i d e)

listed-if : (b : Bool) (s : State) (x : ℕ) → IsRinged s.stack → local-if b (as_list_state s) x ≡ as_list_state (local-if b s x)
listed-if true s x r = ap (λ y. with_value_in (as_list_state s) x y) (same-register s.stack x) ∙ value-listed s x (register s.stack x) r
listed-if false s x r = refl

pub destination-listed : (operation : Operation) (s : State) (i : Instruction) → IsRinged s.stack → with_destination operation (as_list_state s) i ≡ as_list_state (with_destination operation s i)
destination-listed operation s i r = listed-if (has_destination operation) s (x_of i) r

-- a state with its destination local has the same pages, and the same mark
same-pages : (b : Bool) (s : State) (x : ℕ) (store : Option Store) → page_fault (local-if b s x) store ≡ page_fault s store
same-pages true s x None = refl
same-pages true s x (Some store) = refl
same-pages false s x store = refl

pub destination-pages : (operation : Operation) (s : State) (i : Instruction) (store : Option Store) → page_fault (with_destination operation s i) store ≡ page_fault s store
destination-pages operation s i store = same-pages (has_destination operation) s (x_of i) store

-- THE RESULT

-- without a destination there is no result
pub no-result : (operation : Operation) (s : State) (i : Instruction) → has_destination operation ≡ false → (effect_of operation s i).result ≡ None
unfolding effect_of
no-result op.Compute s i e = absurd (cc)
no-result op.Negate s i e = absurd (cc)
no-result op.Wyde s i e = absurd (cc)
no-result op.ConditionalSet s i e = absurd (cc)
no-result op.ZeroOrSet s i e = absurd (cc)
no-result (op.Load how) s i e = absurd (cc)
no-result op.CompareAndSwap s i e = absurd (cc)
no-result op.Address s i e = absurd (cc)
no-result op.Go s i e = absurd (cc)
no-result op.Get s i e = absurd (cc)
no-result (op.Store how) s i e = (event-like _ _ _ _ _).result
no-result op.Put s i e = (putting-bare i (x_of i) (put_of (x_of i) (z_operand s i) (global_start s) (locals s))).result
no-result op.Branch s i e = refl
no-result op.Jump s i e = refl
no-result op.PushJump s i e = refl
no-result op.PushGo s i e = refl
no-result op.Pop s i e = refl
no-result op.Save s i e = refl
no-result op.Unsave s i e = refl
no-result op.Trip s i e = refl
no-result op.Nothing s i e = refl
no-result op.Synchronize s i e = refl
no-result op.Float s i e = refl
no-result op.Privileged s i e = refl
no-result op.Trap s i e = refl
no-result op.Resume s i e = refl

any-result : (z : Stack) (k : ℕ) (r : Option ℕ) → set_overfills z k ≡ false → ResultFits z k r
any-result z k None o = tt
any-result z k (Some x) o = o

fits-if : (b : Bool) (s : State) (x : ℕ) (r : Option ℕ) → (b ≡ false → r ≡ None) → ResultFits (local-if b s x).stack (unwrap_or (cond b (Some x) None) 0) r
fits-if true s x r h = any-result (with_register s.stack x (register s.stack x)) x r (room-again s.stack x (register s.stack x))
fits-if false s x r h = subst (ResultFits s.stack 0) (sym (h refl)) tt

pub result-fits : (operation : Operation) (s t : State) (i : Instruction) → ResultFits (with_destination operation s i).stack (unwrap_or (destination_of operation i) 0) (effect_of operation t i).result
result-fits operation s t i = fits-if (has_destination operation) s (x_of i) (effect_of operation t i).result (λ e. no-result operation t i e)
