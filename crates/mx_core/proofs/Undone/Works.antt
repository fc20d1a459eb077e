-- Which work of the register stack an operation does.
use Rattle.std.proofs.Common.{◌≡◌, ◌≢◌, ℕ, ◌==◌, ◌||◌, not, nat_lt, Bool, true, false, cond, if◌then◌else◌, [], ◌∷◌, Option, None, Some, refl, sym, subst, ◌∙◌, ap, ⊎_elim, ◌⊎◌}
use Rattle.mx_ring.specs.Notes.{ring_noted, registers_noted, spilled_by, staying, octa_noted}
use Rattle.mx_ring.specs.Window.{Window}
use Rattle.mx_ring.specs.declared.notes.RingWork.{RingWork}
use Rattle.mx_ring.specs.declared.notes.RingWork.TheVariants.{Push, Pop, Save, Unsave, CutLocals}
use Rattle.mx_ring.specs.declared.saved.Saved.{Saved}
use Rattle.mx_code.specs.Puts.{put_of}
use Rattle.mx_code.specs.SpecialRegisters.{rG, rL}
use Rattle.mx_code.specs.declared.put.Put.{Put}
use Rattle.mx_code.specs.declared.put.Put.TheVariants as put
use Rattle.mx_core.specs.Deeds.{deed_of}
use Rattle.mx_core.specs.Effects.{Effect, Move, stays, cuts, moves_globals, going_on, effect_of, putting, z_operand}
use Rattle.mx_code.specs.Instructions.{x_of, y_of}
use Rattle.mx_code.specs.declared.instruction.Instruction.{Instruction}
use Rattle.mx_core.specs.Way.Noting.{TellsWork, put_work, work_noted}
use Rattle.mx_core.specs.State.{State, global_start, locals}
use Rattle.mx_core.specs.Stops.{form_fault, put_fault}
use Rattle.mx_core.specs.Undoing.{move_noted}
use Rattle.mx_code.specs.declared.operation.Operation.{Operation}
use Rattle.mx_code.specs.declared.operation.Operation.TheVariants as op
use Rattle.mx_code.specs.declared.reason.Reason.TheVariants.{Illegal}
use Rattle.mx_core.proofs.Choices.{chosen, no-first}
use Rattle.mx_core.proofs.Kept.Shapes.{event-like}

-- a work notes what a move does
abbrev Notes : Option RingWork → Move → Type 0
Notes work move = (k : ℕ) (place : Option ℕ) (w : Window) → work_noted work k place w ≡ move_noted move k place w

push_jump_told : (o : Operation) (s : State) (i : Instruction) (x : ℕ) → o ≡ op.PushJump → x ≡ x_of i → TellsWork (Some (Push x)) (deed_of o s i)
unfolding effect_of move_noted
push_jump_told o s i x e f = subst (λ p. TellsWork (Some (Push x)) (deed_of p s i)) (sym e) (λ n k place w. ap (λ y. ring_noted (Push y) w) f)

push_go_told : (o : Operation) (s : State) (i : Instruction) (x : ℕ) → o ≡ op.PushGo → x ≡ x_of i → TellsWork (Some (Push x)) (deed_of o s i)
unfolding effect_of move_noted
push_go_told o s i x e f = subst (λ p. TellsWork (Some (Push x)) (deed_of p s i)) (sym e) (λ n k place w. ap (λ y. ring_noted (Push y) w) f)

pub push_told : (o : Operation) (s : State) (i : Instruction) (x : ℕ) → (o ≡ op.PushJump) ⊎ (o ≡ op.PushGo) → x ≡ x_of i → TellsWork (Some (Push x)) (deed_of o s i)
push_told o s i x e f = ⊎_elim (λ a. push_jump_told o s i x a f) (λ b. push_go_told o s i x b f) e

pub pop_told : (o : Operation) (s : State) (i : Instruction) (x : ℕ) → o ≡ op.Pop → x ≡ x_of i → TellsWork (Some (Pop x)) (deed_of o s i)
unfolding effect_of move_noted
pop_told o s i x e f = subst (λ p. TellsWork (Some (Pop x)) (deed_of p s i)) (sym e) (λ n k place w. ap (λ y. ring_noted (Pop y) w) f)

pub save_told : (o : Operation) (s : State) (i : Instruction) (x : ℕ) (specials : Saved) → o ≡ op.Save → TellsWork (Some (Save x specials)) (deed_of o s i)
unfolding effect_of move_noted ring_noted registers_noted spilled_by staying octa_noted
save_told o s i x specials e = subst (λ p. TellsWork (Some (Save x specials)) (deed_of p s i)) (sym e) (λ n k place w. refl)

pub unsave_told : (o : Operation) (s : State) (i : Instruction) (a : ℕ) → o ≡ op.Unsave → TellsWork (Some (Unsave a)) (deed_of o s i)
unfolding effect_of move_noted ring_noted registers_noted spilled_by staying octa_noted
unsave_told o s i a e = subst (λ p. TellsWork (Some (Unsave a)) (deed_of p s i)) (sym e) (λ n k place w. refl)

-- PUT

stays-told : (move : Move) → move ≡ stays → Notes None move
unfolding move_noted
stays-told move e k place w = ap (λ (m : Move). move_noted m k place w) (sym e)

abbrev by-code : Instruction → ℕ → ℕ → Bool → Bool → Effect
by-code i code value b c =
    if b then record (going_on i) { move = cuts value }
    else if c then record (going_on i) { move = moves_globals value }
    else record (going_on i) { special = (code, value) ∷ [] }

stored-told : (i : Instruction) (code value : ℕ) → Notes (put_work code) (putting i code (put.Store value)).move
unfolding move_noted ring_noted registers_noted spilled_by staying octa_noted
stored-told i code value k place w = by (code == rL) (code == rG)
  where
    by : (b c : Bool) → work_noted (cond (b || c) (Some (CutLocals 0)) None) k place w ≡ move_noted (by-code i code value b c).move k place w
    by true c = refl
    by false true = refl
    by false false = refl

put-told : (i : Instruction) (code : ℕ) (p : Put) → put_fault p ≡ None → Notes (put_work code) (putting i code p).move
put-told i code (put.Store value) e = stored-told i code value
put-told i code put.Illegal e = absurd (cc)
put-told i code put.Privileged e = absurd (cc)

put-form : (s : State) (i : Instruction) → form_fault op.Put s i ≡ None → put_fault (put_of (x_of i) (z_operand s i) (global_start s) (locals s)) ≡ None
unfolding form_fault
put-form s i e = by (not (y_of i == 0) || nat_lt 31 (x_of i)) e
  where
    by : (b : Bool) → cond b (Some Illegal) (put_fault (put_of (x_of i) (z_operand s i) (global_start s) (locals s))) ≡ None → put_fault (put_of (x_of i) (z_operand s i) (global_start s) (locals s)) ≡ None
    by true f = absurd (cc)
    by false f = f

put-works : (s : State) (i : Instruction) → TellsWork (put_work (x_of i)) (deed_of op.Put s i)
unfolding effect_of
put-works s i = λ n. put-told i (x_of i) (put_of (x_of i) (z_operand s i) (global_start s) (locals s)) (put-form s i (no-first _ _ n).0)

pub put_told : (o : Operation) (s : State) (i : Instruction) (x : ℕ) (work : Option RingWork) → o ≡ op.Put → x ≡ x_of i → work ≡ put_work x → TellsWork work (deed_of o s i)
put_told o s i x work e f g = subst (λ p. TellsWork work (deed_of p s i)) (sym e) (subst (λ m. TellsWork m (deed_of op.Put s i)) (sym (g ∙ ap put_work f)) (put-works s i))

-- ALL OTHERS

-- whether an operation moves the register stack
abbrev pub moves_stack : Operation → Bool
moves_stack op.PushJump = true
moves_stack op.PushGo = true
moves_stack op.Pop = true
moves_stack op.Save = true
moves_stack op.Unsave = true
moves_stack op.Put = true
moves_stack operation = false

still : (operation : Operation) (s : State) (i : Instruction) → moves_stack operation ≡ false → (effect_of operation s i).move ≡ stays
unfolding effect_of
still op.PushJump s i e = absurd (cc)
still op.PushGo s i e = absurd (cc)
still op.Pop s i e = absurd (cc)
still op.Save s i e = absurd (cc)
still op.Unsave s i e = absurd (cc)
still op.Put s i e = absurd (cc)
still op.Compute s i e = (event-like _ _ _ _ _).move
still op.Negate s i e = (event-like _ _ _ _ _).move
still (op.Store how) s i e = (event-like _ _ _ _ _).move
still op.CompareAndSwap s i e = chosen (λ (x : Effect). x.move ≡ stays) _ _ _ refl refl
still operation s i e = refl

pub still_told : (operation : Operation) (s : State) (i : Instruction) → moves_stack operation ≡ false → TellsWork None (deed_of operation s i)
still_told operation s i e = λ n. stays-told _ (still operation _ i e)

pub still-others : (o : Operation) → o ≢ op.PushJump → o ≢ op.PushGo → o ≢ op.Pop → o ≢ op.Save → o ≢ op.Unsave → o ≢ op.Put → moves_stack o ≡ false
still-others op.PushJump a b c d e f = absurd (a refl)
still-others op.PushGo a b c d e f = absurd (b refl)
still-others op.Pop a b c d e f = absurd (c refl)
still-others op.Save a b c d e f = absurd (d refl)
still-others op.Unsave a b c d e f = absurd (e refl)
still-others op.Put a b c d e f = absurd (f refl)
still-others o a b c d e f = refl
