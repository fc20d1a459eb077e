-- What the operations without a destination come to.
use Rattle.std.proofs.Common.{◌≡◌, ◌+◌, ◌*◌, ◌%◌, ◌^◌, ◌==◌, ◌&&◌, ◌||◌, Bool, true, false, not, nat_lt, min, if◌then◌else◌, None, Some, Ok, Err, refl, sym, ap, ◌∙◌}
use Rattle.mx_alu.specs.Truth.{truth}
use Rattle.mx_ring.specs.Stack.{hidden_count, push_overfills, pushed, pop_underflows, popped, save_overfills, saved, unsave_refused, stack_index, set_overfills}
use Rattle.mx_code.specs.SpecialRegisters.{rJ, rS}
use Rattle.mx_core.specs.Way.Calls.{unless, push_outcome, pop_outcome, save_outcome, unsave_outcome, get_outcome, sync_outcome, trip_outcome, with_new_mark, frame_back, looks_unsaved, get_done}
use Rattle.mx_core.specs.Deeds.{applied, onward, tripped, outcome, deed_of, unless_refused, is_absent, with_stack, with_stack_marked}
use Rattle.mx_core.specs.Effects.{effect_of, y_operand, z_operand, x_register, data_address, specials_saved}
use Rattle.mx_code.specs.Instructions.{code_of, x_of, y_of, z_of, yz_of, xyz_of, next_of, near_address, far_address}
use Rattle.mx_code.specs.declared.instruction.Instruction.{Instruction}
use Rattle.mx_core.specs.State.{State, special_register, with_special, with_local, global_start, tetra}
use Rattle.mx_core.specs.Stops.{reason_where, first_reason, form_fault, stack_fault}
use Rattle.mx_code.specs.declared.operation.Operation.TheVariants as op
use Rattle.mx_code.specs.declared.reason.Reason.{Reason}
use Rattle.mx_code.specs.declared.reason.Reason.TheVariants.{Float, Illegal, Privileged, StackFull, Underflow, BadFrame, UnhandledTrip, ResumeInsert}
use Rattle.mx_core.proofs.Results.Outcomes.{or-false, same-touched}

unless-any : (b : Bool) (r : Reason) (done to : State) → done ≡ to → unless_refused (first_reason (reason_where b r) None) done ≡ unless b r to
unless-any true r done to e = refl
unless-any false r done to e = ap Ok e

-- nothing was looked at
pub unseen : (s t : State) → t.touched ≡ s.touched → record t { touched = s.touched || false } ≡ t
unseen s t e = same-touched t (s.touched || false) (e ∙ sym (or-false s.touched))

looked : (b : Bool) → (b || false || false) ≡ b
looked true = refl
looked false = refl

pub branch_outcome : (s : State) (i : Instruction) → outcome s (deed_of op.Branch s i) ≡ Ok (onward s (if truth (code_of i) (x_register s i) then near_address i else next_of i))
unfolding effect_of form_fault stack_fault applied
branch_outcome s i = ap Ok (unseen s (onward s (if truth (code_of i) (x_register s i) then near_address i else next_of i)) refl)

pub jump_outcome : (s : State) (i : Instruction) → outcome s (deed_of op.Jump s i) ≡ Ok (onward s (far_address i))
unfolding effect_of form_fault stack_fault applied
jump_outcome s i = ap Ok (unseen s (onward s (far_address i)) refl)

pub nothing_outcome : (s : State) (i : Instruction) → outcome s (deed_of op.Nothing s i) ≡ Ok (onward s (next_of i))
unfolding effect_of form_fault stack_fault applied
nothing_outcome s i = ap Ok (unseen s (onward s (next_of i)) refl)

pub push_jump_outcome : (s : State) (i : Instruction) → outcome s (deed_of op.PushJump s i) ≡ push_outcome s i (near_address i)
unfolding effect_of form_fault stack_fault applied
push_jump_outcome s i = unless-any (push_overfills s.stack (x_of i)) StackFull _ _ (unseen s (onward (with_stack (with_special s rJ (next_of i)) (pushed s.stack (x_of i))) (near_address i)) refl)

pub push_go_outcome : (s : State) (i : Instruction) → outcome s (deed_of op.PushGo s i) ≡ push_outcome s i (data_address s i)
unfolding effect_of form_fault stack_fault applied
push_go_outcome s i = unless-any (push_overfills s.stack (x_of i)) StackFull _ _ (unseen s (onward (with_stack (with_special s rJ (next_of i)) (pushed s.stack (x_of i))) (data_address s i)) refl)

pub pop_outcome_is : (s : State) (i : Instruction) → outcome s (deed_of op.Pop s i) ≡ pop_outcome s i
unfolding effect_of form_fault stack_fault applied
pop_outcome_is s i =
    unless-any (pop_underflows s.stack) Underflow _ _
    (unseen s (onward (with_stack_marked s (popped s.stack (x_of i)) (min s.mark (hidden_count (popped s.stack (x_of i))))) ((special_register s rJ + 4 * yz_of i) % 2 ^ 64)) refl)

-- the form first, then the register stack; only an instruction whose form is right looks at anything
formed : (form b : Bool) (q r : Reason) (looks : Bool) (t : Bool → State) (to : State) → t looks ≡ to →
    unless_refused (first_reason (reason_where form q) (first_reason (reason_where b r) None)) (t (is_absent (reason_where form q) && looks)) ≡ (if form then Err q else unless b r to)
formed true b q r looks t to e = refl
formed false true q r looks t to e = refl
formed false false q r looks t to e = ap Ok e

pub save_outcome_is : (s : State) (i : Instruction) → outcome s (deed_of op.Save s i) ≡ save_outcome s i
unfolding effect_of form_fault stack_fault applied
save_outcome_is s i =
    let to = onward (with_new_mark s (saved s.stack (x_of i) (specials_saved s))) (next_of i) in
    formed (not (yz_of i == 0) || nat_lt (x_of i) (global_start s)) (save_overfills s.stack) Illegal StackFull false (λ w. record to { touched = s.touched || w }) to (unseen s to refl)

pub unsave_outcome_is : (s : State) (i : Instruction) → outcome s (deed_of op.Unsave s i) ≡ unsave_outcome s i
unfolding effect_of form_fault stack_fault applied
unsave_outcome_is s i =
    let to = onward (frame_back s (stack_index (z_operand s i))) (next_of i) in
    let looks = looks_unsaved s (z_operand s i) in
    formed (not (x_of i == 0) || not (y_of i == 0)) (unsave_refused s.stack (z_operand s i)) Illegal BadFrame (looks || false || false) (λ w. record to { touched = s.touched || w }) (record to { touched = s.touched || looks })
    (ap (λ w. record to { touched = s.touched || w }) (looked looks))

pub get_outcome_is : (s : State) (i : Instruction) → outcome s (deed_of op.Get s i) ≡ get_outcome s i
unfolding effect_of form_fault stack_fault applied
get_outcome_is s i =
    let to = get_done (with_local s (x_of i)) i in
    let looks = z_of i == rS in
    formed (not (y_of i == 0) || nat_lt 31 (z_of i)) (set_overfills s.stack (x_of i)) Illegal StackFull (looks || false || false) (λ w. record to { touched = s.touched || w }) (record to { touched = s.touched || looks })
    (ap (λ w. record to { touched = s.touched || w }) (looked looks))

sync-cases : (a b : Bool) (t : Bool → State) (to : State) → t false ≡ to →
    unless_refused (first_reason (if a then Some Illegal else reason_where b Privileged) None) (t (is_absent (if a then Some Illegal else reason_where b Privileged) && false)) ≡ (if a then Err Illegal else unless b Privileged to)
sync-cases true b t to e = refl
sync-cases false true t to e = refl
sync-cases false false t to e = ap Ok e

pub sync_outcome_is : (s : State) (i : Instruction) → outcome s (deed_of op.Synchronize s i) ≡ sync_outcome s i
unfolding effect_of form_fault stack_fault applied
sync_outcome_is s i =
    sync-cases (nat_lt 7 (xyz_of i)) (nat_lt 3 (xyz_of i)) (λ w. record (onward s (next_of i)) { touched = s.touched || w }) (onward s (next_of i)) (unseen s (onward s (next_of i)) refl)

pub trip_outcome_is : (s : State) (i : Instruction) → outcome s (deed_of op.Trip s i) ≡ trip_outcome s i
unfolding effect_of form_fault stack_fault applied
trip_outcome_is s i = unless-any (tetra s 0 == 0) UnhandledTrip _ _ (unseen s (onward (tripped s i (Some (record { handler = 0; y = y_operand s i; z = z_operand s i }))) 0) refl)

-- what no program may carry out, and what RESUME does not insert
pub float_outcome : (s : State) (i : Instruction) → outcome s (deed_of op.Float s i) ≡ Err Float
unfolding form_fault
float_outcome s i = refl

pub privileged_outcome : (s : State) (i : Instruction) → outcome s (deed_of op.Privileged s i) ≡ Err Privileged
unfolding form_fault
privileged_outcome s i = refl

pub resume_outcome : (s : State) (i : Instruction) → outcome s (deed_of op.Resume s i) ≡ Err Illegal
unfolding form_fault
resume_outcome s i = refl

pub trap_outcome : (s : State) (i : Instruction) → outcome s (deed_of op.Trap s i) ≡ Err ResumeInsert
unfolding form_fault
trap_outcome s i = refl

pub ruleset stops = (float_outcome, privileged_outcome, resume_outcome, trap_outcome)
