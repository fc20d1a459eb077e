-- What the operations with a destination come to, in the state before them.
use Rattle.std.proofs.Common.{◌≡◌, ℕ, ◌+◌, ◌%◌, ◌^◌, ◌||◌, Bool, true, false, List, [], ◌∷◌, ◌++◌, Option, None, Some, if◌then◌else◌, Ok, refl, sym, ap, ◌∙◌}
use Rattle.mx_alu.specs.Names.{wyde_of}
use Rattle.mx_alu.specs.Truth.{truth}
use Rattle.mx_alu.specs.Wydes.{wyde}
use Rattle.mx_ops.specs.Opcodes.{opcode_kind, is_immediate}
use Rattle.mx_ring.specs.Stack.{Stack, register, set_overfills}
use Rattle.mx_core.specs.Way.Calls.{unless, settled, settled_with}
use Rattle.mx_core.specs.Deeds.{applied, onward, with_specials, outcome, deed_of, unless_refused}
use Rattle.mx_code.specs.Instructions.{code_of, x_of, y_of, z_of, next_of, near_address, wyde_value}
use Rattle.mx_code.specs.declared.instruction.Instruction.{Instruction}
use Rattle.mx_core.specs.Effects.{Effect, stays, effect_of, y_operand, z_operand, x_register, given_y, given_z, data_address}
use Rattle.mx_core.specs.State.{State, with_special, with_value_in, with_local}
use Rattle.mx_core.specs.Stops.{reason_where, first_reason, form_fault, stack_fault}
use Rattle.mx_code.specs.declared.operation.Operation.TheVariants as op
use Rattle.mx_code.specs.declared.reason.Reason.TheVariants.{StackFull}
use Rattle.mx_code.specs.declared.trace.Touch.{Touch}
use Rattle.mx_core.proofs.Results.Locals.{stack-twice, stack-kept}

pub or-false : (b : Bool) → (b || false) ≡ b
or-false true = refl
or-false false = refl

-- special registers that get values leave all else
pub specials-touched : (s : State) (sp : List (ℕ × ℕ)) → (with_specials s sp).touched ≡ s.touched
specials-touched s [] = refl
specials-touched s ((code, x) ∷ more) = specials-touched (with_special s code x) more

pub specials_append : (s : State) (xs ys : List (ℕ × ℕ)) → with_specials s (xs ++ ys) ≡ with_specials (with_specials s xs) ys
specials_append s [] ys = refl
specials_append s ((code, x) ∷ more) ys = specials_append (with_special s code x) more ys

pub same-touched : (t : State) (b : Bool) → t.touched ≡ b → record t { touched = b } ≡ t
same-touched t b e = rw (sym e) refl

-- a result for a register that was made local before
pub result-twice : (s : State) (k a b : ℕ) → with_value_in (with_value_in s k a) k b ≡ with_value_in s k b
result-twice s k a b = ap (λ (x : Stack). record s { stack = x }) (stack-twice s.stack k a b)

unless-cases : (ov : Bool) (done to : State) → done ≡ to → unless_refused (first_reason (reason_where ov StackFull) None) done ≡ unless ov StackFull to
unless-cases true done to e = refl
unless-cases false done to e = ap Ok e

abbrev given_result : ℕ → Option Touch → List (ℕ × ℕ) → ℕ → Effect
given_result v load sp n = record { result = Some v; load = load; store = None; special = sp; move = stays; next = n; trip = None }

done-settled : (s : State) (i : Instruction) (k v n : ℕ) (load : Option Touch) (sp : List (ℕ × ℕ)) →
    record (applied (with_local s k) i k (given_result v load sp n)) { touched = s.touched || false } ≡ onward (with_specials (with_value_in s k v) sp) n
unfolding applied
done-settled s i k v n load sp =
    same-touched (onward (with_specials (with_value_in (with_local s k) k v) sp) n) (s.touched || false) (specials-touched (with_value_in (with_local s k) k v) sp ∙ sym (or-false s.touched))
    ∙ ap (λ (t : State). onward (with_specials t sp) n) (result-twice s k (register s.stack k) v)

-- a result alone, of an operation that is not refused for another reason than the register stack
pub settled-is : (s : State) (i : Instruction) (k v n : ℕ) (load : Option Touch) (sp : List (ℕ × ℕ)) →
    unless_refused (first_reason (reason_where (set_overfills s.stack k) StackFull) None) (record (applied (with_local s k) i k (given_result v load sp n)) { touched = s.touched || false })
    ≡ settled_with s k v sp n
settled-is s i k v n load sp = unless-cases (set_overfills s.stack k) _ _ (done-settled s i k v n load sp)

pub address_outcome : (s : State) (i : Instruction) → outcome s (deed_of op.Address s i) ≡ settled s (x_of i) (near_address i) (next_of i)
unfolding settled effect_of form_fault stack_fault
address_outcome s i = settled-is s i (x_of i) (near_address i) (next_of i) None []

-- OPERANDS, where a register was made local before

pub x_kept : (s : State) (i : Instruction) (k : ℕ) → x_register (with_local s k) i ≡ x_register s i
x_kept s i k = stack-kept s.stack k (x_of i)

pub y_kept : (s : State) (i : Instruction) (k : ℕ) → y_operand (with_local s k) i ≡ y_operand s i
y_kept s i k = ap (given_y i.given) (stack-kept s.stack k (y_of i))

pub z_kept : (s : State) (i : Instruction) (k : ℕ) → z_operand (with_local s k) i ≡ z_operand s i
z_kept s i k = ap (λ z. given_z i.given (if is_immediate (opcode_kind (code_of i)) then z_of i else z)) (stack-kept s.stack k (z_of i))

pub address_kept : (s : State) (i : Instruction) (k : ℕ) → data_address (with_local s k) i ≡ data_address s i
address_kept s i k = ap (λ y. (y + z_operand (with_local s k) i) % 2 ^ 64) (y_kept s i k) ∙ ap (λ z. (y_operand s i + z) % 2 ^ 64) (z_kept s i k)

-- RESULTS ALONE

-- a result, told in the state with the destination local, and in the state before
settled-as : (s : State) (i : Instruction) (k n v w : ℕ) → v ≡ w →
    unless_refused (first_reason (reason_where (set_overfills s.stack k) StackFull) None) (record (applied (with_local s k) i k (given_result v None [] n)) { touched = s.touched || false })
    ≡ settled s k w n
unfolding settled
settled-as s i k n v w e = settled-is s i k v n None [] ∙ ap (λ x. settled_with s k x [] n) e

pub wyde_outcome : (s : State) (i : Instruction) → outcome s (deed_of op.Wyde s i)
    ≡ settled s (x_of i) (wyde (wyde_of (code_of i)).0 (given_y i.given (x_register s i)) (given_z i.given (wyde_value i))) (next_of i)
unfolding effect_of form_fault stack_fault
wyde_outcome s i =
    settled-as s i (x_of i) (next_of i) _ _
    (ap (λ x. wyde (wyde_of (code_of i)).0 (given_y i.given x) (given_z i.given (wyde_value i))) (x_kept s i (x_of i)))

-- what conditional sets give
abbrev pub chosen : State → Instruction → ℕ
chosen s i = if truth (code_of i) (y_operand s i) then z_operand s i else x_register s i

abbrev pub zero_or_set : State → Instruction → ℕ
zero_or_set s i = if truth (code_of i) (y_operand s i) then z_operand s i else 0

chosen-kept : (s : State) (i : Instruction) (k : ℕ) → chosen (with_local s k) i ≡ chosen s i
chosen-kept s i k =
    ap (λ y. if truth (code_of i) y then z_operand (with_local s k) i else x_register (with_local s k) i) (y_kept s i k)
    ∙ ap (λ z. if truth (code_of i) (y_operand s i) then z else x_register (with_local s k) i) (z_kept s i k)
    ∙ ap (λ x. if truth (code_of i) (y_operand s i) then z_operand s i else x) (x_kept s i k)

zero-kept : (s : State) (i : Instruction) (k : ℕ) → zero_or_set (with_local s k) i ≡ zero_or_set s i
zero-kept s i k =
    ap (λ y. if truth (code_of i) y then z_operand (with_local s k) i else 0) (y_kept s i k)
    ∙ ap (λ z. if truth (code_of i) (y_operand s i) then z else 0) (z_kept s i k)

pub conditional_outcome : (s : State) (i : Instruction) → outcome s (deed_of op.ConditionalSet s i) ≡ settled s (x_of i) (chosen s i) (next_of i)
unfolding effect_of form_fault stack_fault
conditional_outcome s i = settled-as s i (x_of i) (next_of i) _ _ (chosen-kept s i (x_of i))

pub zero_outcome : (s : State) (i : Instruction) → outcome s (deed_of op.ZeroOrSet s i) ≡ settled s (x_of i) (zero_or_set s i) (next_of i)
unfolding effect_of form_fault stack_fault
zero_outcome s i = settled-as s i (x_of i) (next_of i) _ _ (zero-kept s i (x_of i))

pub go_outcome : (s : State) (i : Instruction) → outcome s (deed_of op.Go s i) ≡ settled s (x_of i) (next_of i) (data_address s i)
unfolding effect_of form_fault stack_fault settled
go_outcome s i =
    settled-is s i (x_of i) (next_of i) (data_address (with_local s (x_of i)) i) None []
    ∙ ap (λ n. settled_with s (x_of i) (next_of i) [] n) (address_kept s i (x_of i))
