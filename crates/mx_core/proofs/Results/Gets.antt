-- What GET comes to where its special register has a code below 8.
use Rattle.std.proofs.Common.{◌≡◌, ◌≤◌, ◌==◌, ◌||◌, nat_lt, not, ℕ, false, slice_index, refl, sym, ap, ◌∙◌, arith}
use Rattle.std.proofs.lemmas.Bool.Decides.{nat_tests}
use Rattle.mx_ring.specs.Stack.{register, set_overfills}
use Rattle.mx_code.specs.SpecialRegisters.{rC, rO, rS, rG, rL}
use Rattle.mx_core.specs.Way.Calls.{unless, settled, get_done}
use Rattle.mx_core.specs.Deeds.{onward, outcome, deed_of}
use Rattle.mx_code.specs.Instructions.{x_of, y_of, z_of, next_of}
use Rattle.mx_code.specs.declared.instruction.Instruction.{Instruction}
use Rattle.mx_core.specs.State.{State, special_register, with_local, with_value_in}
use Rattle.mx_code.specs.declared.operation.Operation.TheVariants as op
use Rattle.mx_code.specs.declared.reason.Reason.TheVariants.{StackFull}
use Rattle.mx_core.proofs.Results.Others.{get_outcome_is}
use Rattle.mx_core.proofs.Results.Outcomes.{or-false, same-touched, result-twice}

apart : (z n : ℕ) → z ≤ 7 → 8 ≤ n → (z == n) ≡ false
apart z n l h = grind (arith, nat_tests)

-- a register that is kept by itself
kept-alone : (s : State) (z : ℕ) → z ≤ 7 → special_register s z ≡ slice_index s.special z
unfolding special_register
kept-alone s z l =
    rw (apart z rC l (omega arith), apart z rO l (omega arith), apart z rS l (omega arith), apart z rG l (omega arith), apart z rL l (omega arith)) refl

-- the destination is local first, which changes no register that is kept by itself
done-alone : (s : State) (i : Instruction) → z_of i ≤ 7 →
    record (get_done (with_local s (x_of i)) i) { touched = s.touched || z_of i == rS } ≡ onward (with_value_in s (x_of i) (slice_index s.special (z_of i))) (next_of i)
done-alone s i l =
    let k = x_of i in
    ap (λ v. record (onward (with_value_in (with_local s k) k v) (next_of i)) { touched = s.touched || z_of i == rS }) (kept-alone (with_local s k) (z_of i) l)
    ∙ ap (λ b. record (onward (with_value_in (with_local s k) k (slice_index s.special (z_of i))) (next_of i)) { touched = s.touched || b }) (apart (z_of i) rS l (omega arith))
    ∙ same-touched (onward (with_value_in (with_local s k) k (slice_index s.special (z_of i))) (next_of i)) (s.touched || false) (sym (or-false s.touched))
    ∙ ap (λ (t : State). onward t (next_of i)) (result-twice s k (register s.stack k) (slice_index s.special (z_of i)))

pub get_alone : (s : State) (i : Instruction) → y_of i ≡ 0 → z_of i ≤ 7 → outcome s (deed_of op.Get s i) ≡ settled s (x_of i) (slice_index s.special (z_of i)) (next_of i)
unfolding settled
get_alone s i y l =
    let form : (not (y_of i == 0) || nat_lt 31 (z_of i)) ≡ false = grind (arith, nat_tests) in
    get_outcome_is s i ∙ rw form (ap (λ (t : State). unless (set_overfills s.stack (x_of i)) StackFull t) (done-alone s i l))
