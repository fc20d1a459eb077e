-- What RESUME 0 comes to.
use Rattle.std.proofs.Common.{◌≡◌, ℕ, ◌==◌, false, not, Ok, refl, ap, length, arith}
use Rattle.std.proofs.lemmas.Bool.Decides.{nat_tests}
use Rattle.mx_ring.specs.Stack.{Stack, visible, set_overfills}
use Rattle.mx_registers.specs.Registers as registers
use Rattle.mx_code.specs.SpecialRegisters.{rW, rX, rZ}
use Rattle.mx_alu.specs.Insertions.{insertion, is_marginal}
use Rattle.mx_alu.specs.declared.insertion.Insert.{Insert}
use Rattle.mx_alu.specs.declared.insertion.Insert.TheVariants as insert
use Rattle.mx_alu.specs.declared.insertion.Kind.TheVariants.{Set}
use Rattle.mx_core.specs.Deeds.{applied, onward, outcome, resumed, inserted, performed}
use Rattle.mx_code.specs.Instructions.{instruction, x_of, xyz_of, next_of}
use Rattle.mx_code.specs.declared.instruction.Instruction.{Instruction}
use Rattle.mx_core.specs.State.{State, special_register, with_value_in, global_start, locals}
use Rattle.mx_core.proofs.Results.Others.{unseen}

abbrev pub insertion_in : State → Insert
insertion_in s = insertion (special_register s rX) (special_register s rW) (locals s) (global_start s)

pub resume_as : (s : State) (i : Instruction) (xyz : ℕ) (t : Insert) → xyz ≡ xyz_of i → xyz ≡ 0 → t ≡ insertion_in s → outcome s (resumed s i) ≡ outcome s (inserted s i t)
resume_as s i xyz t e z f =
    let form : not (xyz_of i == 0) ≡ false = grind (arith, nat_tests) in
    rw (form, f) refl

pub back_done : (s : State) (i : Instruction) (a : ℕ) → outcome s (inserted s i (insert.Back a)) ≡ Ok (onward s a)
unfolding applied
back_done s i a = ap Ok (unseen s (onward s a) refl)

pub set_done : (s : State) (at word : ℕ) → outcome s (performed Set s at word) ≡ Ok (onward (with_value_in s (x_of (instruction at word)) (special_register s rZ)) (next_of (instruction at word)))
unfolding applied
set_done s at word = ap Ok (unseen s (onward (with_value_in s (x_of (instruction at word)) (special_register s rZ)) (next_of (instruction at word))) refl)

-- a register that is local or global takes any value
pub shown_fits : (s : Stack) (k : ℕ) → is_marginal k (length (visible s).locals) (visible s).first_global ≡ false → set_overfills s k ≡ false
unfolding set_overfills
shown_fits s k e =
    let other : registers.is_marginal (visible s) k ≡ false = grind (arith, nat_tests) in
    rw other refl
