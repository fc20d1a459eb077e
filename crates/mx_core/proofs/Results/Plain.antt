-- What an instruction comes to does not hang on how its operands are told, once they are told.
use Rattle.std.proofs.Common.{◌≡◌, ℕ, refl, sym, ◌∙◌}
use Rattle.mx_core.specs.Way.Calls.{answer_outcome, store_settled}
use Rattle.mx_core.specs.Deeds.{outcome, deed_of}
use Rattle.mx_core.specs.Effects.{alu_answer, y_operand, z_operand}
use Rattle.mx_code.specs.Instructions.{instruction, operands_given}
use Rattle.mx_code.specs.declared.instruction.Instruction.{Instruction}
use Rattle.mx_core.specs.State.{State}
use Rattle.mx_code.specs.declared.operation.Loading.{Loading}
use Rattle.mx_code.specs.declared.operation.Storing.{Storing}
use Rattle.mx_code.specs.declared.operation.Operation.TheVariants as op
use Rattle.mx_core.proofs.Results.Loads.{load_outcome}

pub answer_plain : (s : State) (i : Instruction) (y z : ℕ) →
    answer_outcome s i y z (alu_answer s i y z) ≡ answer_outcome s (instruction i.at i.word) y z (alu_answer s (instruction i.at i.word) y z)
unfolding answer_outcome
answer_plain s i y z = refl

pub store_as_plain : (s : State) (i : Instruction) (how : Storing) (a x : ℕ) → store_settled s i how a x ≡ store_settled s (instruction i.at i.word) how a x
unfolding store_settled
store_as_plain s i how a x = refl

pub load_given : (how : Loading) (s : State) (i : Instruction) (y z : ℕ) → y ≡ y_operand s i → z ≡ z_operand s i →
    outcome s (deed_of (op.Load how) s i) ≡ outcome s (deed_of (op.Load how) s (operands_given i.at i.word y z))
load_given how s i y z a b =
    rw (a, b) (load_outcome how s i ∙ sym (load_outcome how s (operands_given i.at i.word (y_operand s i) (z_operand s i))))
