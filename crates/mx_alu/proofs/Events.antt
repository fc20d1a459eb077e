-- Events in rA, and names and symbols by computing.
use Rattle.std.proofs.Common.{◌≡◌, ℕ, ◌<◌, ◌^◌, Some, refl, arith, bit_or, codes}
use Rattle.std.proofs.lemmas.Nat.{or_lt}
use Rattle.mx_alu.specs.declared.answer.Event.{Event}
use Rattle.mx_alu.specs.declared.answer.Event.TheVariants.{Divide, Overflow}
use Rattle.mx_ops.specs.Opcodes.{opcode_rows, opcode_names, opcode_name}
use Rattle.mx_ops.specs.Predefined.{special_registers, predefined_names, predefined_value}
use Rattle.mx_alu.specs.Insertions.{trap_code, resume_code}
use Rattle.mx_alu.specs.Trips.{event_bit, handler}

pub noted_below : (ra : ℕ) (event : Event) → ra < 2 ^ 18 → bit_or ra (event_bit event) < 2 ^ 18
noted_below ra Divide l = or_lt 18 ra 0x80 l (omega arith)
noted_below ra Overflow l = or_lt 18 ra 0x40 l (omega arith)

pub trap_named : opcode_name trap_code ≡ codes "TRAP"
unfolding opcode_rows opcode_names opcode_name
trap_named = refl

pub resume_named : opcode_name resume_code ≡ codes "RESUME"
unfolding opcode_rows opcode_names opcode_name
resume_named = refl

pub d_bit : predefined_value (codes ":D_BIT") ≡ Some (event_bit Divide)
unfolding special_registers predefined_names predefined_value
d_bit = refl

pub v_bit : predefined_value (codes ":V_BIT") ≡ Some (event_bit Overflow)
unfolding special_registers predefined_names predefined_value
v_bit = refl

pub d_handler : predefined_value (codes ":D_Handler") ≡ Some (handler Divide)
unfolding special_registers predefined_names predefined_value
d_handler = refl

pub v_handler : predefined_value (codes ":V_Handler") ≡ Some (handler Overflow)
unfolding special_registers predefined_names predefined_value
v_handler = refl

pub ruleset names = (trap_named, resume_named)

pub ruleset symbols = (d_bit, v_bit, d_handler, v_handler)
