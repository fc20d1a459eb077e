-- The names of the codes are found, by computing.
use Rattle.std.proofs.Common.{◌≡◌, ℕ, ◌<◌, map, refl, None, Some}
use Rattle.mx_text.proofs.Words.{range_with_len, opcode_rows, opcode_kinds, opcode_kind, opcode_names, opcode_name, operations, operation_of, pseudo_operations, chosen_operations, Code, lowest_code}
use Rattle.mx_ops.proofs.SecondCodes.{each}

all-found : map (λ code. operation_of (opcode_name code)) (range_with_len 0 256) ≡ map (λ code. Some (Code (lowest_code code))) (range_with_len 0 256)
unfolding operation_of operations opcode_name opcode_names opcode_kind opcode_kinds opcode_rows pseudo_operations chosen_operations
all-found = refl

pub name-found : (code : ℕ) → code < 256 → operation_of (opcode_name code) ≡ Some (Code (lowest_code code))
name-found = each None _ _ all-found

pub ruleset names = (name-found)
