-- The rising tables of the code against the tables of the definitions, by computing.
use Rattle.std.proofs.Common.{ℕ, List, map, refl}
use Rattle.mx_ops.proofs.Words.{opcode_rows, opcode_names, pseudo_operations, chosen_operations, operations, special_registers, predefined_names, Op, OPERATIONS}
use Rattle.mx_ops.specs.declared.symbols.TheConstants.{PREDEFINED}
use Rattle.mx_ops.proofs.Search.{Lists}

abbrev pub rising_operations : List (List ℕ × Op)
rising_operations = map (λ e. (e.0.now, e.1)) OPERATIONS

abbrev pub rising_symbols : List (List ℕ × ℕ)
rising_symbols = map (λ e. (e.0.now, e.1)) PREDEFINED

pub symbols-listed : Lists (λ (e : List ℕ × ℕ). e.0) (λ (e : List ℕ × ℕ). e.1) predefined_names rising_symbols
unfolding special_registers predefined_names
symbols-listed = record { rises = refl; agrees = refl; covered = refl }

pub operations-listed : Lists (λ (e : List ℕ × Op). e.0) (λ (e : List ℕ × Op). e.1) operations rising_operations
unfolding opcode_rows opcode_names pseudo_operations chosen_operations operations
operations-listed = record { rises = refl; agrees = refl; covered = refl }
