-- The rows of the table, part by part.
use Rattle.std.specs.Prelude.{List, map}
use Rattle.mx_explain.specs.Topics.{Row, row}
use Rattle.mx_operations.specs.declared.numbers.TheConstants.{ARITHMETIC, COMPARISONS}
use Rattle.mx_operations.specs.declared.bits.TheConstants.{BITS, BYTES, WYDES}
use Rattle.mx_operations.specs.declared.choices.TheConstants.{BRANCHES, SETS}
use Rattle.mx_operations.specs.declared.memory.TheConstants.{LOADS, STORES, HINTS}
use Rattle.mx_operations.specs.declared.control.TheConstants.{JUMPS, SYSTEM}
use Rattle.mx_operations.specs.declared.floats.TheConstants.{FLOATS, MORE_FLOATS}

-- instructions on numbers
unfoldable pub arithmetic_rows : List Row
arithmetic_rows = map (λ e. row e.0 e.1.now e.2.now e.3.now e.4.now) ARITHMETIC

-- comparisons, negations, shifts and copies
unfoldable pub comparison_rows : List Row
comparison_rows = map (λ e. row e.0 e.1.now e.2.now e.3.now e.4.now) COMPARISONS

-- instructions on bits
unfoldable pub bit_rows : List Row
bit_rows = map (λ e. row e.0 e.1.now e.2.now e.3.now e.4.now) BITS

-- instructions on bytes and single bits
unfoldable pub byte_rows : List Row
byte_rows = map (λ e. row e.0 e.1.now e.2.now e.3.now e.4.now) BYTES

-- instructions on wydes
unfoldable pub wyde_rows : List Row
wyde_rows = map (λ e. row e.0 e.1.now e.2.now e.3.now e.4.now) WYDES

-- branches
unfoldable pub branch_rows : List Row
branch_rows = map (λ e. row e.0 e.1.now e.2.now e.3.now e.4.now) BRANCHES

-- registers that are set by a condition
unfoldable pub set_rows : List Row
set_rows = map (λ e. row e.0 e.1.now e.2.now e.3.now e.4.now) SETS

-- loads
unfoldable pub load_rows : List Row
load_rows = map (λ e. row e.0 e.1.now e.2.now e.3.now e.4.now) LOADS

-- stores
unfoldable pub store_rows : List Row
store_rows = map (λ e. row e.0 e.1.now e.2.now e.3.now e.4.now) STORES

-- hints to the cache
unfoldable pub hint_rows : List Row
hint_rows = map (λ e. row e.0 e.1.now e.2.now e.3.now e.4.now) HINTS

-- jumps, subroutines and special registers
unfoldable pub jump_rows : List Row
jump_rows = map (λ e. row e.0 e.1.now e.2.now e.3.now e.4.now) JUMPS

-- trips, traps and the state
unfoldable pub system_rows : List Row
system_rows = map (λ e. row e.0 e.1.now e.2.now e.3.now e.4.now) SYSTEM

-- instructions on floating-point numbers
unfoldable pub float_rows : List Row
float_rows = map (λ e. row e.0 e.1.now e.2.now e.3.now e.4.now) FLOATS

-- more instructions on floating-point numbers
unfoldable pub more_float_rows : List Row
more_float_rows = map (λ e. row e.0 e.1.now e.2.now e.3.now e.4.now) MORE_FLOATS
