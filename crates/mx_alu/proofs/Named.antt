-- The tables of the code, in the order of the codes, against the names in the table of codes, by computing.
use Rattle.std.proofs.Common.{◌≡◌, ◌<◌, ◌≤◌, ℕ, ◌+◌, ◌-◌, ◌*◌, ◌/◌, ◌%◌, map, get_or, refl, sym, ◌∙◌, ap, arith}
use Rattle.std.specs.List.{range_with_len}
use Rattle.std.proofs.lemmas.List.FromFn.{get_or-map-range_with_len}
use Rattle.mx_ops.specs.Opcodes.{opcode_rows, opcode_names, opcode_name}
use Rattle.mx_alu.proofs.Words.{ARITHMETIC, BITWISE, WYDES, CONDITIONS, Mul, Or, Set, Negative}
use Rattle.mx_alu.specs.Names.{arithmetic_names, arithmetic_of, bitwise_names, bitwise_of, wyde_fronts, wyde_ends, wyde_names, wyde_of, condition_ends, condition_names, condition_of}

-- two functions that agree from a first number on, for this many
agree : {A : Type 0} (f g : ℕ → A) (first count k : ℕ) → map f (range_with_len first count) ≡ map g (range_with_len first count) → first ≤ k → k < first + count → f k ≡ g k
agree f g first count k same low high =
    sym (get_or-map-range_with_len f first count (k - first) k (f k) (omega arith) (omega arith))
    ∙ ap (λ l. get_or l (k - first) (f k)) same
    ∙ get_or-map-range_with_len g first count (k - first) k (f k) (omega arith) (omega arith)

pub arithmetic-at : (code : ℕ) → 0x18 ≤ code → code ≤ 0x3f → get_or ARITHMETIC ((code - 0x18) / 2) Mul ≡ arithmetic_of code
unfolding opcode_rows opcode_names opcode_name arithmetic_names arithmetic_of
arithmetic-at code low high = agree (λ k. get_or ARITHMETIC ((k - 0x18) / 2) Mul) arithmetic_of 0x18 0x28 code refl low (omega arith)

pub bitwise-at : (code : ℕ) → 0xc0 ≤ code → code ≤ 0xdf → get_or BITWISE ((code - 0xc0) / 2) Or ≡ bitwise_of code
unfolding opcode_rows opcode_names opcode_name bitwise_names bitwise_of
bitwise-at code low high = agree (λ k. get_or BITWISE ((k - 0xc0) / 2) Or) bitwise_of 0xc0 0x20 code refl low (omega arith)

pub wyde-at : (code : ℕ) → 0xe0 ≤ code → code ≤ 0xef → (get_or WYDES ((code - 0xe0) / 4) Set, 48 - 16 * (code % 4)) ≡ wyde_of code
unfolding opcode_rows opcode_names opcode_name wyde_fronts wyde_ends wyde_names wyde_of
wyde-at code low high = agree (λ k. (get_or WYDES ((k - 0xe0) / 4) Set, 48 - 16 * (k % 4))) wyde_of 0xe0 0x10 code refl low (omega arith)

pub condition-at : (code : ℕ) → 0x40 ≤ code → code ≤ 0x7f → get_or CONDITIONS (code / 2 % 8) Negative ≡ condition_of code
unfolding opcode_rows opcode_names opcode_name condition_ends condition_names condition_of
condition-at code low high = agree (λ k. get_or CONDITIONS (k / 2 % 8) Negative) condition_of 0x40 0x40 code refl low (omega arith)
