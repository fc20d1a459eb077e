-- The tables of the code, in the order of the codes, against the names in the table of codes, by computing.
use Rattle.std.proofs.Common.{◌≡◌, ◌<◌, ◌≤◌, ℕ, ◌-◌, ◌*◌, ◌%◌, ◌^◌, zero, suc, Bool, true, false, ◌&&◌, nat_le, nat_lt, map, get_or, refl, sym, ◌∙◌, ap, arith}
use Rattle.std.proofs.lemmas.Bool.Decides.{nat_tests}
use Rattle.std.specs.List.{range_with_len}
use Rattle.std.proofs.lemmas.List.FromFn.{get_or-map-range_with_len}
use Rattle.std.proofs.lemmas.Bool.{and_parts}
use Rattle.mx_ops.specs.Opcodes.{opcode_rows, opcode_names, opcode_name}
use Rattle.std.proofs.Math.Nat.{mod-eq_of_lt}
use Rattle.mx_alu.specs.Alu.{is_alu}
use Rattle.mx_alu.specs.Names.{wyde_of}
use Rattle.mx_alu.proofs.Named.{wyde-at}
use Rattle.mx_code.specs.Operations.{load_names, store_names, operation_names, operation_of, has_condition}
use Rattle.mx_code.specs.declared.codes.TheConstants.{OPERATIONS}
use Rattle.mx_code.specs.declared.operation.Operation.{Operation}
use Rattle.mx_code.specs.declared.operation.Operation.TheVariants as op

-- two functions that agree on the numbers below this many
agree : {A : Type 0} (f g : ℕ → A) (count k : ℕ) → map f (range_with_len 0 count) ≡ map g (range_with_len 0 count) → k < count → f k ≡ g k
agree f g count k same below =
    sym (get_or-map-range_with_len f 0 count k k (f k) (omega arith) (omega arith))
    ∙ ap (λ l. get_or l k (f k)) same
    ∙ get_or-map-range_with_len g 0 count k k (f k) (omega arith) (omega arith)

pub operation-at : (code : ℕ) → code < 256 → get_or OPERATIONS code op.Trap ≡ operation_of code
unfolding opcode_rows opcode_names opcode_name load_names store_names operation_names operation_of
operation-at code below = agree (λ k. get_or OPERATIONS k op.Trap) operation_of 256 code refl below

-- the codes that an operation may have
is_among : Operation → ℕ → Bool
is_among op.Compute code = is_alu code && nat_lt code 0xe0
is_among op.Negate code = is_alu code && nat_lt code 0xe0
is_among op.Wyde code = nat_le 0xe0 code && nat_le code 0xef
is_among op.Branch code = nat_le 0x40 code && nat_le code 0x7f
is_among op.ConditionalSet code = nat_le 0x40 code && nat_le code 0x7f
is_among op.ZeroOrSet code = nat_le 0x40 code && nat_le code 0x7f
is_among operation code = true

among : (code : ℕ) → code < 256 → is_among (operation_of code) code ≡ true
unfolding opcode_rows opcode_names opcode_name load_names store_names operation_names operation_of is_among
among code below = agree (λ k. is_among (operation_of k) k) (λ k. true) 256 code refl below

both-tests : (code : ℕ) → (is_alu code && nat_lt code 0xe0) ≡ true → (is_alu code ≡ true) × (code < 0xe0)
both-tests code e = let parts = and_parts _ _ e in (parts.0, grind (arith, nat_tests))

abbrev compute-bounds : (code : ℕ) → code < 256 → operation_of code ≡ op.Compute → (is_alu code ≡ true) × (code < 0xe0)
unfolding is_among
compute-bounds code below e = both-tests code (sym (ap (λ o. is_among o code) e) ∙ among code below)

pub computes : (code : ℕ) → code < 256 → operation_of code ≡ op.Compute → is_alu code ≡ true
computes code below e = (compute-bounds code below e).0

pub computes_low : (code : ℕ) → code < 256 → operation_of code ≡ op.Compute → code < 0xe0
computes_low code below e = (compute-bounds code below e).1

abbrev negate-bounds : (code : ℕ) → code < 256 → operation_of code ≡ op.Negate → (is_alu code ≡ true) × (code < 0xe0)
unfolding is_among
negate-bounds code below e = both-tests code (sym (ap (λ o. is_among o code) e) ∙ among code below)

pub negates : (code : ℕ) → code < 256 → operation_of code ≡ op.Negate → is_alu code ≡ true
negates code below e = (negate-bounds code below e).0

pub negates_low : (code : ℕ) → code < 256 → operation_of code ≡ op.Negate → code < 0xe0
negates_low code below e = (negate-bounds code below e).1

-- the tests apart
both-bounds : (low high code : ℕ) → (nat_le low code && nat_le code high) ≡ true → (low ≤ code) × (code ≤ high)
both-bounds low high code e = (grind (arith, nat_tests), grind (arith, nat_tests))

abbrev wyde-bounds : (code : ℕ) → code < 256 → operation_of code ≡ op.Wyde → (0xe0 ≤ code) × (code ≤ 0xef)
unfolding is_among
wyde-bounds code below e = both-bounds 0xe0 0xef code (sym (ap (λ o. is_among o code) e) ∙ among code below)

pub wyde_low : (code : ℕ) → code < 256 → operation_of code ≡ op.Wyde → 0xe0 ≤ code
wyde_low code below e = (wyde-bounds code below e).0

pub wyde_high : (code : ℕ) → code < 256 → operation_of code ≡ op.Wyde → code ≤ 0xef
wyde_high code below e = (wyde-bounds code below e).1

among-conditions : (o : Operation) (code : ℕ) → has_condition o ≡ true → is_among o code ≡ true → (nat_le 0x40 code && nat_le code 0x7f) ≡ true
unfolding is_among has_condition
among-conditions op.Branch code e a = a
among-conditions op.ConditionalSet code e a = a
among-conditions op.ZeroOrSet code e a = a
among-conditions o code e a = absurd (cc)

abbrev condition-bounds : (code : ℕ) → code < 256 → has_condition (operation_of code) ≡ true → (0x40 ≤ code) × (code ≤ 0x7f)
condition-bounds code below e = both-bounds 0x40 0x7f code (among-conditions (operation_of code) code e (among code below))

pub condition_low : (code : ℕ) → code < 256 → has_condition (operation_of code) ≡ true → 0x40 ≤ code
condition_low code below e = (condition-bounds code below e).0

pub condition_high : (code : ℕ) → code < 256 → has_condition (operation_of code) ≡ true → code ≤ 0x7f
condition_high code below e = (condition-bounds code below e).1

-- the place of an immediate wyde
pub wyde-place : (code : ℕ) → 0xe0 ≤ code → code ≤ 0xef → (wyde_of code).1 ≡ 48 - 16 * (code % 4)
wyde-place code low high = sym (ap (λ w. w.1) (wyde-at code low high))

pub place-fits : (yz r : ℕ) → yz < 2 ^ 16 → r < 4 → yz * 2 ^ (48 - 16 * r) % 2 ^ 64 ≡ yz * 2 ^ (48 - 16 * r)
place-fits yz zero f l = mod-eq_of_lt (omega arith)
place-fits yz (suc zero) f l = mod-eq_of_lt (omega arith)
place-fits yz (suc (suc zero)) f l = mod-eq_of_lt (omega arith)
place-fits yz (suc (suc (suc zero))) f l = mod-eq_of_lt (omega arith)
place-fits yz (suc (suc (suc (suc r)))) f l = absurd (omega arith)
