-- What instructions on whole numbers give is below 2^64.
use Rattle.std.proofs.Common.{ℕ, zero, suc, ◌+◌, ◌-◌, ◌*◌, ◌/◌, ◌%◌, ◌^◌, ◌≤◌, ◌<◌, ◌==◌, ℤ, pos, negsuc, nat_lt, bit_or, bit_xor, bytes_eq, Bool, Option, None, Some, List, [], ◌∷◌, arith}
use Rattle.std.specs.Option.{unwrap_or}
use Rattle.std.specs.List.{AllByRecursion}
use Rattle.std.proofs.lemmas.Bool.Decides.{nat_tests}
use Rattle.std.proofs.lemmas.Nat.{or_lt, xor_lt, mul-lt, pow_pos}
use Rattle.std.proofs.Math.Nat.{mod-lt, div-lt_iff_lt-mul}
use Rattle.mx_alu.proofs.Fields.{fields-below}
use Rattle.mx_alu.specs.Alu.{alu, wyde_at}
use Rattle.mx_alu.specs.Answers.{lone_answer, residue_answer, checked_answer}
use Rattle.mx_alu.specs.Arithmetic.{arithmetic, signed_quotient, long_quotient, whole_product}
use Rattle.mx_alu.specs.Bitwise.{bitwise, matrix}
use Rattle.mx_alu.specs.Names.{arithmetic_of, arithmetic_names, bitwise_of, bitwise_names, wyde_of, wyde_names, wyde_fronts, wyde_ends}
use Rattle.mx_ops.specs.Opcodes.{opcode_name}
use Rattle.mx_ops.specs.Tables.{first_of}
use Rattle.mx_alu.specs.Numbers.{octa, bit, field, fields, of_bits, count_of, combination}
use Rattle.mx_alu.specs.Wydes.{wyde}
use Rattle.mx_alu.specs.declared.answer.Answer.{Answer}
use Rattle.mx_alu.specs.declared.answer.Extra.{Extra}
use Rattle.mx_core.proofs.Choices.{chosen, chosen-by}

-- where there is a number, it is an octa
abbrev pub IsOctaIf : Option ℕ → Type 0
IsOctaIf None = Unit {0}
IsOctaIf (Some x) = x < 2 ^ 64

pub record GivesOctas (a : Answer) : Type 0 where
  pub x : a.x < 2 ^ 64
  pub h : IsOctaIf a.h
  pub r : IsOctaIf a.r

octa-below : (v : ℤ) → octa v < 2 ^ 64
octa-below (pos n) = omega arith
octa-below (negsuc n) = omega arith

-- a quotient by more than its high half is an octa
quotient-below : (d y z : ℕ) → d < z → y < 2 ^ 64 → (2 ^ 64 * d + y) / z < 2 ^ 64
quotient-below d y z f g = (div-lt_iff_lt-mul (omega arith)).1 (omega arith)

remainder-below : (a z : ℕ) → 0 < z → z < 2 ^ 64 → a % z < 2 ^ 64
remainder-below a z f g = let e : a % z < z = mod-lt a f in omega arith

high-below : (y z : ℕ) → y < 2 ^ 64 → z < 2 ^ 64 → y * z / 2 ^ 64 < 2 ^ 64
high-below y z f g = let e : y * z < 2 ^ 64 * 2 ^ 64 = mul-lt y z (2 ^ 64) (2 ^ 64) f g in omega arith

long-octas : (d y z : ℕ) → d < 2 ^ 64 → y < 2 ^ 64 → z < 2 ^ 64 → GivesOctas (long_quotient d y z)
long-octas d y z f g h =
    chosen-by GivesOctas (nat_lt d z) _ _ (λ t. let l : d < z = grind (arith, nat_tests) in record { x = quotient-below d y z l g; h = tt; r = remainder-below (2 ^ 64 * d + y) z (omega arith) h }) (λ t. record { x = f; h = tt; r = g })

signed-octas : (y z : ℕ) → y < 2 ^ 64 → GivesOctas (signed_quotient y z)
signed-octas y z f = chosen GivesOctas (z == 0) _ _ (record { x = omega arith; h = tt; r = f }) (record { x = octa-below _; h = tt; r = octa-below _ })

residue-octas : (v : ℤ) → GivesOctas (residue_answer v)
residue-octas v = record { x = octa-below v; h = tt; r = tt }

checked-octas : (v : ℤ) → GivesOctas (checked_answer v)
checked-octas v = record { x = octa-below v; h = tt; r = tt }

product-octas : (y z : ℕ) → y < 2 ^ 64 → z < 2 ^ 64 → GivesOctas (whole_product y z)
product-octas y z f g = record { x = omega arith; h = high-below y z f g; r = tt }

-- what holds of each row of a table holds of the row with a name
table-holds : {X : Type 0} (Q : X → Type 0) (name : List ℕ) (rows : List (List ℕ × X)) (d : X) → AllByRecursion (λ r. Q r.1) rows → Q d → Q (unwrap_or (first_of name rows) d)
table-holds {X = X} Q name [] d h e = e
table-holds {X = X} Q name (row ∷ rows) d h e = chosen (λ (o : Option X). Q (unwrap_or o d)) (bytes_eq row.0 name) _ _ h.0 (table-holds {X = X} Q name rows d h.1 e)

arithmetic-octas : (code y z d : ℕ) → y < 2 ^ 64 → z < 2 ^ 64 → d < 2 ^ 64 → GivesOctas (arithmetic (arithmetic_of code) y z d)
unfolding arithmetic_of arithmetic_names
arithmetic-octas code y z d f g h =
    table-holds (λ name. GivesOctas (arithmetic name y z d)) (opcode_name code) arithmetic_names _
    (checked-octas _, (product-octas y z f g, (signed-octas y z f, (long-octas d y z h f g, (checked-octas _, (residue-octas (pos (y + z)), (checked-octas _, (residue-octas _, (residue-octas (pos (2 * y + z)), (residue-octas (pos (4 * y + z)), (residue-octas (pos (8 * y + z)), (residue-octas (pos (16 * y + z)), (residue-octas _, (residue-octas _, (checked-octas _, (residue-octas _, (checked-octas _, (residue-octas (pos (y * 2 ^ z)), (residue-octas _, (residue-octas (pos (y / 2 ^ z)), tt))))))))))))))))))))
    (checked-octas _)

-- LOGIC

bits-below : (f : ℕ → Bool) → of_bits f < 2 ^ 64
bits-below f = fields-below 1 64 _ (λ i. chosen (λ n. n < 2 ^ 1) (f i) 1 0 (omega arith) (omega arith))

field-below : (w x i : ℕ) → field w x i < 2 ^ w
field-below w x i = mod-lt (x / 2 ^ (w * i)) (pow_pos w)

differences-below : (w y z : ℕ) → fields w (64 / w) (λ i. field w y i - field w z i) < 2 ^ (w * (64 / w))
differences-below w y z = fields-below w (64 / w) _ (λ i. let e : field w y i < 2 ^ w = field-below w y i in omega arith)

count-below : (n : ℕ) (f : ℕ → Bool) → count_of n f ≤ n
unfolding count_of
count-below zero f = omega arith
count-below (suc n) f = let e : count_of n f ≤ n = count-below n f in chosen (λ m. m + count_of n f ≤ suc n) (f n) 1 0 (omega arith) (omega arith)

sum-below : (f : ℕ → Bool) → count_of 64 f < 2 ^ 64
sum-below f = let e : count_of 64 f ≤ 64 = count-below 64 f in omega arith

join-below : (join : ℕ → ℕ → ℕ) (n : ℕ) (f : ℕ → ℕ) → ((a b : ℕ) → a < 2 ^ 8 → b < 2 ^ 8 → join a b < 2 ^ 8) → ((i : ℕ) → f i < 2 ^ 8) → combination join n f < 2 ^ 8
unfolding combination
join-below join zero f j h = omega arith
join-below join (suc n) f j h = j (combination join n f) (f n) (join-below join n f j h) (h n)

matrix-below : (join : ℕ → ℕ → ℕ) (y z : ℕ) → ((a b : ℕ) → a < 2 ^ 8 → b < 2 ^ 8 → join a b < 2 ^ 8) → matrix join y z < 2 ^ 64
matrix-below join y z j = fields-below 8 8 _ (λ i. join-below join 8 _ j (λ k. chosen (λ n. n < 2 ^ 8) (bit z (8 * i + k)) (field 8 y k) 0 (field-below 8 y k) (omega arith)))

bitwise-octas : (code y z m : ℕ) → y < 2 ^ 64 → bitwise (bitwise_of code) y z m < 2 ^ 64
unfolding bitwise_of bitwise_names
bitwise-octas code y z m f = table-holds (λ name. bitwise name y z m < 2 ^ 64) (opcode_name code) bitwise_names _
    (bits-below _, (bits-below _, (bits-below _, (bits-below _, (bits-below _, (bits-below _, (bits-below _, (bits-below _, (differences-below 8 y z, (differences-below 16 y z, (differences-below 32 y z, (omega arith, (bits-below _, (sum-below _, (matrix-below bit_or y z (λ a b g h. or_lt 8 a b g h), (matrix-below bit_xor y z (λ a b g h. xor_lt 8 a b g h), tt))))))))))))))))
    (bits-below _)

pub wyde-octas : (code x v : ℕ) → wyde (wyde_of code).0 x v < 2 ^ 64
unfolding wyde_of wyde_names wyde_fronts wyde_ends
wyde-octas code x v =
    table-holds (λ w. wyde w.0 x v < 2 ^ 64) (opcode_name code) wyde_names _
    (omega arith, (omega arith, (omega arith, (omega arith, (omega arith, (omega arith, (omega arith, (omega arith, (bits-below _, (bits-below _, (bits-below _, (bits-below _, (bits-below _, (bits-below _, (bits-below _, (bits-below _, tt))))))))))))))))
    (omega arith)

at-octas : (code y z : ℕ) → wyde_at (wyde_of code) y z < 2 ^ 64
unfolding wyde_of wyde_names wyde_fronts wyde_ends
at-octas code y z = table-holds (λ w. wyde_at w y z < 2 ^ 64) (opcode_name code) wyde_names _
    (omega arith, (omega arith, (omega arith, (omega arith, (omega arith, (omega arith, (omega arith, (omega arith, (bits-below _, (bits-below _, (bits-below _, (bits-below _, (bits-below _, (bits-below _, (bits-below _, (bits-below _, tt))))))))))))))))
    (omega arith)

lone-octas : (x : ℕ) → x < 2 ^ 64 → GivesOctas (lone_answer x)
lone-octas x f = record { x = f; h = tt; r = tt }

pub alu-octas : (code y z : ℕ) (e : Extra) → y < 2 ^ 64 → z < 2 ^ 64 → e.d < 2 ^ 64 → GivesOctas (alu code y z e)
unfolding alu
alu-octas code y z e f g h =
    chosen GivesOctas (nat_lt code 0xc0) _ _ (arithmetic-octas code y z e.d f g h) (chosen GivesOctas (nat_lt code 0xe0) _ _ (lone-octas _ (bitwise-octas code y z e.m f)) (lone-octas _ (at-octas code y z)))
