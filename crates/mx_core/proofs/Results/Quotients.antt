-- What MULU, DIV and DIVU give in plain cases.
use Rattle.std.proofs.Common.{◌≡◌, ◌≢◌, ◌<◌, ◌+◌, ◌*◌, ◌/◌, ◌%◌, ◌^◌, ◌==◌, ℕ, nat_lt, true, false, None, Some, refl, ap, ◌∙◌, arith, div-le_self, div-add-mod', mod-lt, mul_comm}
use Rattle.std.specs.Prelude.{pos, ◌-ℤ◌, ◌*ℤ◌}
use Rattle.std.proofs.lemmas.Bool.Decides.{nat_tests}
use Rattle.std.proofs.lemmas.Int.{ints}
use Rattle.mx_word.specs.Words.{signed_value}
use Rattle.mx_alu.specs.declared.answer.Answer.{Answer}
use Rattle.mx_alu.specs.declared.answer.Extra.{Extra}
use Rattle.mx_alu.specs.Alu.{alu}
use Rattle.mx_alu.specs.Arithmetic.{whole_product, signed_quotient, long_quotient}
use Rattle.mx_alu.specs.Names.{arithmetic_names, arithmetic_of}
use Rattle.mx_alu.specs.Numbers.{octa}
use Rattle.mx_ops.specs.Opcodes.{opcode_rows, opcode_names, opcode_name}

pub product-by : (y z : ℕ) (e : Extra) → alu 0x1a y z e ≡ whole_product y z
unfolding alu opcode_rows opcode_names opcode_name arithmetic_names arithmetic_of
product-by y z e = refl

pub product-byte : (y z : ℕ) (e : Extra) → alu 0x1b y z e ≡ whole_product y z
unfolding alu opcode_rows opcode_names opcode_name arithmetic_names arithmetic_of
product-byte y z e = refl

pub signed-by : (y z : ℕ) (e : Extra) → alu 0x1c y z e ≡ signed_quotient y z
unfolding alu opcode_rows opcode_names opcode_name arithmetic_names arithmetic_of
signed-by y z e = refl

pub signed-byte : (y z : ℕ) (e : Extra) → alu 0x1d y z e ≡ signed_quotient y z
unfolding alu opcode_rows opcode_names opcode_name arithmetic_names arithmetic_of
signed-byte y z e = refl

pub long-by : (y z : ℕ) (e : Extra) → alu 0x1e y z e ≡ long_quotient e.d y z
unfolding alu opcode_rows opcode_names opcode_name arithmetic_names arithmetic_of
long-by y z e = refl

pub long-byte : (y z : ℕ) (e : Extra) → alu 0x1f y z e ≡ long_quotient e.d y z
unfolding alu opcode_rows opcode_names opcode_name arithmetic_names arithmetic_of
long-byte y z e = refl

pub ruleset coded = (product-by, product-byte, signed-by, signed-byte, long-by, long-byte)

-- a quotient, with the remainder in rR
abbrev pub divided : ℕ → ℕ → Answer
divided y z = record { x = y / z; h = None; r = Some (y % z); event = None }

pub long-plain : (d y z : ℕ) → z ≢ 0 → d ≡ 0 → divided y z ≡ long_quotient d y z
long-plain d y z some none =
    let more : nat_lt 0 z ≡ true = grind (arith, nat_tests) in
    let whole : 2 ^ 64 * 0 + y ≡ y = omega arith in
    rw (none, more, whole) refl

remainder-is : (y z : ℕ) → pos y -ℤ pos z *ℤ pos (y / z) ≡ pos (y % z)
remainder-is y z = omega (arith, ints, div-add-mod' y z, mul_comm z (y / z))

pub signed-plain : (y z : ℕ) → z ≢ 0 → y < 2 ^ 63 → z < 2 ^ 63 → divided y z ≡ signed_quotient y z
signed-plain y z some l m =
    let n : (z == 0) ≡ false = grind (arith, nat_tests) in
    let a : signed_value y ≡ pos y = grind (arith, nat_tests) in
    let b : signed_value z ≡ pos z = grind (arith, nat_tests) in
    let small : y / z < 2 ^ 63 = omega (arith, div-le_self y z) in
    let fits : nat_lt (y / z) (2 ^ 63) ≡ true = grind (arith, nat_tests) in
    let q : y / z % 2 ^ 64 ≡ y / z = omega (arith, small) in
    let less : y % z < z = mod-lt y (omega (arith, some)) in
    let r : octa (pos y -ℤ pos z *ℤ pos (y / z)) ≡ y % z = ap octa (remainder-is y z) ∙ omega (arith, less, m) in
    rw (n, a, b, fits, q, r) refl

pub ruleset plain = (long-plain, signed-plain)
