-- Sums, products, quotients, comparisons and shifts: a row for each name.
-- (MMIXware, the part on MMIX: adding, subtracting, multiplying, dividing, comparing and shifting; TAOCP 1, Fascicle
-- 1, section 1.3.1'.)
use Rattle.std.specs.Prelude.{ℕ, ◌+◌, ◌*◌, ◌/◌, ◌%◌, ◌^◌, ◌==◌, ℤ, pos, negsuc, ◌+ℤ◌, ◌-ℤ◌, ◌*ℤ◌, nat_lt, None, Some, if◌then◌else◌}
use Rattle.std.specs.Ordering.{nat_cmp, int_cmp}
use Rattle.std.specs.declared.cmp.Ordering.{Ordering}
use Rattle.std.specs.declared.cmp.Ordering.TheVariants.{Less, Equal, Greater}
use Rattle.mx_word.specs.Words.{signed_value as s}
use Rattle.mx_alu.specs.declared.answer.Answer.{Answer}
use Rattle.mx_alu.specs.declared.answer.Event.TheVariants.{Divide}
use Rattle.mx_alu.specs.declared.names.Arithmetic.{Arithmetic}
use Rattle.mx_alu.specs.declared.names.Arithmetic.TheVariants.{Mul, Mulu, Div, Divu, Add, Addu, Sub, Subu, TwoAddu, FourAddu, EightAddu, SixteenAddu, Cmp, Cmpu, Neg, Negu, Sl, Slu, Sr, Sru}
use Rattle.mx_alu.specs.Answers.{residue_answer, checked_answer, overflow}
use Rattle.mx_alu.specs.Numbers.{octa, floor_by, floor_quotient}

-- -1, 0 or 1 for what a comparison tells
abbrev pub sign : Ordering → ℤ
sign Less = negsuc 0
sign Equal = pos 0
sign Greater = pos 1

-- the quotient q of a by b, with the remainder in rR
abbrev pub quotient_answer : ℤ → ℤ → ℤ → Answer
quotient_answer a b q = record { x = octa q; h = None; r = Some (octa (a -ℤ b *ℤ q)); event = overflow q }

-- DIV: the floor of the signed quotient; by 0 it is 0, and y is the remainder
abbrev pub signed_quotient : ℕ → ℕ → Answer
signed_quotient y z = if z == 0 then record { x = 0; h = None; r = Some y; event = Some Divide } else quotient_answer (s y) (s z) (floor_quotient (s y) (s z))

-- DIVU: the quotient of 2^64 d + y, where it is an octa
abbrev pub long_quotient : ℕ → ℕ → ℕ → Answer
long_quotient d y z = if nat_lt d z then record { x = (2 ^ 64 * d + y) / z; h = None; r = Some ((2 ^ 64 * d + y) % z); event = None } else record { x = d; h = None; r = Some y; event = None }

-- MULU: the low half of the product, with the high half in rH
abbrev pub whole_product : ℕ → ℕ → Answer
whole_product y z = record { x = y * z % 2 ^ 64; h = Some (y * z / 2 ^ 64); r = None; event = None }

-- the names from #18 to #3f: y is $Y, or at NEG and NEGU the byte Y; z is $Z or Z; s is the signed value, and d is rD
abbrev pub arithmetic : Arithmetic → ℕ → ℕ → ℕ → Answer
arithmetic Mul y z d = checked_answer (s y *ℤ s z)
arithmetic Mulu y z d = whole_product y z
arithmetic Div y z d = signed_quotient y z
arithmetic Divu y z d = long_quotient d y z
arithmetic Add y z d = checked_answer (s y +ℤ s z)
arithmetic Addu y z d = residue_answer (pos (y + z))
arithmetic Sub y z d = checked_answer (s y -ℤ s z)
arithmetic Subu y z d = residue_answer (pos y -ℤ pos z)
arithmetic TwoAddu y z d = residue_answer (pos (2 * y + z))
arithmetic FourAddu y z d = residue_answer (pos (4 * y + z))
arithmetic EightAddu y z d = residue_answer (pos (8 * y + z))
arithmetic SixteenAddu y z d = residue_answer (pos (16 * y + z))
arithmetic Cmp y z d = residue_answer (sign (int_cmp (s y) (s z)))
arithmetic Cmpu y z d = residue_answer (sign (nat_cmp y z))
arithmetic Neg y z d = checked_answer (pos y -ℤ s z)
arithmetic Negu y z d = residue_answer (pos y -ℤ pos z)
arithmetic Sl y z d = checked_answer (s y *ℤ pos (2 ^ z))
arithmetic Slu y z d = residue_answer (pos (y * 2 ^ z))
arithmetic Sr y z d = residue_answer (floor_by (s y) (2 ^ z))
arithmetic Sru y z d = residue_answer (pos (y / 2 ^ z))
