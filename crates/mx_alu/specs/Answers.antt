-- What instructions give.
-- (MMIXware, the part on MMIX: results, rH and rR, overflow and division by zero; TAOCP 1, Fascicle 1, section
-- 1.3.1'.)
use Rattle.std.specs.Prelude.{ℕ, ℤ, Option, None, Some, if◌then◌else◌}
use Rattle.mx_alu.specs.declared.answer.Answer.{Answer}
use Rattle.mx_alu.specs.declared.answer.Event.{Event}
use Rattle.mx_alu.specs.declared.answer.Event.TheVariants.{Overflow}
use Rattle.mx_alu.specs.Numbers.{octa, is_signed}

-- a result alone
abbrev pub lone_answer : ℕ → Answer
lone_answer x = record { x = x; h = None; r = None; event = None }

-- a whole number as the result, modulo 2^64
abbrev pub residue_answer : ℤ → Answer
residue_answer v = lone_answer (octa v)

-- overflow where a whole number does not lie from -2^63 to 2^63 - 1
abbrev pub overflow : ℤ → Option Event
overflow v = if is_signed v then None else Some Overflow

-- a whole number as the result, with overflow
abbrev pub checked_answer : ℤ → Answer
checked_answer v = record { x = octa v; h = None; r = None; event = overflow v }

-- the result of an answer that is a result alone
abbrev pub value_alone : ℕ → Option ℕ → Option ℕ → Option Event → Option ℕ
value_alone x None None None = Some x
value_alone x h r event = None

abbrev pub lone_value : Answer → Option ℕ
lone_value a = value_alone a.x a.h a.r a.event
