-- The whole-number instructions by their codes. The rows are in `Arithmetic`, `Bitwise` and `Wydes`, the names in `Names`.
-- (MMIXware, the part on MMIX: what each instruction does; TAOCP 1, Fascicle 1, section 1.3.1'.)
use Rattle.std.specs.Prelude.{ℕ, ◌*◌, ◌^◌, Bool, ◌&&◌, ◌||◌, nat_lt, nat_le, if◌then◌else◌}
use Rattle.mx_alu.specs.declared.answer.Answer.{Answer}
use Rattle.mx_alu.specs.declared.answer.Extra.{Extra}
use Rattle.mx_alu.specs.declared.names.Wyde.{Wyde}
use Rattle.mx_alu.specs.Arithmetic.{arithmetic}
use Rattle.mx_alu.specs.Answers.{lone_answer}
use Rattle.mx_alu.specs.Bitwise.{bitwise}
use Rattle.mx_alu.specs.Names.{arithmetic_of, bitwise_of, wyde_of}
use Rattle.mx_alu.specs.Wydes.{wyde}

-- from #18 to #3f and from #c0 to #ef
abbrev pub is_alu : ℕ → Bool
is_alu code = (nat_le 0x18 code && nat_le code 0x3f) || (nat_le 0xc0 code && nat_le code 0xef)

-- an immediate wyde with the place of its lowest bit
abbrev pub wyde_at : Wyde × ℕ → ℕ → ℕ → ℕ
wyde_at (name, place) x z = wyde name x (z * 2 ^ place)

-- What a code gives: y and z are $Y and $Z or Z; at NEG and NEGU y is the byte Y; at a wyde y is the old $X
-- and z is YZ.
unfoldable pub alu : ℕ → ℕ → ℕ → Extra → Answer
alu code y z e =
    if nat_lt code 0xc0 then arithmetic (arithmetic_of code) y z e.d
    else if nat_lt code 0xe0 then lone_answer (bitwise (bitwise_of code) y z e.m)
    else lone_answer (wyde_at (wyde_of code) y z)
