-- The conditions of the branches.
-- (MMIXware, the part on MMIX: conditional instructions; TAOCP 1, Fascicle 1, section 1.3.1'.)
use Rattle.std.specs.Prelude.{ℕ, ◌%◌, ℤ, pos, Bool, not, ◌==◌, int_lt, unsigned_abs}
use Rattle.mx_word.specs.Words.{signed_value}
use Rattle.mx_alu.specs.declared.names.Condition.{Condition}
use Rattle.mx_alu.specs.Names.{condition_of}
use Rattle.mx_alu.specs.declared.names.Condition.TheVariants.{Negative, Zero, Positive, Odd, NotNegative, NotZero, NotPositive, Even}

-- whether a whole number is so
abbrev pub holds : Condition → ℤ → Bool
holds Negative v = int_lt v (pos 0)
holds Zero v = unsigned_abs v == 0
holds Positive v = int_lt (pos 0) v
holds Odd v = unsigned_abs v % 2 == 1
holds NotNegative v = not (int_lt v (pos 0))
holds NotZero v = not (unsigned_abs v == 0)
holds NotPositive v = not (int_lt (pos 0) v)
holds Even v = not (unsigned_abs v % 2 == 1)

-- whether the condition that a code from #40 to #7f has in its name holds of the signed value of an octa
unfoldable pub truth : ℕ → ℕ → Bool
truth code x = holds (condition_of code) (signed_value x)
