-- Immediate wydes: a row for each name.
-- (MMIXware, the part on MMIX: immediate constants; TAOCP 1, Fascicle 1, section 1.3.1'.)
use Rattle.std.specs.Prelude.{ℕ, ◌+◌, ◌%◌, ◌^◌, ◌&&◌, ◌||◌, not}
use Rattle.mx_alu.specs.declared.names.Wyde.{Wyde}
use Rattle.mx_alu.specs.declared.names.Wyde.TheVariants.{Set, Inc, OrIn, AndNot}
use Rattle.mx_alu.specs.Bitwise.{each_bit}

-- SET, INC, OR and ANDN, with H, MH, ML or L: x is the old $X, and v is YZ at the place that the letter means
abbrev pub wyde : Wyde → ℕ → ℕ → ℕ
wyde Set x v = v % 2 ^ 64
wyde Inc x v = (x + v) % 2 ^ 64
wyde OrIn x v = each_bit (λ b c. b || c) x v
wyde AndNot x v = each_bit (λ b c. b && not c) x v
