-- What PUT gives a special register, and where it is refused.
-- (MMIXware, the part on MMIX, "Special registers": PUT; TAOCP 1, Fascicle 1, section 1.3.1'.)
use Rattle.std.specs.Prelude.{ℕ, Bool, not, ◌&&◌, ◌||◌, ◌==◌, nat_le, nat_lt, min, if◌then◌else◌}
use Rattle.mx_code.specs.SpecialRegisters.{rC, rN, rS, rI, rV, rG, rL, rA}
use Rattle.mx_code.specs.declared.put.Put.{Put}
use Rattle.mx_code.specs.declared.put.Put.TheVariants.{Store, Illegal, Privileged}

-- rN, rO and rS, which no PUT changes
abbrev pub is_unchangeable : ℕ → Bool
is_unchangeable code = nat_le rN code && nat_le code rS

-- rC, and rI to rV, which belong to the operating system
abbrev pub is_privileged : ℕ → Bool
is_privileged code = code == rC || (nat_le rI code && nat_le code rV)

-- a global threshold is from 32 to 255, and not below rL
abbrev pub is_global_threshold : ℕ → ℕ → Bool
is_global_threshold value l = nat_le 32 value && nat_le value 255 && nat_le l value

-- values that a register does not take: rA has 18 bits, and rG is a global threshold
abbrev pub is_out_of_range : ℕ → ℕ → ℕ → Bool
is_out_of_range code value l =
    (code == rA && nat_lt 0x3_ffff value) || (code == rG && not (is_global_threshold value l))

-- what the register then has: rL only falls
abbrev pub stored_value : ℕ → ℕ → ℕ → ℕ
stored_value code value l = if code == rL then min value l else value

-- PUT of a value to the register with a code, where rG and rL are g and l; no rule asks for rG
abbrev pub put_of : ℕ → ℕ → ℕ → ℕ → Put
put_of code value g l =
    if is_unchangeable code then Illegal
    else if is_privileged code then Privileged
    else if is_out_of_range code value l then Illegal
    else Store (stored_value code value l)
