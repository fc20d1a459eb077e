-- The dump: the special registers, the general registers, and all octas of memory that are not 0.
use Rattle.std.specs.Prelude.{ℕ, zero, suc, ◌*◌, ◌^◌, ◌==◌, ◌&&◌, ◌||◌, not, nat_lt, nat_le, Bool, if◌then◌else◌, List, [], ◌∷◌, ◌++◌, codes, decimal}
use Rattle.std.specs.List.{flat_map, range_with_len}
use Rattle.mx_ring.specs.Stack.{register, in_stack_area}
use Rattle.mx_code.specs.SpecialRegisters.{rS}
use Rattle.mx_text.specs.Numbers.{hex_text}
use Rattle.mx_ops.specs.Predefined.{special_name}
use Rattle.mx_core.specs.State.{State, special_register, global_start, locals, octa}

abbrev pub Line : Type 0
Line = List ℕ

-- a line that is there where a test holds
abbrev pub line_if : Bool → Line → List Line
line_if holds line = if holds then line ∷ [] else []

abbrev pub named_octa : List ℕ → ℕ → Line
named_octa name value = name ++ codes "=" ++ hex_text value ++ codes "\n"

-- the special registers in the order of their codes; rS is shown where something was touched
abbrev pub is_special_shown : State → ℕ → Bool
is_special_shown s code = s.touched || not (code == rS)

abbrev pub special_text : State → ℕ → Line
special_text s code = named_octa (special_name code) (special_register s code)

abbrev pub special_line : State → ℕ → List Line
special_line s code = line_if (is_special_shown s code) (special_text s code)

unfoldable pub special_lines : State → List Line
special_lines s = flat_map (special_line s) (range_with_len 0 32)

-- the registers that are local or global
abbrev pub is_register_shown : State → ℕ → Bool
is_register_shown s k = nat_lt k (locals s) || nat_le (global_start s) k

abbrev pub register_text : State → ℕ → Line
register_text s k = named_octa (codes "$" ++ decimal k) (register s.stack k)

abbrev pub register_line : State → ℕ → List Line
register_line s k = line_if (is_register_shown s k) (register_text s k)

unfoldable pub register_lines : State → List Line
register_lines s = flat_map (register_line s) (range_with_len 0 256)

-- an octa that is not 0; those of the stack area are shown where something was touched
abbrev pub is_address_shown : State → ℕ → Bool
is_address_shown s a = s.touched || not (in_stack_area a)

abbrev pub octa_line : State → ℕ → List Line
octa_line s a = line_if (not (octa s a == 0) && is_address_shown s a) (named_octa (codes "M" ++ hex_text a) (octa s a))

-- this many octas, from the first of memory on
unfoldable pub octa_lines : State → ℕ → List Line
octa_lines s zero = []
octa_lines s (suc n) = octa_lines s n ++ octa_line s (8 * n)

-- the octas of all addresses below 2^63
abbrev pub octa_count : ℕ
octa_count = 2 ^ 60

unfoldable pub dump_lines : State → List Line
dump_lines s = special_lines s ++ register_lines s ++ octa_lines s octa_count
