-- The predefined symbols.
-- (MMIXware, the part on MMIXAL: predefined symbols.)
use Rattle.std.specs.Prelude.{ℕ, ◌==◌, List, [], ◌∷◌, ◌++◌, Option, None, codes, position, bytes_eq, slice_index_or, if◌then◌else◌}
use Rattle.mx_ops.specs.Tables.{words, numbered, first_of}

-- the special registers, in order of their codes from 0
unfoldable pub special_registers : List (List ℕ)
special_registers =
    words (codes "rB rD rE rH rJ rM rR rBB rC rN rO rS rI rT rTT rK rQ rU rV rG rL rA rF rP rW rX rY rZ rWW rXX rYY rZZ")

-- the name of a special register by its code
unfoldable pub special_name : ℕ → List ℕ
special_name code = slice_index_or special_registers code []

-- the code of a special register by its name without the r
unfoldable pub special_code : List ℕ → Option ℕ
special_code bare = position (λ r. bytes_eq r (114 ∷ bare)) special_registers

-- the predefined names, without the colon before each of them
unfoldable pub predefined_names : List (List ℕ × ℕ)
predefined_names =
    numbered 0 special_registers
    ++ (codes "D_BIT", 0x80) ∷ (codes "V_BIT", 0x40) ∷ (codes "W_BIT", 0x20) ∷ (codes "I_BIT", 0x10)
    ∷ (codes "O_BIT", 0x08) ∷ (codes "U_BIT", 0x04) ∷ (codes "Z_BIT", 0x02) ∷ (codes "X_BIT", 0x01)
    ∷ (codes "D_Handler", 0x10) ∷ (codes "V_Handler", 0x20) ∷ (codes "W_Handler", 0x30) ∷ (codes "I_Handler", 0x40)
    ∷ (codes "O_Handler", 0x50) ∷ (codes "U_Handler", 0x60) ∷ (codes "Z_Handler", 0x70) ∷ (codes "X_Handler", 0x80)
    ∷ (codes "Data_Segment", 0x2000_0000_0000_0000) ∷ (codes "Pool_Segment", 0x4000_0000_0000_0000)
    ∷ (codes "Stack_Segment", 0x6000_0000_0000_0000) ∷ (codes "Inf", 0x7ff0_0000_0000_0000)
    ∷ (numbered 0 (words (codes "StdIn StdOut StdErr"))
    ++ numbered 0 (words (codes "TextRead TextWrite BinaryRead BinaryWrite BinaryReadWrite"))
    ++ numbered 0 (words (codes "Halt Fopen Fclose Fread Fgets Fgetws Fwrite Fputs Fputws Fseek Ftell"))
    ++ numbered 0 (words (codes "ROUND_CURRENT ROUND_OFF ROUND_UP ROUND_DOWN ROUND_NEAR")))

-- the value of a complete name, which begins with a colon
unfoldable pub predefined_value : List ℕ → Option ℕ
predefined_value [] = None
predefined_value (b ∷ name) = if b == 58 then first_of name predefined_names else None
