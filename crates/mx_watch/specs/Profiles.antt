-- How often each instruction was carried out.
use Rattle.std.specs.Prelude.{ℕ, ◌+◌, ◌-◌, ◌/◌, ◌^◌, ◌==◌, min, false, if◌then◌else◌, List, [], ◌∷◌, ◌++◌, codes, decimal, slice_index, slice_set}
use Rattle.std.specs.List.{flat_map, range_with_len}
use Rattle.mx_code.specs.declared.trace.Trace.{Trace}
use Rattle.mx_ops.specs.Opcodes.{opcode_name}
use Rattle.mx_text.specs.Numbers.{hex_digits}
use Rattle.mx_watch.specs.Watching.{Watching}

-- the code of the instruction that a step fetched
abbrev pub code_in : Trace → ℕ
code_in t = t.word / 2 ^ 24

-- a count is at most 2^64 - 1
abbrev pub one_more : List ℕ → ℕ → List ℕ
one_more counts code = slice_set counts code (min (slice_index counts code + 1) (2 ^ 64 - 1))

-- the counts of all codes after these traces
unfoldable pub counts_after : List ℕ → List Trace → List ℕ
counts_after counts [] = counts
counts_after counts (t ∷ ts) = counts_after (one_more counts (code_in t)) ts

-- a line for each code that occurs: the code in hexadecimal digits, the name and the count
abbrev pub profile_line : ℕ → ℕ → List ℕ
profile_line code count =
    if count == 0 then []
    else codes "profile " ++ hex_digits 2 code ++ codes " " ++ opcode_name code ++ codes " " ++ decimal count ++ codes "\n"

abbrev pub profile_lines : List ℕ → ℕ → ℕ → List ℕ
profile_lines counts from n = flat_map (λ code. profile_line code (slice_index counts code)) (range_with_len from n)

unfoldable pub profile_text : List ℕ → List ℕ
profile_text counts = profile_lines counts 0 256

abbrev pub profiling : List ℕ → Watching
profiling counts = record { text = λ h. profile_text (counts_after counts h); full = λ h. false }

-- how many of these steps fetched an instruction of the code
unfoldable pub occurrences : ℕ → List Trace → ℕ
occurrences code [] = 0
occurrences code (t ∷ ts) = (if code_in t == code then 1 else 0) + occurrences code ts
