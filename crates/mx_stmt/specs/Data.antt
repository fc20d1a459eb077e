-- The operands of BYTE, WYDE, TETRA and OCTA, and the bytes that they place (MMIXware, MMIXAL; TAOCP 1, Fascicle 1,
-- section 1.3.2').
use Rattle.std.specs.Prelude.{ℕ, ◌+◌, ◌-◌, ◌/◌, ◌%◌, ◌^◌, ◌==◌, ◌||◌, nat_lt, nat_le, Bool, if◌then◌else◌, List, [], ◌∷◌, ◌++◌, drop, unwrap_or, Ok, Err}
use Rattle.mx_word.specs.declared.waits.WaitKind.TheVariants.{Octa}
use Rattle.mx_word.specs.Words.{octa_to_bytes}
use Rattle.mx_expr.specs.Tree.{Tree}
use Rattle.mx_stmt.specs.declared.operands.Target.{Target}
use Rattle.mx_stmt.specs.declared.operands.Target.TheVariants as target
use Rattle.mx_stmt.specs.declared.data.Data.{Data}
use Rattle.mx_stmt.specs.declared.data.Size.{Size}
use Rattle.mx_stmt.specs.declared.data.Size.TheVariants as size
use Rattle.mx_stmt.specs.declared.faults.StmtFault.TheVariants.{Fit, Operands}
use Rattle.mx_stmt.specs.Steps.{Answer, and_then}
use Rattle.mx_stmt.specs.Operands.{Known, Targets, pure_at, known_target, target_at}

abbrev pub size_bytes : Size → ℕ
size_bytes size.Byte = 1
size_bytes size.Wyde = 2
size_bytes size.Tetra = 4
size_bytes size.Octa = 8

-- A value fits in this many bytes as it is, or as a negative number modulo 2^64.
abbrev pub is_fit : ℕ → ℕ → Bool
is_fit size n = nat_lt n (256 ^ size) || nat_le (2 ^ 64 - 256 ^ size / 2) n

abbrev pub data_number : ℕ → ℕ → Answer ℕ
data_number size n = if is_fit size n then Ok n else Err Fit

-- the low bytes of an octa
abbrev pub low_bytes : ℕ → ℕ → List ℕ
low_bytes size n = drop (8 - size) (octa_to_bytes n)

-- An operand of OCTA may be a future reference.
abbrev pub data_target : Known → ℕ → Tree → Answer Target
data_target k size e = if size == 8 then target_at k e else known_target (and_then (pure_at k e) (data_number size))

-- what one operand places at an address; a reference without a target has zero
abbrev pub datum : Targets → ℕ → ℕ → ℕ → Target → Data
datum t line size place (target.Known n) = record { bytes = low_bytes size n; waits = [] }
datum t line size place (target.Future who) =
    record { bytes = low_bytes 8 (unwrap_or (t who) 0); waits = record { who = who; at = place; line = line; kind = Octa } ∷ [] }

-- one operand, and then others
abbrev pub joined_data : Data → Data → Data
joined_data first rest = record { bytes = first.bytes ++ rest.bytes; waits = first.waits ++ rest.waits }

abbrev pub with_rest : Data → Answer Data → Answer Data
with_rest first (Err fault) = Err fault
with_rest first (Ok rest) = Ok (joined_data first rest)

abbrev pub no_data : Data
no_data = record { bytes = []; waits = [] }

-- what the operands place from an address on; addresses are modulo 2^64
unfoldable pub data_of : Targets → Known → ℕ → ℕ → ℕ → List Tree → Answer Data
data_of t k line size place [] = Ok no_data
data_of t k line size place (e ∷ es) =
    and_then (data_target k size e) (λ target. with_rest (datum t line size place target) (data_of t k line size ((place + size) % 2 ^ 64) es))

-- There is one operand or more.
abbrev pub data_form : Targets → Known → ℕ → ℕ → List Tree → Answer Data
data_form t k line size [] = Err Operands
data_form t k line size (e ∷ es) = data_of t k line size k.at (e ∷ es)
