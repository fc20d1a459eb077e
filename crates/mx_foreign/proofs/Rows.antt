-- The rows of the table.
use Rattle.std.proofs.Common.{◌≡◌, ℕ, Bool, true, false, List, [], ◌∷◌, map, Option, None, Some, Bor, cond, refl}
use Rattle.std.specs.List.{find, list_all}
use Rattle.std.specs.Str.{str_eq_ignore_ascii_case}
use Rattle.mx_ops.specs.Opcodes.{operation_of, operations, opcode_rows, opcode_names, pseudo_operations, chosen_operations}
use Rattle.mx_foreign.specs.Foreign.{Row, advice_by, advice_in, foreign, is_foreign}

pub all-foreign : list_all is_foreign foreign ≡ true
unfolding foreign operation_of operations opcode_names opcode_rows pseudo_operations chosen_operations
all-foreign = refl

-- ---- a row is found in the table as the code has it

abbrev Lent : Type 0
Lent = Bor (List ℕ) × Bor (List ℕ)

abbrev plain : Lent → Row
plain row = (row.0.now, row.1.now)

abbrev lent_advice : Option Lent → List ℕ
lent_advice None = []
lent_advice (Some row) = row.1.now

one : (b : Bool) (row : Lent) (lent : Option Lent) (found : Option Row) → advice_by found ≡ lent_advice lent →
    advice_by (cond b (Some (plain row)) found) ≡ lent_advice (cond b (Some row) lent)
one true row lent found e = refl
one false row lent found e = e

mapped : (name : List ℕ) (rows : List Lent) → advice_in name (map plain rows) ≡ lent_advice (find (λ row. str_eq_ignore_ascii_case name row.0.now) rows)
mapped name [] = refl
mapped name (row ∷ rows) = one (str_eq_ignore_ascii_case name row.0.now) row _ _ (mapped name rows)

pub found-row : (name : List ℕ) (rows : List Lent) (row : Lent) → Some row ≡ find (λ row. str_eq_ignore_ascii_case name row.0.now) rows → advice_in name (map (λ row. (row.0.now, row.1.now)) rows) ≡ row.1.now
found-row name rows row e = rw (mapped name rows, ← e) refl

pub no-row : (name : List ℕ) (rows : List Lent) → None ≡ find (λ row. str_eq_ignore_ascii_case name row.0.now) rows → advice_in name (map (λ row. (row.0.now, row.1.now)) rows) ≡ []
no-row name rows e = rw (mapped name rows, ← e) refl

pub ruleset rows = (all-foreign, found-row, no-row)
