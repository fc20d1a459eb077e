-- The operations that place data. (MMIXware, MMIXAL, pseudo-operations.)
use Rattle.std.specs.Prelude.{ℕ, ◌||◌, List, Bool, codes}
use Rattle.std.specs.Str.{bytes_eq}

abbrev pub is_data_operation : List ℕ → Bool
is_data_operation op =
    bytes_eq op (codes "BYTE") || bytes_eq op (codes "WYDE") || bytes_eq op (codes "TETRA") || bytes_eq op (codes "OCTA")
