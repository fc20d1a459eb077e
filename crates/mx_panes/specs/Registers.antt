-- What an editor is shown of registers. (Debug Adapter Protocol, "Variables Request".)
use Rattle.std.specs.Prelude.{ℕ, ◌≡◌, ◌+◌, ◌-◌, List, [], ◌∷◌, ◌++◌, codes, length}
use Rattle.mx_json.specs.Json.{string}
use Rattle.mx_text.specs.Numbers.{hex_text}
use Rattle.mx_core.specs.State.{State, global_start, locals}
use Rattle.mx_ring.specs.Stack.{register}

-- the hexadecimal digits of a value, after other digits and before a label
unfoldable pub digits_text : List ℕ → ℕ → List ℕ → List ℕ
digits_text front x label = front ++ codes "  " ++ hex_text x ++ label

-- a text has them
pub record HasDigits (x : ℕ) (text : List ℕ) : Type 0 where
  pub front : List ℕ
  pub label : List ℕ
  pub is : text ≡ digits_text front x label

-- a row has a name, the text of a value, and what is after it
unfoldable pub row_text : List ℕ → List ℕ → List ℕ → List ℕ
row_text name value rest = codes "{\"name\":" ++ string name ++ codes ",\"value\":" ++ string value ++ rest

-- it shows a value
pub record ShowsValue (x : ℕ) (row : List ℕ) : Type 0 where
  pub name : List ℕ
  pub value : List ℕ
  pub rest : List ℕ
  pub digits : HasDigits x value
  pub is : row ≡ row_text name value rest

-- rows show the registers from one on, as they are at a step
abbrev pub ShowFrom : State → ℕ → List (List ℕ) → Type 0
ShowFrom s k [] = Unit {0}
ShowFrom s k (row ∷ rows) = ShowsValue (register s.stack k) row × ShowFrom s (k + 1) rows

-- they show so many
pub record ShowRegisters (s : State) (first count : ℕ) (rows : List (List ℕ)) : Type 0 where
  pub number : length rows ≡ count
  pub shown : ShowFrom s first rows

abbrev pub ShowLocals : State → List (List ℕ) → Type 0
ShowLocals s rows = ShowRegisters s 0 (locals s) rows

abbrev pub ShowGlobals : State → List (List ℕ) → Type 0
ShowGlobals s rows = ShowRegisters s (global_start s) (256 - global_start s) rows
