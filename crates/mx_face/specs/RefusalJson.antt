-- A refusal as JSON: its line, its fault by number and name, and the line of the reference that waited, if the fault is about one.
use Rattle.std.specs.Prelude.{ℕ, ◌==◌, List, ◌++◌, Option, None, Some, if◌then◌else◌, codes, decimal}
use Rattle.mx_files.specs.declared.refusal.Refusal.{Refusal}
use Rattle.mx_json.specs.Json.{quoted}
use Rattle.mx_outcome.specs.Names.{fault_name_of}

-- the line of a reference that waited, if there is one
unfoldable pub waiting_json : ℕ → List ℕ
waiting_json from_line = if from_line == 0 then codes "null" else decimal from_line

-- the name of a fault
unfoldable pub name_json : ℕ → List ℕ
name_json fault = quoted (fault_name_of fault)

-- the members of its object
unfoldable pub from_name : List ℕ
from_name = codes ",\"from_line\":"

unfoldable pub fault_members : Refusal → List ℕ
fault_members r = codes "\"fault\":" ++ decimal r.fault ++ from_name ++ waiting_json r.from_line

unfoldable pub place_members : Refusal → List ℕ
place_members r = codes ",\"line\":" ++ decimal r.line ++ codes ",\"name\":" ++ name_json r.fault

unfoldable pub refusal_members : Refusal → List ℕ
refusal_members r = fault_members r ++ place_members r

unfoldable pub refusal_json : Option Refusal → List ℕ
refusal_json None = codes "null"
refusal_json (Some r) = codes "{" ++ refusal_members r ++ codes "}"
