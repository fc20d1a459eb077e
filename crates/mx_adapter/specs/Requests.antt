-- What a message asks for. (Debug Adapter Protocol, "Base Protocol".)
use Rattle.std.specs.Prelude.{ℕ, ◌≡◌, List, codes, Option, Some, option_and_then, unwrap_or}
use Rattle.serde_json.specs.Data.{Data, string}
use Rattle.serde_json.specs.Find.{as_number, as_str, as_u64, get, pointer}

-- ---- values

abbrev pub number_of : Data → Option ℕ
number_of d = option_and_then as_u64 (as_number d)

-- the number at a path, and the text at a path
abbrev pub number_in : List ℕ → Data → Option ℕ
number_in path d = option_and_then number_of (pointer path d)

abbrev pub text_in : List ℕ → Data → Option (List ℕ)
text_in path d = option_and_then as_str (pointer path d)

-- ---- requests

-- the number of a message, or 0
abbrev pub seq_of : Data → ℕ
seq_of d = unwrap_or (option_and_then number_of (get (codes "seq") d)) 0

-- what it says that is asked for
abbrev pub name_of : Data → Option (List ℕ)
name_of d = option_and_then as_str (get (codes "command") d)

-- a message is a request with this name
pub record IsRequest (name : List ℕ) (d : Data) : Type 0 where
  pub kind : get (codes "type") d ≡ Some (string (codes "request"))
  pub command : get (codes "command") d ≡ Some (string name)
