-- What an editor is shown of memory. (Debug Adapter Protocol, "ReadMemory Request".)
use Rattle.std.specs.Prelude.{ℕ, ◌≡◌, ◌-◌, ◌^◌, ◌==◌, min, if◌then◌else◌, List, [], ◌++◌, codes, decimal, unwrap_or}
use Rattle.base64.specs.Engines.{standard}
use Rattle.base64.specs.GeneralPurpose.{encode_of}
use Rattle.serde_json.specs.Data.{Data}
use Rattle.mx_json.specs.Json.{quoted}
use Rattle.mx_text.specs.Numbers.{hex_digits}
use Rattle.mx_core.specs.MachineSpace.{machine_contents}
use Rattle.mx_core.specs.State.{State}
use Rattle.mx_trap.specs.Requests.{bytes_from}
use Rattle.mx_adapter.specs.Requests.{number_in}
use Rattle.mx_adapter.specs.declared.outbox.Answer.{Answer}
use Rattle.mx_adapter.specs.declared.outbox.Answer.TheVariants.{Done, Refused}

-- how many of so many bytes from an address on are memory
abbrev pub readable : ℕ → ℕ → ℕ
readable a n = min (2 ^ 63 - a) n

-- those bytes, as they are at a step
abbrev pub bytes_at : State → ℕ → ℕ → List ℕ
bytes_at s a n = bytes_from (machine_contents s).bytes (min a (2 ^ 63)) (readable a n)

-- the reference to an address
unfoldable pub reference : ℕ → List ℕ
reference a = codes "\"0x" ++ hex_digits 16 a ++ codes "\""

unfoldable pub unreadable_name : List ℕ
unreadable_name = codes ",\"unreadableBytes\":"

-- how many bytes are no memory, if there are some
unfoldable pub unreadable_member : ℕ → List ℕ
unreadable_member n = if n == 0 then [] else unreadable_name ++ decimal n

unfoldable pub address_name : List ℕ
address_name = codes "{\"address\":"

-- bytes from an address on, of which so many are no memory
unfoldable pub bytes_body : ℕ → List ℕ → ℕ → List ℕ
bytes_body a bytes n =
    address_name ++ reference a ++ codes ",\"data\":" ++ quoted (encode_of standard bytes) ++ unreadable_member n ++ codes "}"

-- so many bytes from an address on
abbrev pub memory_body : State → ℕ → ℕ → List ℕ
memory_body s a n = bytes_body a (bytes_at s a n) (n - readable a n)

-- how many bytes a request asks for, which are 2^20 at most
abbrev pub count_asked : Data → ℕ
count_asked d = min (unwrap_or (number_in (codes "/arguments/count") d) 0) (2 ^ 20)

-- a body has as many bytes of the memory as are asked for, from an address on
pub record ShowsBytes (s : State) (d : Data) (body : List ℕ) : Type 0 where
  pub address : ℕ
  pub is : body ≡ memory_body s address (count_asked d)

-- so has an answer, or it is a refusal
abbrev pub ShowsMemory : State → Data → Answer → Type 0
ShowsMemory s d (Done body) = ShowsBytes s d body
ShowsMemory s d (Refused why) = Unit {0}
