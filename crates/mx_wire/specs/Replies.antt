-- The forms of answers and notices. (JSON-RPC 2.0; Language Server Protocol, "Base Protocol".)
use Rattle.std.specs.Prelude.{ℕ, List, ◌++◌, codes}
use Rattle.mx_json.specs.Json.{string}
use Rattle.mx_wire.specs.declared.replies.Refused.{Refused}
use Rattle.mx_wire.specs.declared.replies.Refused.TheVariants.{NoJson, TooEarly, NoRequest, NoMethod, NoMemory, Failed}

unfoldable pub number_of : Refused → List ℕ
number_of NoJson = codes "-32700"
number_of TooEarly = codes "-32002"
number_of NoRequest = codes "-32600"
number_of NoMethod = codes "-32601"
number_of NoMemory = codes "-32603"
number_of Failed = codes "-32803"

-- the beginning of an answer to the request with this mark
unfoldable pub answer_front : List ℕ → List ℕ
answer_front id = codes "{\"jsonrpc\":\"2.0\",\"id\":" ++ id

unfoldable pub result_body : List ℕ → List ℕ → List ℕ
result_body id value = answer_front id ++ codes ",\"result\":" ++ value ++ codes "}"

unfoldable pub refusal : Refused → List ℕ → List ℕ
refusal refused message = codes ",\"error\":{\"code\":" ++ number_of refused ++ codes ",\"message\":" ++ string message ++ codes "}}"

abbrev pub refusal_body : List ℕ → Refused → List ℕ → List ℕ
refusal_body id refused message = answer_front id ++ refusal refused message

-- the beginning of a notice, up to its parameters
unfoldable pub notice_open : List ℕ
notice_open = codes "{\"jsonrpc\":\"2.0\",\"method\":\""

unfoldable pub params_name : List ℕ
params_name = codes "\",\"params\":"

unfoldable pub notice_front : List ℕ → List ℕ
notice_front method = notice_open ++ method ++ params_name
