-- The messages that are sent: each is an object of JSON whose first member is its number, and a response names its request.
-- (Debug Adapter Protocol, "Base Protocol".)
use Rattle.std.specs.Prelude.{ℕ, ◌+◌, Bool, true, false, List, [], ◌∷◌, ◌++◌, codes, decimal}
use Rattle.mx_json.specs.Json.{flag, string}
use Rattle.mx_adapter.specs.declared.outbox.Answer.{Answer}
use Rattle.mx_adapter.specs.declared.outbox.Answer.TheVariants.{Done, Refused}
use Rattle.mx_adapter.specs.declared.requests.Request.{Request}
use Rattle.mx_adapter.specs.Numbers.{Sent, front}

-- ---- what follows the number

-- a member with the text of its value, if there is one
abbrev pub member : List ℕ → List ℕ → List ℕ
member name [] = []
member name (b ∷ value) = name ++ b ∷ value

unfoldable pub response_open : List ℕ
response_open = codes ",\"type\":\"response\",\"request_seq\":"

unfoldable pub success_name : List ℕ
success_name = codes ",\"success\":"

unfoldable pub command_name : List ℕ
command_name = codes ",\"command\":"

-- a response names its request by the number and by the name
unfoldable pub response_name : ℕ → Bool → List ℕ → List ℕ
response_name seq is_done name = response_open ++ decimal seq ++ success_name ++ flag is_done ++ command_name ++ string name

-- the response to a request that is carried out, with a body that may be empty
unfoldable pub done : Request → List ℕ → List ℕ
done request body = response_name request.seq true request.name ++ member (codes ",\"body\":") body ++ codes "}"

unfoldable pub message_name : List ℕ
message_name = codes ",\"message\":"

unfoldable pub refusal_open : List ℕ
refusal_open = codes ",\"body\":{\"error\":{\"id\":1,\"format\":"

unfoldable pub refusal_end : List ℕ
refusal_end = codes ",\"showUser\":true}}}"

-- the response to a request that is refused, with the reason twice, as the protocol has it
unfoldable pub refused : Request → List ℕ → List ℕ
refused request why = response_name request.seq false request.name ++ message_name ++ string why ++ refusal_open ++ string why ++ refusal_end

abbrev pub answered : Request → Answer → List ℕ
answered request (Done body) = done request body
answered request (Refused why) = refused request why

unfoldable pub event_open : List ℕ
event_open = codes ",\"type\":\"event\",\"event\":"

-- an event with a body that may be empty
unfoldable pub told : List ℕ → List ℕ → List ℕ
told event body = event_open ++ string event ++ member (codes ",\"body\":") body ++ codes "}"

-- ---- one more message

-- with one more message, of which this follows the number
abbrev pub and_then : Sent → List ℕ → Sent
and_then sent rest = record { count = sent.count + 1; bodies = sent.bodies ++ (front (sent.count + 1) ++ rest) ∷ [] }
