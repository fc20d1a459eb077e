-- The body of what is told of a stop. (Debug Adapter Protocol, "Stopped Event".)
use Rattle.std.specs.Prelude.{ℕ, List, ◌++◌, codes, decimal}
use Rattle.mx_json.specs.Json.{array, quoted, string}

unfoldable pub step_name : List ℕ
step_name = codes ",\"description\":\"step "

-- why a run is at a stop, and its step
unfoldable pub stop_front : ℕ → List ℕ → List ℕ
stop_front at reason = codes "{\"reason\":" ++ quoted reason ++ step_name ++ decimal at

unfoldable pub stop_middle : List ℕ
stop_middle = codes "\",\"threadId\":1,\"allThreadsStopped\":true"

unfoldable pub met_name : List ℕ
met_name = codes ",\"hitBreakpointIds\":"

-- what is said of it, and the breaks and watches that are met
unfoldable pub stop_end : List ℕ → List ℕ → List ℕ
stop_end said met = codes ",\"text\":" ++ string said ++ met_name ++ array decimal met ++ codes "}"

abbrev pub stop_body : ℕ → List ℕ → List ℕ → List ℕ → List ℕ
stop_body at reason said met = stop_front at reason ++ stop_middle ++ stop_end said met
