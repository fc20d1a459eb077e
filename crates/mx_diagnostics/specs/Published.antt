-- The notice of what an editor is told. (Language Server Protocol, "PublishDiagnostics Notification".)
use Rattle.std.specs.Prelude.{ℕ, List, ◌++◌, codes}
use Rattle.mx_json.specs.Json.{array, quoted, string}
use Rattle.mx_wire.specs.Ranges.{range}
use Rattle.mx_wire.specs.Replies.{notice_front}
use Rattle.mx_diagnostics.specs.declared.diagnostic.Diagnostic.{Diagnostic}
use Rattle.mx_diagnostics.specs.declared.diagnostic.Severity.{Severity}
use Rattle.mx_diagnostics.specs.declared.diagnostic.Severity.TheVariants.{Error, Warning}

unfoldable pub severity_json : Severity → List ℕ
severity_json Error = codes ",\"severity\":1"
severity_json Warning = codes ",\"severity\":2"

unfoldable pub source_json : List ℕ
source_json = codes ",\"source\":\"mmixview\""

unfoldable pub code_json : List ℕ → List ℕ
code_json code = codes ",\"code\":" ++ quoted code

unfoldable pub message_name : List ℕ
message_name = codes ",\"message\":"

-- where it is, how severe it is, and its short name
unfoldable pub place_json : Diagnostic → List ℕ
place_json d = codes "{\"range\":" ++ range d.number d.line d.from d.to ++ severity_json d.severity ++ code_json d.code

-- who tells it, and what is wrong
unfoldable pub said_json : Diagnostic → List ℕ
said_json d = source_json ++ message_name ++ string d.message ++ codes "}"

unfoldable pub diagnostic_json : Diagnostic → List ℕ
diagnostic_json d = place_json d ++ said_json d

unfoldable pub method : List ℕ
method = codes "textDocument/publishDiagnostics"

unfoldable pub list_name : List ℕ
list_name = codes ",\"diagnostics\":"

unfoldable pub notice : List ℕ → List Diagnostic → List ℕ
notice uri told =
    notice_front method ++ codes "{\"uri\":" ++ string uri ++ list_name ++ array diagnostic_json told
    ++ codes "}}"
