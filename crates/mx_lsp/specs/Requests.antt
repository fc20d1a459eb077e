-- What requests are answered: each answer is a function of the mark of the request, of what it asks for and of the text that is open.
-- (Language Server Protocol, "Base Protocol", "Server lifecycle" and "Language Features".)
use Rattle.std.specs.Prelude.{◌≡◌, ℕ, Bool, List, ◌++◌, Option, None, Some, codes, ◌⊎◌}
use Rattle.mx_changes.specs.Changes.{Renames}
use Rattle.mx_changes.specs.Layouts.{Formats}
use Rattle.mx_changes.specs.declared.renaming.Change.{Change}
use Rattle.mx_changes.specs.declared.renaming.Change.TheVariants.{Done, Refused as RefusedChange}
use Rattle.mx_frames.specs.Columns.{place_of}
use Rattle.mx_hover.specs.Completions.{completion}
use Rattle.mx_hover.specs.Hovers.{hover}
use Rattle.mx_hover.specs.Signatures.{signature}
use Rattle.mx_line.specs.Lines.{lines_of}
use Rattle.mx_marks.specs.Mending.{line_text}
use Rattle.mx_references.specs.Outline.{outline}
use Rattle.mx_references.specs.Uses.{definition, highlights, name_range, references}
use Rattle.mx_wire.specs.Replies.{refusal_body, result_body}
use Rattle.mx_wire.specs.declared.replies.Refused.{Refused}
use Rattle.mx_wire.specs.declared.replies.Refused.TheVariants.{Failed, NoMemory, NoMethod, NoRequest, TooEarly}
use Rattle.serde_json.specs.Data.{Data}
use Rattle.mx_lsp.specs.Documents.{text_of}
use Rattle.mx_lsp.specs.Lines.{number_of}
use Rattle.mx_lsp.specs.Messages.{IsTextOf, number_at, text_at, uri_of, wants_label}
use Rattle.mx_lsp.specs.declared.message.Method.{Method}
use Rattle.mx_lsp.specs.declared.message.Method.TheVariants.{Initialize, Shutdown, Exit, Tells, Asks, Other}
use Rattle.mx_lsp.specs.declared.message.Query.{Query}
use Rattle.mx_lsp.specs.declared.message.Query.TheVariants.{Shows, Rename, Formatting}
use Rattle.mx_lsp.specs.declared.message.Showing.{Showing}
use Rattle.mx_lsp.specs.declared.message.Showing.TheVariants.{Hover, Definition, References, Highlight, PrepareRename, Symbols, Completion, Signature}
use Rattle.mx_lsp.specs.declared.session.Session.{Session}
use Rattle.mx_lsp.specs.declared.session.Stage.{Stage}
use Rattle.mx_lsp.specs.declared.session.Stage.TheVariants.{Waiting, Serving, Shut}

-- ---- the place of a request

abbrev pub line_in : Data → ℕ
line_in message = number_of (number_at (codes "/params/position/line") message)

abbrev pub from_in : Data → List ℕ → ℕ
from_in message source =
    place_of (line_text (line_in message) (lines_of source)) (number_at (codes "/params/position/character") message)

-- ---- requests about a text

-- what is shown, at a place of a text or of the whole
abbrev pub result_at : Showing → List ℕ → ℕ → ℕ → Bool → List ℕ → List ℕ
result_at Hover uri line from has_labels source = hover line from source
result_at Definition uri line from has_labels source = definition uri line from source
result_at References uri line from has_labels source = references uri line from has_labels source
result_at Highlight uri line from has_labels source = highlights line from source
result_at PrepareRename uri line from has_labels source = name_range line from source
result_at Symbols uri line from has_labels source = outline source
result_at Completion uri line from has_labels source = completion line from source
result_at Signature uri line from has_labels source = signature line from source

abbrev pub result_in : Showing → Data → List ℕ → List ℕ
result_in what message source = result_at what (uri_of message) (line_in message) (from_in message source) (wants_label message) source

-- the answer by a change, which is done or refused
abbrev pub IsChangeAnswer : List ℕ → Change → List ℕ → Type 0
IsChangeAnswer id (Done result) body = body ≡ result_body id result
IsChangeAnswer id (RefusedChange why) body = body ≡ refusal_body id Failed why.now

-- a name is changed, where the program stays as it is
pub record IsRenameAnswer (id uri : List ℕ) (line from : ℕ) (name source body : List ℕ) : Type 0 where
  pub change : Change
  pub renames : Renames uri line from name source change
  pub answer : IsChangeAnswer id change body

-- the layout of a text is changed, where the program stays as it is
pub record IsLayoutAnswer (id source body : List ℕ) : Type 0 where
  pub change : Change
  pub formats : Formats source change
  pub answer : IsChangeAnswer id change body

abbrev pub IsTextAnswer : List ℕ → Query → Data → List ℕ → List ℕ → Type 0
IsTextAnswer id (Shows what) message source body = body ≡ result_body id (result_in what message source)
IsTextAnswer id Rename message source body =
    IsRenameAnswer id (uri_of message) (line_in message) (from_in message source) (text_at (codes "/params/newName") message) source body
IsTextAnswer id Formatting message source body = IsLayoutAnswer id source body

abbrev pub IsAnswerIf : List ℕ → Query → Data → Option (List ℕ) → List ℕ → Type 0
IsAnswerIf id query message None body = body ≡ refusal_body id Failed (codes "this text is not open")
IsAnswerIf id query message (Some source) body = IsTextAnswer id query message source body

abbrev pub IsQueryAnswer : Session → List ℕ → Query → Data → List ℕ → Type 0
IsQueryAnswer s id query message body = IsAnswerIf id query message (text_of s.documents (uri_of message)) body

-- ---- all requests

-- what the server offers: changes of a text come by ranges
unfoldable pub offers : List ℕ
offers =
    codes "{\"capabilities\":{\"textDocumentSync\":{\"openClose\":true,\"change\":2},\"hoverProvider\":true,"
    ++ codes "\"definitionProvider\":true,\"referencesProvider\":true,\"documentHighlightProvider\":true,"
    ++ codes "\"renameProvider\":{\"prepareProvider\":true},\"documentSymbolProvider\":true,\"completionProvider\":{},"
    ++ codes "\"signatureHelpProvider\":{\"triggerCharacters\":[\" \",\",\"]},\"documentFormattingProvider\":true},"
    ++ codes "\"serverInfo\":{\"name\":\"mmixview\"}}"

abbrev pub no_request : List ℕ → List ℕ
no_request id = refusal_body id NoMethod (codes "there is no such request")

-- before `initialize`
abbrev pub waiting_answer : List ℕ → Method → List ℕ
waiting_answer id Initialize = result_body id offers
waiting_answer id method = refusal_body id TooEarly (codes "initialize has not come")

-- after `initialize` and before `shutdown`
abbrev pub IsServingAnswer : Session → List ℕ → Method → Data → List ℕ → Type 0
IsServingAnswer s id Initialize message body = body ≡ refusal_body id NoRequest (codes "initialize has come before")
IsServingAnswer s id Shutdown message body = body ≡ result_body id (codes "null")
IsServingAnswer s id Exit message body = body ≡ no_request id
IsServingAnswer s id (Tells notice) message body = body ≡ no_request id
IsServingAnswer s id (Asks query) message body = IsQueryAnswer s id query message body
IsServingAnswer s id Other message body = body ≡ no_request id

-- a request is carried out from `initialize` on, up to `shutdown`; before and after it is refused
abbrev pub IsAnswerAt : Stage → Session → List ℕ → Method → Data → List ℕ → Type 0
IsAnswerAt Waiting s id method message body = body ≡ waiting_answer id method
IsAnswerAt Serving s id method message body = IsServingAnswer s id method message body
IsAnswerAt Shut s id method message body = body ≡ refusal_body id NoRequest (codes "the session is shut down")

-- an answer with the text of a mark; or that there was no memory
pub data IsAnswerOf (s : Session) (id : List ℕ) (method : Method) (message : Data) (body : List ℕ) : Type 0 where
  given : IsAnswerAt s.stage s id method message body → IsAnswerOf s id method message body
  lacking : body ≡ refusal_body id NoMemory (codes "out of memory") → IsAnswerOf s id method message body

-- the answer to a request carries its mark
pub record IsAnswer (s : Session) (id : Data) (method : Method) (message : Data) (body : List ℕ) : Type 0 where
  pub text : List ℕ
  pub mark : IsTextOf id text
  pub answer : IsAnswerOf s text method message body

-- ---- replies

-- a body replies with a result, or with an error, to the request whose mark has this text
abbrev pub HasResult : List ℕ → List ℕ → Type 0
HasResult text body = (value : List ℕ) × (body ≡ result_body text value)

pub record HasError (text body : List ℕ) : Type 0 where
  pub refused : Refused
  pub why : List ℕ
  pub is : body ≡ refusal_body text refused why

abbrev pub Replies : List ℕ → List ℕ → Type 0
Replies text body = HasResult text body ⊎ HasError text body

-- a body is the reply to the request with a mark
pub record IsReplyTo (id : Data) (body : List ℕ) : Type 0 where
  pub text : List ℕ
  pub mark : IsTextOf id text
  pub reply : Replies text body

-- a body is an error of this sort, with some words
abbrev pub Refuses : List ℕ → Refused → List ℕ → Type 0
Refuses text refused body = (why : List ℕ) × (body ≡ refusal_body text refused why)

-- the request with a mark is refused so; or there was no memory
pub record IsRefusedAs (refused : Refused) (id : Data) (body : List ℕ) : Type 0 where
  pub text : List ℕ
  pub mark : IsTextOf id text
  pub refusal : Refuses text refused body ⊎ Refuses text NoMemory body

-- ---- stages

abbrev pub stage_from_waiting : Method → Stage
stage_from_waiting Initialize = Serving
stage_from_waiting method = Waiting

abbrev pub stage_from_serving : Method → Stage
stage_from_serving Shutdown = Shut
stage_from_serving method = Serving

abbrev pub stage_after : Stage → Method → Stage
stage_after Waiting method = stage_from_waiting method
stage_after Serving method = stage_from_serving method
stage_after Shut method = Shut

abbrev pub after_request : Session → Method → Session
after_request s method = record s { stage = stage_after s.stage method }
