-- A session: the texts that are open, each as its changes have made it, and how far it has come. Each request is answered once, and
-- a notification is not answered; what is sent after a change are the faults of the text as it then is. (Language Server Protocol, "Base
-- Protocol", "Server lifecycle" and "Text Document Synchronization".)
use Rattle.std.specs.Prelude.{◌≡◌, ℕ, List, [], ◌∷◌, ◌++◌, Option, None, Some, codes}
use Rattle.mx_diagnostics.specs.Diagnostics.{diagnostics_of}
use Rattle.mx_diagnostics.specs.Published.{notice}
use Rattle.mx_wire.specs.Replies.{refusal_body}
use Rattle.mx_wire.specs.declared.replies.Refused.TheVariants.{NoJson}
use Rattle.serde_json.specs.Data.{Data}
use Rattle.mx_lsp.specs.Documents as documents
use Rattle.mx_lsp.specs.Messages.{id_of, message_in, method_of, text_after, text_at, uri_of}
use Rattle.mx_lsp.specs.Requests.{IsAnswer, after_request}
use Rattle.mx_lsp.specs.declared.message.Method.{Method}
use Rattle.mx_lsp.specs.declared.message.Method.TheVariants.{Exit, Tells}
use Rattle.mx_lsp.specs.declared.message.Notice.{Notice}
use Rattle.mx_lsp.specs.declared.message.Notice.TheVariants.{DidOpen, DidChange, DidClose}
use Rattle.mx_lsp.specs.declared.session.Session.{Session}
use Rattle.mx_lsp.specs.declared.session.Stage.{Stage}
use Rattle.mx_lsp.specs.declared.session.Stage.TheVariants.{Waiting, Serving, Shut}
use Rattle.mx_lsp.specs.declared.session.Flow.{Flow}
use Rattle.mx_lsp.specs.declared.session.Flow.TheVariants.{Going, Ended}

-- ---- texts

abbrev pub with_text : Session → List ℕ → List ℕ → Session
with_text s uri text = record s { documents = documents.with_text s.documents uri text }

abbrev pub without : Session → List ℕ → Session
without s uri = record s { documents = documents.without s.documents uri }

-- the text that a message opens
abbrev pub opened_text : Data → List ℕ
opened_text message = text_at (codes "/params/textDocument/text") message

-- what a message makes of a text, if the text is open
abbrev pub changed_if : Option (List ℕ) → Data → Option (List ℕ)
changed_if None message = None
changed_if (Some text) message = Some (text_after text message)

abbrev pub changed_text : Session → Data → Option (List ℕ)
changed_text s message = changed_if (documents.text_of s.documents (uri_of message)) message

-- ---- notifications

abbrev pub with_text_if : Session → List ℕ → Option (List ℕ) → Session
with_text_if s uri None = s
with_text_if s uri (Some text) = with_text s uri text

abbrev pub notices_if : List ℕ → Option (List ℕ) → List (List ℕ)
notices_if uri None = []
notices_if uri (Some text) = notice uri (diagnostics_of text) ∷ []

abbrev pub after_told : Session → Notice → Data → Session
after_told s DidOpen message = with_text s (uri_of message) (opened_text message)
after_told s DidChange message = with_text_if s (uri_of message) (changed_text s message)
after_told s DidClose message = without s (uri_of message)

-- what is sent: the faults of a text that has come or has changed, and none of one that is closed
abbrev pub notices_of : Session → Notice → Data → List (List ℕ)
notices_of s DidOpen message = notice (uri_of message) (diagnostics_of (opened_text message)) ∷ []
notices_of s DidChange message = notices_if (uri_of message) (changed_text s message)
notices_of s DidClose message = notice (uri_of message) [] ∷ []

-- what is told of a text is taken from `initialize` on, up to `shutdown`
abbrev pub after_told_at : Stage → Session → Notice → Data → Session
after_told_at Waiting s told message = s
after_told_at Serving s told message = after_told s told message
after_told_at Shut s told message = s

abbrev pub notices_at : Stage → Session → Notice → Data → List (List ℕ)
notices_at Waiting s told message = []
notices_at Serving s told message = notices_of s told message
notices_at Shut s told message = []

abbrev pub after_notice : Session → Method → Data → Session
after_notice s (Tells told) message = after_told_at s.stage s told message
after_notice s method message = s

abbrev pub notices_by : Session → Method → Data → List (List ℕ)
notices_by s (Tells told) message = notices_at s.stage s told message
notices_by s method message = []

-- `exit` ends a session at any stage: well after `shutdown`
abbrev pub status_of : Stage → ℕ
status_of Waiting = 1
status_of Serving = 1
status_of Shut = 0

abbrev pub flow_after : Session → Method → Flow
flow_after s Exit = Ended (status_of s.stage)
flow_after s method = Going

-- ---- messages

-- nothing is done, and nothing is sent
pub record IsPassed (s t : Session) (before after : List (List ℕ)) (flow : Flow) : Type 0 where
  pub session : t ≡ s
  pub sent : after ≡ before
  pub goes_on : flow ≡ Going

pub record IsNoticed (s : Session) (method : Method) (message : Data) (t : Session) (before after : List (List ℕ)) (flow : Flow) : Type 0 where
  pub session : t ≡ after_notice s method message
  pub sent : after ≡ before ++ notices_by s method message
  pub goes_on : flow ≡ flow_after s method

pub record IsAnswered (s : Session) (method : Method) (id message : Data) (t : Session) (before after : List (List ℕ)) (flow : Flow) : Type 0 where
  pub session : t ≡ after_request s method
  pub body : List ℕ
  pub answer : IsAnswer s id method message body
  pub sent : after ≡ before ++ body ∷ []
  pub goes_on : flow ≡ Going

-- a notification, or a request
abbrev pub IsMarkTaken : Session → Method → Option Data → Data → Session → List (List ℕ) → List (List ℕ) → Flow → Type 0
IsMarkTaken s method None message t before after flow = IsNoticed s method message t before after flow
IsMarkTaken s method (Some id) message t before after flow = IsAnswered s method id message t before after flow

abbrev pub IsMethodTaken : Session → Method → Data → Session → List (List ℕ) → List (List ℕ) → Flow → Type 0
IsMethodTaken s method message t before after flow = IsMarkTaken s method (id_of message) message t before after flow

-- a message without a method does neither
abbrev pub IsTakenAs : Session → Option Method → Data → Session → List (List ℕ) → List (List ℕ) → Flow → Type 0
IsTakenAs s None message t before after flow = IsPassed s t before after flow
IsTakenAs s (Some method) message t before after flow = IsMethodTaken s method message t before after flow

abbrev pub IsTaken : Session → Data → Session → List (List ℕ) → List (List ℕ) → Flow → Type 0
IsTaken s message t before after flow = IsTakenAs s (method_of message) message t before after flow

-- what is no message is refused, and ends the session
pub record IsRefused (s t : Session) (before after : List (List ℕ)) (flow : Flow) : Type 0 where
  pub session : t ≡ s
  pub sent : after ≡ before ++ refusal_body (codes "null") NoJson (codes "this is no JSON") ∷ []
  pub ends : flow ≡ Ended 1

abbrev pub IsTakenIf : Session → Option Data → Session → List (List ℕ) → List (List ℕ) → Flow → Type 0
IsTakenIf s None t before after flow = IsRefused s t before after flow
IsTakenIf s (Some message) t before after flow = IsTaken s message t before after flow

abbrev pub IsBodyTaken : Session → List ℕ → Session → List (List ℕ) → List (List ℕ) → Flow → Type 0
IsBodyTaken s body t before after flow = IsTakenIf s (message_in body) t before after flow
