-- What is sent of the messages that come: of each request one answer, which carries its mark, and of a notification none. What is no message
-- has the mark `null`. (JSON-RPC 2.0, "Request object" and "Response object"; Language Server Protocol, "Base Protocol".)
use Rattle.std.specs.Prelude.{◌≡◌, ℕ, List, [], ◌∷◌, ◌++◌, Option, None, Some}
use Rattle.mx_word.specs.Lists.{IsFront}
use Rattle.mx_wire.specs.Replies.{notice_open}
use Rattle.serde_json.specs.Data.{Data, null}
use Rattle.mx_lsp.specs.Messages.{id_of, message_in, method_of}
use Rattle.mx_lsp.specs.Requests.{IsReplyTo}
use Rattle.mx_lsp.specs.Sessions.{IsBodyTaken}
use Rattle.mx_lsp.specs.declared.message.Method.{Method}
use Rattle.mx_lsp.specs.declared.session.Session.{Session}
use Rattle.mx_lsp.specs.declared.session.Flow.{Flow}

-- ---- what asks for an answer

-- a request has a method and a mark; a notification has no mark, and an answer no method
abbrev pub mark_with : Option Method → Option Data → List Data
mark_with None mark = []
mark_with (Some method) None = []
mark_with (Some method) (Some id) = id ∷ []

abbrev pub marks_in : Option Data → List Data
marks_in None = null ∷ []
marks_in (Some message) = mark_with (method_of message) (id_of message)

-- the marks that a body asks to be answered: one, or none
abbrev pub marks_of : List ℕ → List Data
marks_of body = marks_in (message_in body)

-- ---- what answers

-- a body begins as a notice, which answers nothing
abbrev pub IsNotice : List ℕ → Type 0
IsNotice body = IsFront notice_open body

-- Of these marks each has one answer among these bodies, in the same order; the other bodies are notices.
pub data AreAnswered : List Data → List (List ℕ) → Type 0 where
  nothing : AreAnswered [] []
  answered : (id : Data) (ids : List Data) (body : List ℕ) (bodies : List (List ℕ)) → IsReplyTo id body → AreAnswered ids bodies → AreAnswered (id ∷ ids) (body ∷ bodies)
  noticed : (ids : List Data) (body : List ℕ) (bodies : List (List ℕ)) → IsNotice body → AreAnswered ids bodies → AreAnswered ids (body ∷ bodies)

-- what is sent answers these marks
pub record Sends (marks : List Data) (before after : List (List ℕ)) : Type 0 where
  pub sent : List (List ℕ)
  pub added : after ≡ before ++ sent
  pub answers : AreAnswered marks sent

-- ---- sessions

-- a session takes bodies one after another, sends these, and is then this one
pub data Takes : Session → List (List ℕ) → List (List ℕ) → Session → Type 0 where
  at_end : (s : Session) → Takes s [] [] s
  one_more : (s t u : Session) (body : List ℕ) (later sent more : List (List ℕ)) (flow : Flow) → IsBodyTaken s body t [] sent flow → Takes t later more u →
      Takes s (body ∷ later) (sent ++ more) u
