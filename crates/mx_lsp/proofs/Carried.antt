-- Answers carry the marks of their requests.
use Rattle.std.proofs.Common.{◌≡◌, ℕ, List, Option, None, Some, codes, inl, inr}
use Rattle.mx_changes.specs.declared.renaming.Change.{Change}
use Rattle.mx_changes.specs.declared.renaming.Change.TheVariants.{Done, Refused as RefusedChange}
use Rattle.mx_wire.specs.Replies.{refusal_body, result_body}
use Rattle.mx_wire.specs.declared.replies.Refused.{Refused}
use Rattle.mx_wire.specs.declared.replies.Refused.TheVariants.{Failed, NoMemory, NoMethod, NoRequest, TooEarly}
use Rattle.serde_json.specs.Data.{Data}
use Rattle.mx_lsp.specs.Documents.{text_of}
use Rattle.mx_lsp.specs.Messages.{uri_of}
use Rattle.mx_lsp.specs.Requests.{IsAnswer, IsAnswerAt, IsAnswerIf, IsAnswerOf, IsChangeAnswer, IsReplyTo, IsServingAnswer, IsTextAnswer, Replies, offers, result_in, waiting_answer}
use Rattle.mx_lsp.specs.Requests.IsAnswerOf.{given, lacking}
use Rattle.mx_lsp.specs.declared.message.Method.{Method}
use Rattle.mx_lsp.specs.declared.message.Method.TheVariants.{Initialize, Shutdown, Exit, Tells, Asks, Other}
use Rattle.mx_lsp.specs.declared.message.Query.{Query}
use Rattle.mx_lsp.specs.declared.message.Query.TheVariants.{Shows, Rename, Formatting}
use Rattle.mx_lsp.specs.declared.session.Session.{Session}
use Rattle.mx_lsp.specs.declared.session.Stage.{Stage}
use Rattle.mx_lsp.specs.declared.session.Stage.TheVariants.{Waiting, Serving, Shut}

by-result : (text value body : List ℕ) → body ≡ result_body text value → Replies text body
by-result text value body e = inl (value, e)

by-refusal : (text : List ℕ) (refused : Refused) (why body : List ℕ) → body ≡ refusal_body text refused why → Replies text body
by-refusal text refused why body e = inr (record { refused = refused; why = why; is = e })

by-change : (text : List ℕ) (change : Change) (body : List ℕ) → IsChangeAnswer text change body → Replies text body
by-change text (Done result) body e = by-result text result body e
by-change text (RefusedChange why) body e = by-refusal text Failed why.now body e

by-text : (text : List ℕ) (query : Query) (message : Data) (source body : List ℕ) → IsTextAnswer text query message source body → Replies text body
by-text text (Shows what) message source body e = by-result text (result_in what message source) body e
by-text text Rename message source body a = by-change text a.change body a.answer
by-text text Formatting message source body a = by-change text a.change body a.answer

by-source : (text : List ℕ) (query : Query) (message : Data) (source : Option (List ℕ)) (body : List ℕ) → IsAnswerIf text query message source body → Replies text body
by-source text query message None body e = by-refusal text Failed (codes "this text is not open") body e
by-source text query message (Some source) body a = by-text text query message source body a

by-waiting : (text : List ℕ) (method : Method) (body : List ℕ) → body ≡ waiting_answer text method → Replies text body
by-waiting text Initialize body e = by-result text offers body e
by-waiting text method body e = by-refusal text TooEarly (codes "initialize has not come") body e

by-serving : (s : Session) (text : List ℕ) (method : Method) (message : Data) (body : List ℕ) → IsServingAnswer s text method message body → Replies text body
by-serving s text Initialize message body e = by-refusal text NoRequest (codes "initialize has come before") body e
by-serving s text Shutdown message body e = by-result text (codes "null") body e
by-serving s text Exit message body e = by-refusal text NoMethod (codes "there is no such request") body e
by-serving s text (Tells notice) message body e = by-refusal text NoMethod (codes "there is no such request") body e
by-serving s text (Asks query) message body a = by-source text query message (text_of s.documents (uri_of message)) body a
by-serving s text Other message body e = by-refusal text NoMethod (codes "there is no such request") body e

by-stage : (stage : Stage) (s : Session) (text : List ℕ) (method : Method) (message : Data) (body : List ℕ) → IsAnswerAt stage s text method message body → Replies text body
by-stage Waiting s text method message body e = by-waiting text method body e
by-stage Serving s text method message body a = by-serving s text method message body a
by-stage Shut s text method message body e = by-refusal text NoRequest (codes "the session is shut down") body e

by-memory : (s : Session) (text : List ℕ) (method : Method) (message : Data) (body : List ℕ) → IsAnswerOf s text method message body → Replies text body
by-memory s text method message body (given a) = by-stage s.stage s text method message body a
by-memory s text method message body (lacking e) = by-refusal text NoMemory (codes "out of memory") body e

pub mark-carried : (s : Session) (id : Data) (method : Method) (message : Data) (body : List ℕ) → IsAnswer s id method message body → IsReplyTo id body
mark-carried s id method message body a = record { text = a.text; mark = a.mark; reply = by-memory s a.text method message body a.answer }
