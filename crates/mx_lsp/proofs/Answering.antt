-- How an answer is made of its parts, and how a body is read.
use Rattle.std.proofs.Common.{◌≡◌, ◌∙◌, ℕ, Bool, true, false, cond, List, [], ◌∷◌, ◌++◌, Option, None, codes, refl, ap, subst}
use Rattle.std.specs.Str.{IsUtf8, is_utf8}
use Rattle.std.proofs.lemmas.Str.{IsUtf8-from_is_utf8, is_utf8-from_IsUtf8}
use Rattle.mx_wire.specs.Replies.{refusal_body}
use Rattle.mx_wire.specs.declared.replies.Refused.TheVariants.{NoMemory}
use Rattle.serde_json.specs.Data.{Data}
use Rattle.serde_json.specs.Read.{read}
use Rattle.serde_json.specs.Written.{compact_text, has_float}
use Rattle.mx_lsp.specs.Messages.{IsTextOf, message_in}
use Rattle.mx_lsp.specs.Requests.{IsAnswer, IsAnswerAt, IsAnswerOf, after_request}
use Rattle.mx_lsp.specs.Requests.IsAnswerOf.{given, lacking}
use Rattle.mx_lsp.specs.declared.message.Method.{Method}
use Rattle.mx_lsp.specs.Sessions.{IsAnswered}
use Rattle.mx_lsp.specs.declared.session.Flow.{Flow}
use Rattle.mx_lsp.specs.declared.session.Flow.TheVariants.{Going}
use Rattle.mx_lsp.specs.declared.session.Session.{Session}

-- ---- bodies

pub body-read : (body text : List ℕ) (message : Option Data) → IsUtf8 body → text ≡ body → message ≡ read text → message ≡ message_in body
body-read body text message u e h = rw (is_utf8-from_IsUtf8 body u) (h ∙ ap read e)

no-text-by : (body : List ℕ) (b : Bool) → is_utf8 body ≡ b → (IsUtf8 body → ⊥) → None ≡ cond b (read body) None
no-text-by body true e never = absurd (never (IsUtf8-from_is_utf8 body e))
no-text-by body false e never = refl

pub no-text-read : (body : List ℕ) → (IsUtf8 body → ⊥) → None ≡ message_in body
no-text-read body never = no-text-by body (is_utf8 body) refl never

pub ruleset reading = (body-read, no-text-read)

-- ---- marks

pub text-is : (id : Data) (text shown copy : List ℕ) → (has_float id ≡ false → text ≡ compact_text id) → shown ≡ text → copy ≡ shown → IsTextOf id copy
text-is id text shown copy h e f = record { is = λ whole. f ∙ e ∙ h whole }

pub ruleset marking = (text-is)

-- ---- answers

pub answer-given : (s : Session) (id : List ℕ) (method : Method) (message : Data) (body : List ℕ) → IsAnswerAt s.stage s id method message body → IsAnswerOf s id method message body
answer-given s id method message body a = given a

pub answer-lacking : (s : Session) (id : List ℕ) (method : Method) (message : Data) (body : List ℕ) → body ≡ refusal_body id NoMemory (codes "out of memory") →
    IsAnswerOf s id method message body
answer-lacking s id method message body e = lacking e

pub answer-is : (s : Session) (id : Data) (method : Method) (message : Data) (text shown body : List ℕ) → IsTextOf id text → shown ≡ text → IsAnswerOf s shown method message body →
    IsAnswer s id method message body
answer-is s id method message text shown body mark e a = record { text = text; mark = mark; answer = subst (λ t. IsAnswerOf s t method message body) e a }

pub ruleset answering = (answer-given, answer-lacking, answer-is)

-- ---- sessions

pub answer-taken : (s : Session) (method : Method) (id message : Data) (t : Session) (body : List ℕ) (before after : List (List ℕ)) (flow : Flow) → t ≡ after_request s method →
    IsAnswer s id method message body → after ≡ before ++ body ∷ [] → flow ≡ Going → IsAnswered s method id message t before after flow
answer-taken s method id message t body before after flow e a f g = record { session = e; body = body; answer = a; sent = f; goes_on = g }

pub ruleset taking = (answer-taken)
