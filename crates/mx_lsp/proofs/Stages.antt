-- Requests before `initialize` and after `shutdown`.
use Rattle.std.proofs.Common.{◌≡◌, ◌⊎◌, ℕ, List, codes, inl, inr, refl, subst}
use Rattle.mx_wire.specs.Replies.{refusal_body}
use Rattle.mx_wire.specs.declared.replies.Refused.TheVariants.{NoMemory, NoRequest, TooEarly}
use Rattle.serde_json.specs.Data.{Data}
use Rattle.mx_lsp.specs.Requests.{IsAnswer, IsAnswerAt, IsAnswerOf, IsRefusedAs, Refuses, waiting_answer}
use Rattle.mx_lsp.specs.Requests.IsAnswerOf.{given, lacking}
use Rattle.mx_lsp.specs.declared.message.Method.{Method}
use Rattle.mx_lsp.specs.declared.message.Method.TheVariants.{Initialize}
use Rattle.mx_lsp.specs.declared.session.Session.{Session}
use Rattle.mx_lsp.specs.declared.session.Stage.TheVariants.{Waiting, Shut}

waiting-refused : (text : List ℕ) (method : Method) (body : List ℕ) → (method ≡ Initialize → ⊥) → body ≡ waiting_answer text method →
    body ≡ refusal_body text TooEarly (codes "initialize has not come")
waiting-refused text Initialize body never e = absurd (never refl)
waiting-refused text method body never e = e

pub waiting-else : (text : List ℕ) (method : Method) → (method ≡ Initialize → ⊥) → refusal_body text TooEarly (codes "initialize has not come") ≡ waiting_answer text method
waiting-else text Initialize never = absurd (never refl)
waiting-else text method never = refl

early-refused : (s : Session) (text : List ℕ) (method : Method) (message : Data) (body : List ℕ) → s.stage ≡ Waiting → (method ≡ Initialize → ⊥) →
    IsAnswerOf s text method message body → Refuses text TooEarly body ⊎ Refuses text NoMemory body
early-refused s text method message body e never (given a) =
    inl (codes "initialize has not come", waiting-refused text method body never (subst (λ stage. IsAnswerAt stage s text method message body) e a))
early-refused s text method message body e never (lacking a) = inr (codes "out of memory", a)

late-refused : (s : Session) (text : List ℕ) (method : Method) (message : Data) (body : List ℕ) → s.stage ≡ Shut →
    IsAnswerOf s text method message body → Refuses text NoRequest body ⊎ Refuses text NoMemory body
late-refused s text method message body e (given a) =
    inl (codes "the session is shut down", subst (λ stage. IsAnswerAt stage s text method message body) e a)
late-refused s text method message body e (lacking a) = inr (codes "out of memory", a)

pub refused-before : (s : Session) (id : Data) (method : Method) (message : Data) (body : List ℕ) → s.stage ≡ Waiting → (method ≡ Initialize → ⊥) →
    IsAnswer s id method message body → IsRefusedAs TooEarly id body
refused-before s id method message body e never a = record { text = a.text; mark = a.mark; refusal = early-refused s a.text method message body e never a.answer }

pub refused-after : (s : Session) (id : Data) (method : Method) (message : Data) (body : List ℕ) → s.stage ≡ Shut →
    IsAnswer s id method message body → IsRefusedAs NoRequest id body
refused-after s id method message body e a = record { text = a.text; mark = a.mark; refusal = late-refused s a.text method message body e a.answer }
