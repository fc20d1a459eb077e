-- Of each request one answer is sent, and of a notification none.
use Rattle.std.proofs.Common.{◌≡◌, ℕ, List, [], ◌∷◌, ◌++◌, Option, None, Some, codes, inl, inr, refl, ap, sym, ◌∙◌, subst, arith, get_or, append_assoc, append-nil}
use Rattle.std.specs.List.{flat_map}
use Rattle.mx_diagnostics.specs.Diagnostics.{diagnostics_of}
use Rattle.mx_diagnostics.specs.Published.{diagnostic_json, list_name, method as published_method, notice}
use Rattle.mx_diagnostics.specs.declared.diagnostic.Diagnostic.{Diagnostic}
use Rattle.mx_json.specs.Json.{array, string}
use Rattle.mx_word.specs.Lists.{IsFront}
use Rattle.mx_wire.specs.Replies.{answer_front, notice_front, notice_open, params_name, refusal_body, result_body}
use Rattle.mx_wire.specs.declared.replies.Refused.{Refused}
use Rattle.mx_wire.specs.declared.replies.Refused.TheVariants.{NoJson}
use Rattle.serde_json.specs.Data.{Data, null}
use Rattle.mx_lsp.specs.Messages.{id_of, message_in, method_of, uri_of}
use Rattle.mx_lsp.specs.Once.{AreAnswered, IsNotice, Sends, Takes, mark_with, marks_in, marks_of}
use Rattle.mx_lsp.specs.Once.AreAnswered.{nothing, answered, noticed}
use Rattle.mx_lsp.specs.Once.Takes.{at_end, one_more}
use Rattle.mx_lsp.specs.Requests.{IsReplyTo, Replies}
use Rattle.mx_lsp.specs.Sessions.{IsBodyTaken, IsMarkTaken, IsTakenAs, IsTakenIf, changed_text, notices_at, notices_by, notices_if, notices_of, opened_text}
use Rattle.mx_lsp.specs.declared.message.Method.{Method}
use Rattle.mx_lsp.specs.declared.message.Method.TheVariants.{Tells}
use Rattle.mx_lsp.specs.declared.message.Notice.{Notice}
use Rattle.mx_lsp.specs.declared.message.Notice.TheVariants.{DidOpen, DidChange, DidClose}
use Rattle.mx_lsp.specs.declared.session.Session.{Session}
use Rattle.mx_lsp.specs.declared.session.Flow.{Flow}
use Rattle.mx_lsp.specs.declared.session.Stage.{Stage}
use Rattle.mx_lsp.specs.declared.session.Stage.TheVariants.{Waiting, Serving, Shut}
use Rattle.mx_lsp.proofs.Carried.{mark-carried}

-- ---- notices

longer : (front whole more : List ℕ) → IsFront front whole → IsFront front (whole ++ more)
longer front whole more h = (h.0 ++ more, ap (λ text. text ++ more) h.1 ∙ append_assoc front h.0 more)

notice-begun : (method : List ℕ) → IsFront notice_open (notice_front method)
unfolding notice_front
notice-begun method = longer notice_open (notice_open ++ method) params_name (method, refl)

notice-is : (uri : List ℕ) (told : List Diagnostic) → IsNotice (notice uri told)
unfolding notice
notice-is uri told =
    let begun = notice-begun published_method in
    let named = longer notice_open (notice_front published_method ++ codes "{\"uri\":") (string uri) (longer notice_open (notice_front published_method) (codes "{\"uri\":") begun) in
    let listed = longer notice_open (notice_front published_method ++ codes "{\"uri\":" ++ string uri) list_name named in
    let whole = longer notice_open (notice_front published_method ++ codes "{\"uri\":" ++ string uri ++ list_name) (array diagnostic_json told) listed in
    longer notice_open (notice_front published_method ++ codes "{\"uri\":" ++ string uri ++ list_name ++ array diagnostic_json told) (codes "}}") whole

one-notice : (uri : List ℕ) (told : List Diagnostic) → AreAnswered [] (notice uri told ∷ [])
one-notice uri told = noticed [] (notice uri told) [] (notice-is uri told) nothing

change-noticed : (uri : List ℕ) (text : Option (List ℕ)) → AreAnswered [] (notices_if uri text)
change-noticed uri None = nothing
change-noticed uri (Some text) = one-notice uri (diagnostics_of text)

told-noticed : (s : Session) (told : Notice) (message : Data) → AreAnswered [] (notices_of s told message)
told-noticed s DidOpen message = one-notice (uri_of message) (diagnostics_of (opened_text message))
told-noticed s DidChange message = change-noticed (uri_of message) (changed_text s message)
told-noticed s DidClose message = one-notice (uri_of message) []

stage-noticed : (stage : Stage) (s : Session) (told : Notice) (message : Data) → AreAnswered [] (notices_at stage s told message)
stage-noticed Waiting s told message = nothing
stage-noticed Serving s told message = told-noticed s told message
stage-noticed Shut s told message = nothing

method-noticed : (s : Session) (method : Method) (message : Data) → AreAnswered [] (notices_by s method message)
method-noticed s (Tells told) message = stage-noticed s.stage s told message
method-noticed s method message = nothing

-- the names of the second members differ
bytes-differ : ◌≡◌ {A = ℕ} 105 109 → ⊥
bytes-differ e = omega (arith, e)

no-result : (text value rest : List ℕ) → result_body text value ≡ notice_open ++ rest → ⊥
unfolding answer_front notice_open result_body
no-result text value rest e = bytes-differ (ap (λ bytes. get_or bytes 18 0) e)

no-refusal : (text why rest : List ℕ) (refused : Refused) → refusal_body text refused why ≡ notice_open ++ rest → ⊥
unfolding answer_front notice_open
no-refusal text why rest refused e = bytes-differ (ap (λ bytes. get_or bytes 18 0) e)

no-reply : (text body rest : List ℕ) → Replies text body → body ≡ notice_open ++ rest → ⊥
no-reply text body rest (inl h) n = no-result text h.0 rest (sym h.1 ∙ n)
no-reply text body rest (inr h) n = no-refusal text h.why rest h.refused (sym h.is ∙ n)

pub notice-no-answer : (id : Data) (body : List ℕ) → IsReplyTo id body → IsNotice body → ⊥
notice-no-answer id body r n = no-reply r.text body n.0 r.reply n.1

-- ---- one body

mark-sends : (s : Session) (method : Method) (id : Option Data) (message : Data) (t : Session) (before after : List (List ℕ)) (flow : Flow) →
    IsMarkTaken s method id message t before after flow → Sends (mark_with (Some method) id) before after
mark-sends s method None message t before after flow h = record { sent = notices_by s method message; added = h.sent; answers = method-noticed s method message }
mark-sends s method (Some id) message t before after flow h =
    record { sent = h.body ∷ []; added = h.sent; answers = answered id [] h.body [] (mark-carried s id method message h.body h.answer) nothing }

method-sends : (s : Session) (method : Option Method) (message : Data) (t : Session) (before after : List (List ℕ)) (flow : Flow) →
    IsTakenAs s method message t before after flow → Sends (mark_with method (id_of message)) before after
method-sends s None message t before after flow h = record { sent = []; added = h.sent ∙ sym (append-nil before); answers = nothing }
method-sends s (Some method) message t before after flow h = mark-sends s method (id_of message) message t before after flow h

refusal-carried : IsReplyTo null (refusal_body (codes "null") NoJson (codes "this is no JSON"))
refusal-carried = record { text = codes "null"; mark = record { is = λ e. refl }; reply = inr (record { refused = NoJson; why = codes "this is no JSON"; is = refl }) }

message-sends : (s : Session) (message : Option Data) (t : Session) (before after : List (List ℕ)) (flow : Flow) →
    IsTakenIf s message t before after flow → Sends (marks_in message) before after
message-sends s None t before after flow h =
    record { sent = refusal_body (codes "null") NoJson (codes "this is no JSON") ∷ []; added = h.sent; answers = answered null [] _ [] refusal-carried nothing }
message-sends s (Some message) t before after flow h = method-sends s (method_of message) message t before after flow h

pub body-sends : (s t : Session) (body : List ℕ) (before after : List (List ℕ)) (flow : Flow) → IsBodyTaken s body t before after flow → Sends (marks_of body) before after
body-sends s t body before after flow h = message-sends s (message_in body) t before after flow h

-- ---- many bodies

both-answered : {ids ks : List Data} {xs ys : List (List ℕ)} → AreAnswered ids xs → AreAnswered ks ys → AreAnswered (ids ++ ks) (xs ++ ys)
both-answered nothing g = g
both-answered (answered id ids body bodies c h) g = answered id _ body _ c (both-answered h g)
both-answered (noticed ids body bodies n h) g = noticed _ body _ n (both-answered h g)

first-answered : (body : List ℕ) (sent : List (List ℕ)) → Sends (marks_of body) [] sent → AreAnswered (marks_of body) sent
first-answered body sent h = subst (AreAnswered (marks_of body)) (sym h.added) h.answers

bodies-answered : {s t : Session} {bodies sent : List (List ℕ)} → Takes s bodies sent t → AreAnswered (flat_map marks_of bodies) sent
bodies-answered (at_end s) = nothing
bodies-answered (one_more s t u body later sent more flow h k) = both-answered (first-answered body sent (body-sends s t body [] sent flow h)) (bodies-answered k)

pub all-answered : (s t : Session) (bodies sent : List (List ℕ)) → Takes s bodies sent t → AreAnswered (flat_map marks_of bodies) sent
all-answered s t bodies sent h = bodies-answered h
