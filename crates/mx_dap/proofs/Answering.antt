-- What a request is answered.
use Rattle.std.proofs.Common.{◌≡◌, ◌∙◌, inl, inr, ap, subst}
use Rattle.std.specs.Prelude.{Option, Some, codes}
use Rattle.mx_adapter.specs.Messages.{and_then, answered, refused}
use Rattle.mx_adapter.specs.Numbers.{Sent}
use Rattle.mx_adapter.specs.declared.outbox.Answer.{Answer}
use Rattle.mx_adapter.specs.declared.requests.Request.{Request}
use Rattle.mx_dap.specs.Answered.{AnswersEarly, after_answer}

pub answered-early : (request : Request) (early : Option Answer) (answer : Answer) (before start between after : Sent) →
    after ≡ after_answer request.command between → between ≡ and_then start (answered request answer) → start ≡ before →
    ((a : Answer) → early ≡ Some a → answer ≡ a) → AnswersEarly request early before after
answered-early request early answer before start between after k h s g =
    subst (λ x. AnswersEarly request early x after) s
    (record { each = λ a e. inl (k ∙ ap (after_answer request.command) (h ∙ ap (λ b. and_then start (answered request b)) (g a e))) })

pub refused-early : (request : Request) (early : Option Answer) (before start after : Sent) →
    after ≡ and_then start (refused request (codes "out of memory")) → start ≡ before → AnswersEarly request early before after
refused-early request early before start after e s = subst (λ x. AnswersEarly request early x after) s (record { each = λ a same. inr e })

pub ruleset answering = (answered-early, refused-early)
