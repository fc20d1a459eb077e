-- What is sent where a request is answered.
use Rattle.std.specs.Prelude.{◌≡◌, ◌⊎◌, [], Option, Some, Result, IfOk, codes}
use Rattle.mx_adapter.specs.declared.commands.Command.{Command}
use Rattle.mx_adapter.specs.declared.commands.Command.TheVariants.{Terminate}
use Rattle.mx_adapter.specs.declared.outbox.Answer.{Answer}
use Rattle.mx_adapter.specs.declared.requests.Request.{Request}
use Rattle.mx_adapter.specs.Messages.{and_then, answered, refused, told}
use Rattle.mx_adapter.specs.Numbers.{Sent}
use Rattle.mx_word.specs.declared.no_memory.NoMemory.{NoMemory}

-- an answer that does not depend on the program, if there is one, is the one that is given
abbrev pub GivesEarly : Option Answer → Result Answer NoMemory → Type 0
GivesEarly early given = (a : Answer) → early ≡ Some a → IfOk given (λ answer. answer ≡ a)

-- after the answer to `terminate` the end is told
abbrev pub after_answer : Command → Sent → Sent
after_answer Terminate sent = and_then sent (told (codes "terminated") [])
after_answer _ sent = sent

-- a request has this answer, or it is refused because there is no memory
abbrev pub IsAnswered : Request → Answer → Sent → Sent → Type 0
IsAnswered request answer before after =
    (after ≡ after_answer request.command (and_then before (answered request answer)))
    ⊎ (after ≡ and_then before (refused request (codes "out of memory")))

-- so is a request whose answer does not depend on the program
pub record AnswersEarly (request : Request) (early : Option Answer) (before after : Sent) : Type 0 where
  pub each : (a : Answer) → early ≡ Some a → IsAnswered request a before after
