-- The message that follows an outcome.
use Rattle.std.proofs.Common.{◌≡◌, ◌≢◌, ◌⊎◌, inl, inr, ℕ, List, [], ◌∷◌, refl, sym, ap, subst}
use Rattle.mx_host.specs.HostModel.{HostModel}
use Rattle.mx_plan.specs.Calls.{host, need, write_plan}
use Rattle.mx_plan.specs.Held.{KeepsStreams}
use Rattle.mx_plan.specs.Plan.{bind, end_of}
use Rattle.mx_plan.proofs.HeldLaws.{held-end}
use Rattle.mx_plan.proofs.Streams.{streams-held}
use Rattle.mx_word.specs.Lists.{IsFront}
use Rattle.mx_word.proofs.Fronts.{front-self, front-through}
use Rattle.mx_plan.specs.Wild.{ends, meets_wild}
use Rattle.mx_files.specs.Answers.{Answer, plainly, output_of}
use Rattle.mx_outcome.specs.Messages.{message_of}
use Rattle.mx_outcome.specs.declared.outcome.Outcome.{Outcome}
use Rattle.mx_outcome.specs.declared.outcome.Outcome.TheVariants.{Done, Usage, NoFile, HostFault, Refused, BadObject, BadSchedule, Stopped, StepsSpent, Quit, ConsoleLimit, OutOfMemory}
use Rattle.mx_top.specs.Telling.{message_if, message_plan, with_message}

-- ---- it changes no outcome

pub plain-as : (outcome : Outcome) (t : Outcome × HostModel) → t.0 ≡ outcome → plainly t ≡ ends outcome t.1
plain-as outcome (said, m) e = ap (λ o. ends o m) e

said-if : (outcome : Outcome) (text : List ℕ) (m : HostModel) → (end_of host (message_if outcome text) m).0 ≡ outcome
unfolding bind need write_plan end_of host
said-if outcome [] m = refl
said-if outcome (b ∷ bs) m = refl

pub message-said : (outcome : Outcome) (m : HostModel) → with_message (ends outcome m) ≡ ends outcome (end_of host (message_plan outcome) m).1
unfolding message_plan
message-said outcome m = plain-as outcome (end_of host (message_if outcome (message_of outcome)) m) (said-if outcome (message_of outcome) m)

-- where there is none, nothing is done
message-none : (outcome : Outcome) (m : HostModel) → message_of outcome ≡ [] → with_message (ends outcome m) ≡ ends outcome m
unfolding message_plan end_of
message-none outcome m e = ap (λ (text : List ℕ). plainly (end_of host (message_if outcome text) m)) e

pub done-said : (status : ℕ) (m : HostModel) → with_message (ends (Done status) m) ≡ ends (Done status) m
done-said status m = message-none (Done status) m refl

-- ---- what is written before it is a front of what is written with it

message-front : (due : Answer) → IsFront (output_of due) (output_of (with_message due))
message-front (ends outcome m) = subst (λ (a : Answer). IsFront m.output (output_of a)) (sym (message-said outcome m)) (held-end host KeepsStreams streams-held (message_plan outcome) m).growing
message-front (meets_wild m) = front-self m.output

-- whether there was memory
pub wanting : (outcome : Outcome) → (outcome ≡ OutOfMemory) ⊎ (outcome ≢ OutOfMemory)
wanting OutOfMemory = inl refl
wanting (Done b) = inr (λ e. cc)
wanting (Usage fault) = inr (λ e. cc)
wanting NoFile = inr (λ e. cc)
wanting HostFault = inr (λ e. cc)
wanting (Refused line fault from_line) = inr (λ e. cc)
wanting (BadObject place fault) = inr (λ e. cc)
wanting (BadSchedule place) = inr (λ e. cc)
wanting (Stopped pc reason) = inr (λ e. cc)
wanting (StepsSpent steps) = inr (λ e. cc)
wanting Quit = inr (λ e. cc)
wanting ConsoleLimit = inr (λ e. cc)

pub spoken-front : (outcome : Outcome) (here : HostModel) (due : Answer) → (outcome ≢ OutOfMemory → ends outcome here ≡ due) → (outcome ≡ OutOfMemory → IsFront here.output (output_of due)) →
    IsFront here.output (output_of (with_message due))
spoken-front outcome here due same front = on (wanting outcome)
  where
    on : (outcome ≡ OutOfMemory) ⊎ (outcome ≢ OutOfMemory) → IsFront here.output (output_of (with_message due))
    on (inl e) = front-through here.output (output_of due) (output_of (with_message due)) (front e) (message-front due)
    on (inr ne) = subst (λ (a : Answer). IsFront here.output (output_of (with_message a))) (same ne) (message-front (ends outcome here))
