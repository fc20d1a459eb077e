-- A file trap whose request is refused leaves the machine as it was.
use Rattle.std.proofs.Common.{◌≡◌, ℕ, true, false, Ok, Err, refl, sym, ap, ◌∙◌}
use Rattle.std.specs.Prelude.{Result}
use Rattle.mx_alu.specs.declared.call.TrapCall.{TrapCall}
use Rattle.mx_trap.specs.Answers.{stop_number}
use Rattle.mx_trap.specs.Clauses.{IsStopped, StopsByPages}
use Rattle.mx_trap.specs.Requests.{request_of}
use Rattle.mx_trap.specs.declared.answer.TrapAnswer.{TrapAnswer}
use Rattle.mx_trap.specs.declared.answer.TrapAnswer.TheVariants as trap
use Rattle.mx_trap.specs.declared.answer.TrapStop.{TrapStop}
use Rattle.mx_trap.specs.declared.answer.TrapStop.TheVariants.{Negative, WideTrap, TransferTooLarge, TrapPagesFull, UnknownTrap}
use Rattle.mx_core.specs.MachineSpace.{machine_contents, IsWholeSpace, state_in}
use Rattle.mx_core.specs.State.{State}
use Rattle.mx_core.proofs.Spaces.States.{told}
use Rattle.mx_run.specs.Turns.{area_size, moves_before, moves_bytes, may_change}
use Rattle.mx_run.specs.declared.turn_answer.TurnAnswer.TheVariants as answer

by-result : {A E : Type 0} (P : Result A E → Type 0) → ((a : A) → P (Ok a)) → ((e : E) → P (Err e)) → (r : Result A E) → P r
by-result P f g (Ok a) = f a
by-result P f g (Err e) = g e

same-told : (s t : State) → IsWholeSpace s → IsWholeSpace t → machine_contents t ≡ machine_contents s → t ≡ s
same-told s t h k e = sym (told t k) ∙ ap (λ c. state_in c area_size) e ∙ told s h

by-pages : (value : TrapAnswer) (P : Type 0) → StopsByPages value → moves_bytes value ≡ false → P
by-pages (trap.Value x) P h e = absurd (cc)
by-pages trap.Halt P h e = absurd (cc)
by-pages (trap.Stopped why) P h e = let wrong : true ≡ false = sym (ap moves_before h) ∙ e in absurd (cc)
by-pages trap.OutOfMemory P h e = absurd (cc)

pub refused-same : (H : Type 0) (bytes : ℕ → ℕ) (call : TrapCall) (value : TrapAnswer) (s t : State) → IsWholeSpace s → IsWholeSpace t → IsStopped (request_of bytes call) value ((machine_contents t ≡ machine_contents s) × H) →
    moves_bytes value ≡ false → t ≡ s
refused-same H bytes call value s t h k x e =
    by-result (λ r. IsStopped r value ((machine_contents t ≡ machine_contents s) × H) → t ≡ s) (λ request p. by-pages value (t ≡ s) p e) (λ why p. same-told s t h k p.1.0) (request_of bytes call) x

pub stop-changes : (why : TrapStop) (number : ℕ) → number ≡ stop_number why → may_change (answer.Stopped number) ≡ moves_before why
stop-changes Negative number e = rw e refl
stop-changes WideTrap number e = rw e refl
stop-changes TransferTooLarge number e = rw e refl
stop-changes TrapPagesFull number e = rw e refl
stop-changes UnknownTrap number e = rw e refl

pub ruleset stops = (stop-changes)
