-- What instructions on whole numbers come to, with their events.
use Rattle.std.proofs.Common.{◌≡◌, ℕ, ◌==◌, ◌||◌, Bool, true, false, if◌then◌else◌, List, [], ◌∷◌, ◌++◌, Option, None, Some, Result, Ok, Err, refl, sym, ap, ◌∙◌}
use Rattle.mx_alu.specs.Answers.{value_alone, lone_value}
use Rattle.mx_alu.specs.declared.answer.Answer.{Answer}
use Rattle.mx_alu.specs.declared.answer.Event.{Event}
use Rattle.mx_ring.specs.Stack.{register, set_overfills}
use Rattle.mx_code.specs.SpecialRegisters.{rA, rH, rR}
use Rattle.mx_alu.specs.Trips.{decided}
use Rattle.mx_alu.specs.declared.decision.Trip.{Trip}
use Rattle.mx_alu.specs.declared.decision.Trip.TheVariants.{Taken, Noted}
use Rattle.mx_core.specs.Way.Calls.{trip_taken, event_settled, raised, told_specials, answer_outcome, settled, settled_with}
use Rattle.mx_core.specs.Deeds.{applied, onward, tripped, with_specials, outcome, deed_of, unless_refused, loads_in_segment, stores_in_segment}
use Rattle.mx_core.specs.Effects.{Effect, Tripping, giving, with_event, with_decision, effect_of, y_operand, z_operand, answered, alu_answer, if_told}
use Rattle.mx_code.specs.Instructions.{x_of, y_of, next_of}
use Rattle.mx_code.specs.declared.instruction.Instruction.{Instruction}
use Rattle.mx_core.specs.State.{State, with_value_in, with_local, special_register, tetra}
use Rattle.mx_core.specs.Stops.{reason_where, first_reason, form_fault, stack_fault, load_fault, store_fault, trip_fault, page_fault}
use Rattle.mx_code.specs.declared.operation.Operation.TheVariants as op
use Rattle.mx_code.specs.declared.reason.Reason.{Reason}
use Rattle.mx_code.specs.declared.reason.Reason.TheVariants.{StackFull, UnhandledTrip}
use Rattle.mx_core.proofs.Results.Outcomes.{or-false, specials-touched, same-touched, result-twice, settled-is, y_kept, z_kept}

-- what an effect comes to, of an operation whose form is right and whose destination is $k
abbrev pub from_effect : State → Instruction → ℕ → Effect → Result State Reason
from_effect s i k e =
    unless_refused
    (first_reason (load_fault e.load) (first_reason (store_fault e.store) (first_reason (reason_where (set_overfills s.stack k) StackFull) (first_reason (trip_fault s e.trip) (page_fault s e.store)))))
    (record (applied (with_local s k) i k e) { touched = s.touched || (loads_in_segment e.load || stores_in_segment e.store) })

-- a result with special registers
abbrev plain : Instruction → ℕ → List (ℕ × ℕ) → Effect
plain i v sp = record (giving i v) { special = sp }

taken-cases : (ov unhandled : Bool) (done to : State) → done ≡ to →
    unless_refused (first_reason (reason_where ov StackFull) (first_reason (reason_where unhandled UnhandledTrip) None)) done
    ≡ (if ov then Err StackFull else if unhandled then Err UnhandledTrip else Ok to)
taken-cases true unhandled done to e = refl
taken-cases false true done to e = refl
taken-cases false false done to e = ap Ok e

taken-is : (s : State) (i : Instruction) (v : ℕ) (sp : List (ℕ × ℕ)) (t : Tripping) → from_effect s i (x_of i) (record (plain i v sp) { trip = Some t }) ≡ trip_taken s i (x_of i) v sp t
unfolding applied
taken-is s i v sp t =
    taken-cases (set_overfills s.stack (x_of i)) (tetra s t.handler == 0) _ _
    (same-touched (onward (tripped (with_specials (with_value_in (with_local s (x_of i)) (x_of i) v) sp) i (Some t)) t.handler) (s.touched || false)
    (specials-touched (with_value_in (with_local s (x_of i)) (x_of i) v) sp ∙ sym (or-false s.touched))
    ∙ ap (λ (u : State). onward (tripped (with_specials u sp) i (Some t)) t.handler) (result-twice s (x_of i) (register s.stack (x_of i)) v))

decision-is : (s : State) (i : Instruction) (y z v : ℕ) (sp : List (ℕ × ℕ)) (t : Trip) → from_effect s i (x_of i) (with_decision t y z (plain i v sp)) ≡ event_settled s i v sp y z t
decision-is s i y z v sp (Taken handler) = taken-is s i v sp (record { handler = handler; y = y; z = z })
decision-is s i y z v sp (Noted a) = settled-is s i (x_of i) v (next_of i) None (sp ++ (rA, a) ∷ [])

event-is : (s : State) (i : Instruction) (y z v : ℕ) (sp : List (ℕ × ℕ)) (event : Option Event) → from_effect s i (x_of i) (with_event (with_local s (x_of i)) event y z (plain i v sp)) ≡ raised s i v sp y z event
unfolding special_register
event-is s i y z v sp None = settled-is s i (x_of i) v (next_of i) None sp
event-is s i y z v sp (Some event) = decision-is s i y z v sp (decided (special_register s rA) event)

answer-is : (s : State) (i : Instruction) (y z : ℕ) (a : Answer) → from_effect s i (x_of i) (answered (with_local s (x_of i)) i y z a) ≡ answer_outcome s i y z a
unfolding answer_outcome
answer-is s i y z a = event-is s i y z a.x (told_specials a) a.event

pub compute_outcome : (s : State) (i : Instruction) → outcome s (deed_of op.Compute s i) ≡ answer_outcome s i (y_operand s i) (z_operand s i) (alu_answer s i (y_operand s i) (z_operand s i))
unfolding effect_of form_fault stack_fault special_register
compute_outcome s i =
    answer-is s i (y_operand (with_local s (x_of i)) i) (z_operand (with_local s (x_of i)) i) (alu_answer s i (y_operand (with_local s (x_of i)) i) (z_operand (with_local s (x_of i)) i))
    ∙ ap (λ y. answer_outcome s i y (z_operand (with_local s (x_of i)) i) (alu_answer s i y (z_operand (with_local s (x_of i)) i))) (y_kept s i (x_of i))
    ∙ ap (λ z. answer_outcome s i (y_operand s i) z (alu_answer s i (y_operand s i) z)) (z_kept s i (x_of i))

pub negate_outcome : (s : State) (i : Instruction) → outcome s (deed_of op.Negate s i) ≡ answer_outcome s i (y_of i) (z_operand s i) (alu_answer s i (y_of i) (z_operand s i))
unfolding effect_of form_fault stack_fault special_register
negate_outcome s i =
    answer-is s i (y_of i) (z_operand (with_local s (x_of i)) i) (alu_answer s i (y_of i) (z_operand (with_local s (x_of i)) i))
    ∙ ap (λ z. answer_outcome s i (y_of i) z (alu_answer s i (y_of i) z)) (z_kept s i (x_of i))

-- a result alone is settled as it is
lone-by : (s : State) (i : Instruction) (y z x v : ℕ) (h r : Option ℕ) (event : Option Event) → Some x ≡ value_alone v h r event → raised s i v (if_told rH h ++ if_told rR r) y z event ≡ settled s (x_of i) x (next_of i)
unfolding settled
lone-by s i y z x v None None None e = let same : v ≡ x = cc in rw same refl
lone-by s i y z x v None None (Some event) e = absurd (cc)
lone-by s i y z x v None (Some p) event e = absurd (cc)
lone-by s i y z x v (Some p) r event e = absurd (cc)

lone-outcome : (s : State) (i : Instruction) (y z x : ℕ) (a : Answer) → Some x ≡ lone_value a → answer_outcome s i y z a ≡ settled s (x_of i) x (next_of i)
unfolding answer_outcome
lone-outcome s i y z x a e = lone-by s i y z x a.x a.h a.r a.event e

pub compute_alone : (s : State) (i : Instruction) (x : ℕ) → Some x ≡ lone_value (alu_answer s i (y_operand s i) (z_operand s i)) → outcome s (deed_of op.Compute s i) ≡ settled s (x_of i) x (next_of i)
compute_alone s i x e = compute_outcome s i ∙ lone-outcome s i (y_operand s i) (z_operand s i) x (alu_answer s i (y_operand s i) (z_operand s i)) e

given-by : (s : State) (i : Instruction) (y z : ℕ) (a : Answer) → a.event ≡ None → answer_outcome s i y z a ≡ settled_with s (x_of i) a.x (told_specials a) (next_of i)
unfolding answer_outcome
given-by s i y z a none = rw none refl

-- what an answer gives that raises no event
pub compute_given : (s : State) (i : Instruction) (a : Answer) → a ≡ alu_answer s i (y_operand s i) (z_operand s i) → a.event ≡ None →
    outcome s (deed_of op.Compute s i) ≡ settled_with s (x_of i) a.x (told_specials a) (next_of i)
compute_given s i a e none =
    compute_outcome s i ∙ ap (answer_outcome s i (y_operand s i) (z_operand s i)) (sym e) ∙ given-by s i (y_operand s i) (z_operand s i) a none

pub negate_alone : (s : State) (i : Instruction) (x : ℕ) → Some x ≡ lone_value (alu_answer s i (y_of i) (z_operand s i)) → outcome s (deed_of op.Negate s i) ≡ settled s (x_of i) x (next_of i)
negate_alone s i x e = negate_outcome s i ∙ lone-outcome s i (y_of i) (z_operand s i) x (alu_answer s i (y_of i) (z_operand s i)) e
