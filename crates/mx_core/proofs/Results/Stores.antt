-- What stores come to, with their events.
use Rattle.std.proofs.Common.{◌≡◌, ◌<◌, ◌≤◌, ℕ, ◌^◌, ◌==◌, ◌||◌, ◌&&◌, Bool, true, false, if◌then◌else◌, Option, None, Some, Result, Ok, Err, refl, sym, ap, ◌∙◌, arith}
use Rattle.mx_alu.specs.declared.answer.Event.{Event}
use Rattle.mx_mem.specs.declared.part.Part.{Part}
use Rattle.mx_code.specs.SpecialRegisters.{rA}
use Rattle.mx_alu.specs.Trips.{decided}
use Rattle.mx_alu.specs.declared.decision.Trip.{Trip}
use Rattle.mx_alu.specs.declared.decision.Trip.TheVariants.{Taken, Noted}
use Rattle.std.proofs.lemmas.Bool.Decides.{nat_tests}
use Rattle.mx_alu.specs.declared.answer.Event.TheVariants.{Overflow}
use Rattle.mx_code.specs.declared.stop.Stop.{Stop}
use Rattle.mx_code.specs.declared.stop.Stop.TheVariants.{Stopped}
use Rattle.mx_core.proofs.Results.Answered.{unless-ok, unless-err}
use Rattle.mx_core.proofs.Results.Pages.{absent-made}
use Rattle.mx_core.specs.Way.Calls.{is_made, makes_page, left, store_outcome, unless, store_seen, store_raised, store_decided, store_settled}
use Rattle.mx_core.specs.Deeds.{applied, onward, outcome, state_done, deed_of, unless_refused, loads_in_segment, stores_in_segment}
use Rattle.mx_code.specs.LoadsAndStores.{stored_part, stored_value, stored_event}
use Rattle.mx_core.specs.Effects.{Effect, Store, effect_of, data_address, x_register, going_on, stored_in, with_event, with_decision}
use Rattle.mx_code.specs.Instructions.{x_of, next_of}
use Rattle.mx_code.specs.declared.instruction.Instruction.{Instruction}
use Rattle.mx_word.specs.Segments.{is_in_stack_segment}
use Rattle.mx_core.specs.State.{State, begins_page, special_register, is_negative, is_page_refused, tetra}
use Rattle.mx_core.specs.Way.Stepping.{begins_page_at, needs_page}
use Rattle.mx_core.specs.Stops.{reason_where, first_reason, form_fault, stack_fault, load_fault, store_fault, trip_fault, page_fault}
use Rattle.mx_code.specs.declared.operation.Storing.{Storing}
use Rattle.mx_code.specs.declared.operation.Operation.TheVariants as op
use Rattle.mx_code.specs.declared.trace.Touch.{Touch}
use Rattle.mx_code.specs.declared.reason.Reason.{Reason}
use Rattle.mx_code.specs.declared.reason.Reason.TheVariants.{Negative, UnhandledTrip, PagesFull}

-- the address decides first, then the trip, then the page
store-cases : (neg unhandled full : Bool) (done to : State) → done ≡ to →
    unless_refused (first_reason (reason_where neg Negative) (first_reason (reason_where unhandled UnhandledTrip) (reason_where full PagesFull))) done
    ≡ (if neg then Err Negative else if unhandled then Err UnhandledTrip else unless full PagesFull to)
store-cases true unhandled full done to e = refl
store-cases false true full done to e = refl
store-cases false false true done to e = refl
store-cases false false false done to e = ap Ok e

store-cases-plain : (neg full : Bool) (done to : State) → done ≡ to →
    unless_refused (first_reason (reason_where neg Negative) (first_reason None (reason_where full PagesFull))) done ≡ (if neg then Err Negative else unless full PagesFull to)
store-cases-plain true full done to e = refl
store-cases-plain false true done to e = refl
store-cases-plain false false done to e = ap Ok e

-- what an effect without a destination and without loads comes to, of an operation whose form is right
abbrev from_store : State → Instruction → Effect → Store → Result State Reason
from_store s i e st =
    unless_refused (first_reason (reason_where (is_negative st.at) Negative) (first_reason (trip_fault s e.trip) (reason_where (is_page_refused s st.at) PagesFull)))
    (record (applied s i 0 e) { touched = s.touched || is_in_stack_segment st.at })

abbrev stores : Instruction → Store → Effect
stores i st = record (going_on i) { store = Some st }

decided-is : (s : State) (i : Instruction) (a x : ℕ) (part : Part) (v : ℕ) (t : Trip) →
    from_store s i (with_decision t a x (stores i (stored_in a part v))) (stored_in a part v) ≡ store_decided s i a part v x t
unfolding applied special_register
decided-is s i a x part v (Taken handler) = store-cases (is_negative a) (tetra s handler == 0) (is_page_refused s a) _ _ refl
decided-is s i a x part v (Noted b) = store-cases-plain (is_negative a) (is_page_refused s a) _ _ refl

raised-is : (s : State) (i : Instruction) (a x : ℕ) (part : Part) (v : ℕ) (event : Option Event) →
    from_store s i (with_event s event a x (stores i (stored_in a part v))) (stored_in a part v) ≡ store_raised s i a part v x event
unfolding applied
raised-is s i a x part v None = store-cases-plain (is_negative a) (is_page_refused s a) _ _ refl
raised-is s i a x part v (Some event) = decided-is s i a x part v (decided (special_register s rA) event)

-- an event adds no load and no other store
event-store : (s : State) (i : Instruction) (a x : ℕ) (st : Store) (event : Option Event) → (with_event s event a x (stores i st)).store ≡ Some st
event-store s i a x st None = refl
event-store s i a x st (Some event) = by (decided (special_register s rA) event)
  where
    by : (t : Trip) → (with_decision t a x (stores i st)).store ≡ Some st
    by (Taken handler) = refl
    by (Noted b) = refl

event-load : (s : State) (i : Instruction) (a x : ℕ) (st : Store) (event : Option Event) → (with_event s event a x (stores i st)).load ≡ None
event-load s i a x st None = refl
event-load s i a x st (Some event) = by (decided (special_register s rA) event)
  where
    by : (t : Trip) → (with_decision t a x (stores i st)).load ≡ None
    by (Taken handler) = refl
    by (Noted b) = refl

-- the same of any effect, with what it loads and stores
abbrev whole : State → Instruction → Effect → Option Touch → Option Store → Result State Reason
whole s i e load store =
    unless_refused (first_reason (load_fault load) (first_reason (store_fault store) (first_reason (trip_fault s e.trip) (page_fault s store))))
    (record (applied s i 0 e) { touched = s.touched || (loads_in_segment load || stores_in_segment store) })

pub store_outcome_is : (how : Storing) (s : State) (i : Instruction) → outcome s (deed_of (op.Store how) s i) ≡ store_settled s i how (data_address s i) (x_register s i)
unfolding effect_of form_fault stack_fault store_settled
store_outcome_is how s i =
    let a = data_address s i in
    let x = x_register s i in
    let st = stored_in a (stored_part how) (stored_value how x (x_of i)) in
    let event = stored_event how x in
    let e = with_event s event a x (stores i st) in
    ap (λ l. whole s i e l e.store) (event-load s i a x st event)
    ∙ ap (λ t. whole s i e None t) (event-store s i a x st event)
    ∙ raised-is s i a x (stored_part how) (stored_value how x (x_of i)) event

-- the page that it needs
page-of-store : (how : Storing) (s : State) (i : Instruction) → begins_page_at s (deed_of (op.Store how) s i).effect.store ≡ begins_page s (data_address s i)
unfolding effect_of
page-of-store how s i =
    let x = x_register s i in
    ap (begins_page_at s) (event-store s i (data_address s i) x (stored_in (data_address s i) (stored_part how) (stored_value how x (x_of i))) (stored_event how x))

pub store_page : (how : Storing) (s : State) (i : Instruction) (a : ℕ) → a ≡ data_address s i → needs_page s (deed_of (op.Store how) s i) ≡ makes_page s a (outcome s (deed_of (op.Store how) s i))
store_page how s i a e =
    let d = deed_of (op.Store how) s i in
    ap (λ b. b && begins_page_at s d.effect.store) (absent-made d.refused (state_done s d))
    ∙ ap (λ b. is_made (outcome s d) && b) (page-of-store how s i ∙ ap (λ b. begins_page s b) (sym e))

-- FOR THE CODE

raised-negative : (s : State) (i : Instruction) (a x : ℕ) (part : Part) (v : ℕ) (event : Option Event) → is_negative a ≡ true → store_raised s i a part v x event ≡ Err Negative
raised-negative s i a x part v None n = rw n refl
raised-negative s i a x part v (Some event) n = by (decided (special_register s rA) event)
  where
    by : (t : Trip) → store_decided s i a part v x t ≡ Err Negative
    by (Taken handler) = rw n refl
    by (Noted b) = rw n refl

pub store_negative : (how : Storing) (s : State) (i : Instruction) (a : ℕ) → a ≡ data_address s i → 2 ^ 63 ≤ a → outcome s (deed_of (op.Store how) s i) ≡ Err Negative
unfolding store_settled
store_negative how s i a e l =
    let n : is_negative (data_address s i) ≡ true = grind (arith, nat_tests) in
    store_outcome_is how s i ∙ raised-negative s i (data_address s i) (x_register s i) (stored_part how) (stored_value how (x_register s i) (x_of i)) (stored_event how (x_register s i)) n

pub store_plain : (how : Storing) (s : State) (i : Instruction) (a x : ℕ) → a ≡ data_address s i → x ≡ x_register s i → a < 2 ^ 63 → stored_event how x ≡ None →
    outcome s (deed_of (op.Store how) s i) ≡ unless (is_page_refused s a) PagesFull (onward (store_seen s a (stored_part how) (stored_value how x (x_of i))) (next_of i))
unfolding store_settled
store_plain how s i a x e f l none =
    let n : is_negative a ≡ false = grind (arith, nat_tests) in
    store_outcome_is how s i
    ∙ ap (λ b. store_settled s i how b (x_register s i)) (sym e) ∙ ap (λ b. store_settled s i how a b) (sym f)
    ∙ rw none (rw n refl)

pub store_overflow : (how : Storing) (s : State) (i : Instruction) (a x : ℕ) (t : Trip) → stored_event how x ≡ Some Overflow → decided (special_register s rA) Overflow ≡ t →
    store_settled s i how a x ≡ store_decided s i a (stored_part how) (stored_value how x (x_of i)) x t
unfolding store_settled
store_overflow how s i a x t e f = rw e (ap (λ (t : Trip). store_decided s i a (stored_part how) (stored_value how x (x_of i)) x t) f)

-- a store that is made, and one that is refused
pub stored-ok : (s t : State) (a : ℕ) (part : Part) (v : ℕ) → (Ok tt, t) ≡ left s (store_outcome s a part v) → (is_page_refused s a ≡ false) × (t ≡ store_seen s a part v)
unfolding store_outcome
stored-ok s t a part v e = unless-ok (is_page_refused s a) PagesFull s t (store_seen s a part v) e

pub stored-err : (s t : State) (a : ℕ) (part : Part) (v : ℕ) (stop : Stop) → (Err stop, t) ≡ left s (store_outcome s a part v) → (is_page_refused s a ≡ true) × (stop ≡ Stopped PagesFull) × (t ≡ s)
unfolding store_outcome
stored-err s t a part v stop e = unless-err (is_page_refused s a) PagesFull s t (store_seen s a part v) stop e
