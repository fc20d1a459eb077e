-- What the machine's own calls answer, with the state that they leave.
use Rattle.std.specs.Prelude.{ℕ, IsTrue, ◌≡◌, ◌≢◌, OnErr, ◌+◌, ◌*◌, ◌%◌, ◌^◌, ◌&&◌, not, min, nat_lt, nat_le, Bool, true, false, if◌then◌else◌, Result, Ok, Err, List, [], ◌∷◌, ◌++◌, ◌==◌, ◌||◌, Option, None, Some}
use Rattle.mx_alu.specs.declared.answer.Answer.{Answer}
use Rattle.mx_alu.specs.declared.answer.Event.{Event}
use Rattle.mx_code.specs.Puts.{put_of}
use Rattle.mx_code.specs.declared.put.Put.{Put}
use Rattle.mx_code.specs.declared.put.Put.TheVariants as put
use Rattle.mx_core.specs.UserChanges.{with_put}
use Rattle.mx_code.specs.SpecialRegisters.{rA, rH, rR, rJ, rP, rS}
use Rattle.mx_alu.specs.Insertions.{is_marginal}
use Rattle.mx_alu.specs.Trips.{decided}
use Rattle.mx_alu.specs.declared.decision.Trip.{Trip}
use Rattle.mx_alu.specs.declared.decision.Trip.TheVariants.{Taken, Noted}
use Rattle.mx_ring.specs.declared.saved.Saved.{Saved}
use Rattle.mx_ring.specs.Stack.{Stack, hidden_count, set_overfills, push_overfills, pushed, pop_underflows, popped, save_overfills, saved, unsave_refused, unsaved, unsaved_specials, in_stack_area, stack_index}
use Rattle.mx_core.specs.Deeds.{onward, with_specials, with_stack, with_stack_marked, tripped, outcome, deed_of}
use Rattle.mx_code.specs.LoadsAndStores.{stored_part, stored_value, stored_event}
use Rattle.mx_core.specs.Effects.{x_register, y_operand, z_operand, specials_saved, specials_back, Tripping, if_told}
use Rattle.mx_code.specs.Instructions.{x_of, y_of, z_of, yz_of, xyz_of, next_of}
use Rattle.mx_code.specs.declared.instruction.Instruction.{Instruction}
use Rattle.mx_core.specs.Kept.{Kept, state_of}
use Rattle.mx_word.specs.Segments.{is_in_stack_segment}
use Rattle.mx_core.specs.State.{State, begins_page, with_local, global_start, locals, with_value_in, with_stored, is_page_refused, is_negative, with_special, tetra, special_register}
use Rattle.mx_mem.specs.declared.part.Part.{Part}
use Rattle.mx_mem.specs.declared.part.Part.TheVariants.{Octa}
use Rattle.mx_code.specs.declared.operation.Operation.{Operation}
use Rattle.mx_code.specs.declared.operation.Storing.{Storing}
use Rattle.mx_code.specs.declared.reason.Reason.{Reason}
use Rattle.mx_code.specs.declared.reason.Reason.TheVariants.{StackFull, Illegal, Privileged, Underflow, BadFrame, PagesFull, UnhandledTrip, Negative}
use Rattle.mx_core.specs.declared.changes.SetFault.{SetFault}
use Rattle.mx_code.specs.declared.stop.Stop.{Stop}
use Rattle.mx_code.specs.declared.stop.Stop.TheVariants.{Stopped, OutOfMemory}

-- an answer and the state that a call leaves
abbrev pub Left : Type 0
Left = Result (Unit {0}) Stop × State

-- what a call answers and leaves, where it makes another state or stops for a reason
abbrev pub left : State → Result State Reason → Left
left s (Ok t) = (Ok tt, t)
left s (Err reason) = (Err (Stopped reason), s)

-- a call makes this of the old machine
abbrev pub Makes : (State → Result State Reason) → Result (Unit {0}) Stop → Kept → Kept → Type 0
Makes f result old new = (result, state_of new) ≡ left (state_of old) (f (state_of old))

-- a call makes a state of the old machine, and nothing is refused
abbrev pub MakesState : (State → Result State Reason) → Kept → Kept → Type 0
MakesState f old new = Makes f (Ok tt) old new

-- a call that tells whether it made this of the old machine; where it did not nothing changed
abbrev pub MakesWhereTold : (State → Result State Reason) → Bool → Kept → Kept → Type 0
MakesWhereTold f told old new = IsTrue told → MakesState f old new

-- the same of all but the address and the count of steps, once the machine goes on at an address
abbrev pub MakesBefore : (State → Result State Reason) → ℕ → Bool → Kept → Kept → Type 0
MakesBefore f a told old new = IsTrue told → (Ok tt, onward (state_of new) a) ≡ left (state_of old) (f (state_of old))

abbrev pub KeepsWhereNot : Bool → Kept → Kept → Type 0
KeepsWhereNot told old new = told ≡ false → state_of new ≡ state_of old

-- the same, unless it finds no memory; then nothing changed
abbrev pub MakesWithMemory : (State → Result State Reason) → Result (Unit {0}) Stop → Kept → Kept → Type 0
MakesWithMemory f result old new = result ≢ Err OutOfMemory → Makes f result old new

abbrev pub KeepsOnErr : Result (Unit {0}) Stop → Kept → Kept → Type 0
KeepsOnErr result old new = OnErr result (state_of new ≡ state_of old)

-- out of memory only where memory is needed
abbrev pub LacksMemoryOnlyWhere : Bool → Result (Unit {0}) Stop → Type 0
LacksMemoryOnlyWhere needed (Ok done) = Unit {0}
LacksMemoryOnlyWhere needed (Err (Stopped reason)) = Unit {0}
LacksMemoryOnlyWhere needed (Err OutOfMemory) = IsTrue needed

-- whether a state is made, and nothing refused
abbrev pub is_made : Result State Reason → Bool
is_made (Ok t) = true
is_made (Err reason) = false

-- whether a state is made by a store at an address to a page that is not there
abbrev pub makes_page : State → ℕ → Result State Reason → Bool
makes_page s a made = is_made made && begins_page s a

-- a call performs an operation
abbrev pub Performs : Operation → Instruction → Result (Unit {0}) Stop → Kept → Kept → Type 0
Performs operation i result old new = Makes (λ s. outcome s (deed_of operation s i)) result old new

abbrev pub PerformsWithMemory : Operation → Instruction → Result (Unit {0}) Stop → Kept → Kept → Type 0
PerformsWithMemory operation i result old new = MakesWithMemory (λ s. outcome s (deed_of operation s i)) result old new

-- a state, unless it is refused for a reason
abbrev pub unless : Bool → Reason → State → Result State Reason
unless refused reason s = if refused then Err reason else Ok s

-- $k gets a value
unfoldable pub set_outcome : State → ℕ → ℕ → Result State Reason
set_outcome s k x = unless (set_overfills s.stack k) StackFull (with_value_in s k x)

-- $k gets a value, special registers get theirs, and the machine goes on at an address
abbrev pub settled_with : State → ℕ → ℕ → List (ℕ × ℕ) → ℕ → Result State Reason
settled_with s k x specials next =
    unless (set_overfills s.stack k) StackFull (onward (with_specials (with_value_in s k x) specials) next)

unfoldable pub settled : State → ℕ → ℕ → ℕ → Result State Reason
settled s k x next = settled_with s k x [] next

-- an operation does no more than that: $X gets a value, and the machine goes on after the instruction; or it goes on at an address
abbrev pub OnlySets : Operation → Instruction → ℕ → Kept → Type 0
OnlySets operation i x old = outcome (state_of old) (deed_of operation (state_of old) i) ≡ settled (state_of old) (x_of i) x (next_of i)

abbrev pub OnlyGoes : Operation → Instruction → ℕ → Kept → Type 0
OnlyGoes operation i to old = outcome (state_of old) (deed_of operation (state_of old) i) ≡ Ok (onward (state_of old) to)

-- a trip to a handler, once $k and special registers have their values: it is refused where the handler does not begin
-- with an instruction
abbrev pub trip_taken : State → Instruction → ℕ → ℕ → List (ℕ × ℕ) → Tripping → Result State Reason
trip_taken s i k x specials trip =
    if set_overfills s.stack k then Err StackFull
    else if tetra s trip.handler == 0 then Err UnhandledTrip
    else Ok (onward (tripped (with_specials (with_value_in s k x) specials) i (Some trip)) trip.handler)

-- the same with an event, that trips or is noted in rA
abbrev pub event_settled : State → Instruction → ℕ → List (ℕ × ℕ) → ℕ → ℕ → Trip → Result State Reason
event_settled s i x specials y z (Taken handler) =
    trip_taken s i (x_of i) x specials (record { handler = handler; y = y; z = z })
event_settled s i x specials y z (Noted a) = settled_with s (x_of i) x (specials ++ (rA, a) ∷ []) (next_of i)

abbrev pub raised : State → Instruction → ℕ → List (ℕ × ℕ) → ℕ → ℕ → Option Event → Result State Reason
raised s i x specials y z None = settled_with s (x_of i) x specials (next_of i)
raised s i x specials y z (Some event) = event_settled s i x specials y z (decided (special_register s rA) event)

-- the special registers that an answer sets
abbrev pub told_specials : Answer → List (ℕ × ℕ)
told_specials a = if_told rH a.h ++ if_told rR a.r

-- what an answer on whole numbers comes to
unfoldable pub answer_outcome : State → Instruction → ℕ → ℕ → Answer → Result State Reason
answer_outcome s i y z a = raised s i a.x (told_specials a) y z a.event

-- the low bytes of x are stored in the part that holds an address, which may be in Stack_Segment
abbrev pub store_seen : State → ℕ → Part → ℕ → State
store_seen s a part x = record (with_stored s a part x) { touched = s.touched || is_in_stack_segment a }

unfoldable pub store_outcome : State → ℕ → Part → ℕ → Result State Reason
store_outcome s a part x = unless (is_page_refused s a) PagesFull (store_seen s a part x)

-- a store of a part, and what its event leads to
abbrev pub store_decided : State → Instruction → ℕ → Part → ℕ → ℕ → Trip → Result State Reason
store_decided s i a part v x (Taken handler) =
    if is_negative a then Err Negative
    else if tetra s handler == 0 then Err UnhandledTrip
    else unless (is_page_refused s a) PagesFull
    (onward (tripped (store_seen s a part v) i (Some (record { handler = handler; y = a; z = x }))) handler)
store_decided s i a part v x (Noted b) =
    if is_negative a then Err Negative
    else unless (is_page_refused s a) PagesFull (onward (with_special (store_seen s a part v) rA b) (next_of i))

abbrev pub store_raised : State → Instruction → ℕ → Part → ℕ → ℕ → Option Event → Result State Reason
store_raised s i a part v x None =
    if is_negative a then Err Negative
    else unless (is_page_refused s a) PagesFull (onward (store_seen s a part v) (next_of i))
store_raised s i a part v x (Some event) = store_decided s i a part v x (decided (special_register s rA) event)

-- a store of $X with an overflow, that trips or is noted in rA
abbrev pub overflow_decided : State → Instruction → Storing → ℕ → ℕ → Trip → Result State Reason
overflow_decided s i how a x trip = store_decided s i a (stored_part how) (stored_value how x (x_of i)) x trip

-- a store of $X
unfoldable pub store_settled : State → Instruction → Storing → ℕ → ℕ → Result State Reason
store_settled s i how a x = store_raised s i a (stored_part how) (stored_value how x (x_of i)) x (stored_event how x)

-- whether a value for the register X of an instruction would make it local
abbrev pub sets_marginal : State → Instruction → Bool
sets_marginal s i = is_marginal (x_of i) (locals s) (global_start s)

-- WITHOUT A DESTINATION

-- PUSHJ and PUSHGO to an address
abbrev pub push_outcome : State → Instruction → ℕ → Result State Reason
push_outcome s i address =
    unless (push_overfills s.stack (x_of i)) StackFull
    (onward (with_stack (with_special s rJ (next_of i)) (pushed s.stack (x_of i))) address)

-- a new stack after POP, whose hidden octas may end below the mark
abbrev pub with_lowered_mark : State → Stack → State
with_lowered_mark s stack = with_stack_marked s stack (min s.mark (hidden_count stack))

-- a new stack after SAVE or UNSAVE: all frames in it are saved ones
abbrev pub with_new_mark : State → Stack → State
with_new_mark s stack = with_stack_marked s stack (hidden_count stack)

abbrev pub pop_outcome : State → Instruction → Result State Reason
pop_outcome s i =
    unless (pop_underflows s.stack) Underflow
    (onward (with_lowered_mark s (popped s.stack (x_of i))) ((special_register s rJ + 4 * yz_of i) % 2 ^ 64))

-- the register stack's part of PUSHJ and PUSHGO, of POP and of SAVE
abbrev pub registers_pushed : State → ℕ → Result State Reason
registers_pushed s x = unless (push_overfills s.stack x) StackFull (with_stack s (pushed s.stack x))

abbrev pub registers_popped : State → ℕ → Result State Reason
registers_popped s x = unless (pop_underflows s.stack) Underflow (with_lowered_mark s (popped s.stack x))

abbrev pub registers_saved : State → ℕ → Result State Reason
registers_saved s x =
    unless (save_overfills s.stack) StackFull (with_new_mark s (saved s.stack x (specials_saved s)))

abbrev pub save_outcome : State → Instruction → Result State Reason
save_outcome s i =
    if not (yz_of i == 0) || nat_lt (x_of i) (global_start s) then Err Illegal
    else unless (save_overfills s.stack) StackFull
    (onward (with_new_mark s (saved s.stack (x_of i) (specials_saved s))) (next_of i))

-- the frame whose last octa has an index is brought back
abbrev pub frame_back : State → ℕ → State
frame_back s index = with_new_mark (with_specials s (specials_back (unsaved_specials s.stack index))) (unsaved s.stack index)

-- the register stack's part: the special registers of the frame at an address, and the state without them
abbrev pub brought_back : State → ℕ → Result Saved Stop × State
brought_back s a =
    if unsave_refused s.stack a then (Err (Stopped BadFrame), s)
    else (Ok (unsaved_specials s.stack (stack_index a)), with_new_mark s (unsaved s.stack (stack_index a)))

-- whether UNSAVE at an address looks at octas that were not saved
abbrev pub looks_unsaved : State → ℕ → Bool
looks_unsaved s a = in_stack_area a && nat_le s.mark (stack_index a)

abbrev pub unsave_outcome : State → Instruction → Result State Reason
unsave_outcome s i =
    if not (x_of i == 0) || not (y_of i == 0) then Err Illegal
    else unless (unsave_refused s.stack (z_operand s i)) BadFrame
    (record (onward (frame_back s (stack_index (z_operand s i))) (next_of i)) {
      touched = s.touched || looks_unsaved s (z_operand s i);
    })

-- where an instruction looks at rS or at the memory of the register stack
abbrev pub with_touch_where : State → Bool → State
with_touch_where s looks = record s { touched = s.touched || looks }

-- GET, whose destination is local first
abbrev pub get_done : State → Instruction → State
get_done s i = onward (with_value_in s (x_of i) (special_register s (z_of i))) (next_of i)

abbrev pub get_outcome : State → Instruction → Result State Reason
get_outcome s i =
    if not (y_of i == 0) || nat_lt 31 (z_of i) then Err Illegal
    else unless (set_overfills s.stack (x_of i)) StackFull
    (record (get_done (with_local s (x_of i)) i) { touched = s.touched || z_of i == rS })

abbrev pub sync_outcome : State → Instruction → Result State Reason
sync_outcome s i =
    if nat_lt 7 (xyz_of i) then Err Illegal else unless (nat_lt 3 (xyz_of i)) Privileged (onward s (next_of i))

abbrev pub trip_outcome : State → Instruction → Result State Reason
trip_outcome s i =
    unless (tetra s 0 == 0) UnhandledTrip
    (onward (tripped s i (Some (record { handler = 0; y = y_operand s i; z = z_operand s i }))) 0)

-- PUT, of what its register takes
abbrev pub put_done : State → Instruction → Put → Result State Reason
put_done s i (put.Store v) = Ok (onward (with_put s (x_of i) v) (next_of i))
put_done s i put.Illegal = Err Illegal
put_done s i put.Privileged = Err Privileged

abbrev pub put_outcome : State → Instruction → Result State Reason
put_outcome s i =
    if not (y_of i == 0) || nat_lt 31 (x_of i) then Err Illegal
    else put_done s i (put_of (x_of i) (z_operand s i) (global_start s) (locals s))

-- CSWAP: memory gets $X, and $X becomes 1
abbrev pub exchange_done : State → Instruction → ℕ → State
exchange_done s i a =
    record (onward (with_stored (with_value_in s (x_of i) 1) a Octa (x_register s i)) (next_of i)) {
      touched = s.touched || is_in_stack_segment a;
    }

abbrev pub exchanged : State → Instruction → ℕ → Result State Reason
exchanged s i a =
    if set_overfills s.stack (x_of i) then Err StackFull else unless (is_page_refused s a) PagesFull (exchange_done s i a)

-- or rP gets what memory has, and $X becomes 0
abbrev pub left_alone : State → Instruction → ℕ → ℕ → Result State Reason
left_alone s i a found =
    unless (set_overfills s.stack (x_of i)) StackFull
    (record (onward (with_special (with_value_in s (x_of i) 0) rP found) (next_of i)) {
      touched = s.touched || is_in_stack_segment a;
    })

-- by what is found
abbrev pub swap_made : State → Instruction → ℕ → ℕ → Result State Reason
swap_made s i a found = if found == special_register s rP then exchanged s i a else left_alone s i a found

-- where memory has what it found
abbrev pub swap_settled : State → Instruction → ℕ → ℕ → Result State Reason
swap_settled s i a found =
    if is_negative a then Err Negative
    else swap_made s i a found

-- WHAT A USER CHANGES

abbrev pub changed : State → Result State SetFault → Result (Unit {0}) SetFault × State
changed s (Ok t) = (Ok tt, t)
changed s (Err fault) = (Err fault, s)
