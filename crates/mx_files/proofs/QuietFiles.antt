-- Opening, reading and closing files leave standard output as it was.
use Rattle.std.proofs.Common.{◌≡◌, inl, inr, ℕ, suc, zero, List, [], Bool, true, false, cond, nat_le, refl, ◌∙◌, Some, None, Ok, Err}
use Rattle.std.specs.Prelude.{Option, Result}
use Rattle.mx_host.specs.HostModel.{HostModel, counted, is_failing, slot_at, is_read_only, is_write_only, place_of}
use Rattle.mx_host.specs.HostAnswer.{Then, open_answer, opened, read_answer, read_from, read_lead, close_answer, closed}
use Rattle.mx_host.specs.declared.slots.Slot.{Slot}
use Rattle.mx_host.specs.declared.slots.Slot.TheVariants.{Closed, Open}
use Rattle.mx_host.specs.declared.slots.Mode.{Mode}
use Rattle.mx_host.specs.declared.slots.Lead.{Lead}
use Rattle.mx_host.specs.declared.slots.Lead.TheVariants.{Input, Output, Errors, File}
use Rattle.mx_host.specs.declared.faults.HostFault.{HostFault as SlotFault}
use Rattle.mx_plan.specs.Calls.{HostCall, HostSays, opening, closing, reading, writing, seeking, telling, needing, host, HostPlan, open_plan, close_plan, read_plan, need}
use Rattle.mx_plan.specs.Plan.{returns, calls, bind, end_of, Stops}
use Rattle.mx_files.specs.FilePlans.{Part, on_ok, close_file, piece_added, read_piece, read_next, read_pieces, then_closed, read_open, open_input, file_plan}
use Rattle.mx_outcome.specs.declared.outcome.Outcome.{Outcome}

-- an answer leaves standard output as it was
abbrev pub Quiet : {A : Type 0} → HostModel → Then A → Type 0
Quiet m t = t.1.output ≡ m.output

either : {A : Type 0} (m : HostModel) (b : Bool) (x y : Then A) → Quiet m x → Quiet m y → Quiet m (cond b x y)
either m true x y h k = h
either m false x y h k = k

opened-quiet : (m : HostModel) (reads : Bool) (slot : ℕ) (name : List ℕ) (mode : Mode) (at : Option ℕ) → Quiet m (opened reads m slot name mode at)
opened-quiet m true slot name mode None = refl
opened-quiet m true slot name mode (Some at) = refl
opened-quiet m false slot name mode None = refl
opened-quiet m false slot name mode (Some at) = refl

open-quiet : (m : HostModel) (slot : ℕ) (name : List ℕ) (mode : Mode) → Quiet m (open_answer m slot name mode)
unfolding open_answer
open-quiet m slot name mode = either m (is_failing m) _ _ refl (opened-quiet (counted m) (is_read_only mode) slot name mode (place_of m.files name))

lead-quiet : (m : HostModel) (slot len : ℕ) (l : Lead) (mode : Mode) (place : ℕ) → Quiet m (read_lead m slot len l mode place)
lead-quiet m slot len Input mode place = refl
lead-quiet m slot len Output mode place = refl
lead-quiet m slot len Errors mode place = refl
lead-quiet m slot len (File at) mode place = refl

from-quiet : (m : HostModel) (slot len : ℕ) (s : Slot) → Quiet m (read_from m slot len s)
from-quiet m slot len Closed = refl
from-quiet m slot len (Open l mode place) = either m (is_write_only mode) _ _ refl (lead-quiet m slot len l mode place)

read-quiet : (m : HostModel) (slot len : ℕ) → Quiet m (read_answer m slot len)
unfolding read_answer
read-quiet m slot len = either m (is_failing m) _ _ refl (from-quiet (counted m) slot len (slot_at m slot))

closed-quiet : (m : HostModel) (slot : ℕ) (s : Slot) → Quiet m (closed m slot s)
closed-quiet m slot Closed = refl
closed-quiet m slot (Open l mode place) = refl

close-quiet : (m : HostModel) (slot : ℕ) → Quiet m (close_answer m slot)
unfolding close_answer
close-quiet m slot = either m (is_failing m) _ _ refl (closed-quiet (counted m) slot (slot_at m slot))

-- ---- plans of such calls

abbrev IsQuiet : HostCall → Type 0
IsQuiet (writing slot from) = ⊥
IsQuiet (seeking slot to) = ⊥
IsQuiet (telling slot) = ⊥
IsQuiet call = Unit {0}

guarded : {A : Type 0} (m : HostModel) (b : Bool) (x : Then A) (e : A) → Quiet m x → Quiet m (cond b x (e, m))
guarded m true x e h = h
guarded m false x e h = refl

call-quiet : (o : HostCall) (m : HostModel) → IsQuiet o → (host.act o m).1.output ≡ m.output
unfolding host
call-quiet (opening slot name mode) m h = guarded m (nat_le slot 257) _ _ (open-quiet m slot name mode)
call-quiet (closing slot) m h = guarded m (nat_le slot 257) _ _ (close-quiet m slot)
call-quiet (reading slot len) m h = read-quiet m slot len
call-quiet (writing slot from) m h = absurd h
call-quiet (seeking slot to) m h = absurd h
call-quiet (telling slot) m h = absurd h
call-quiet needing m h = refl

-- whatever its calls answer, a plan makes only such calls
unfoldable Calm : {A : Type 0} → HostPlan A → Type 0
Calm (returns a) = Unit {0}
Calm (calls o k) = IsQuiet o × ((r : HostSays o) → Calm (k r))

calm-bind : {A B : Type 0} (f : A → HostPlan B) (p : HostPlan A) → Calm p → ((a : A) → Calm (f a)) → Calm (bind f p)
unfolding Calm bind
calm-bind f (returns a) h k = k a
calm-bind f (calls o more) h k = (h.0, λ r. calm-bind f (more r) (h.1 r) k)

calm-end : {A : Type 0} (p : HostPlan A) (m : HostModel) → Calm p → (end_of host p m).1.output ≡ m.output
unfolding Calm end_of
calm-end (returns a) m h = refl
calm-end (calls o k) m h = calm-end (k (host.act o m).0) (host.act o m).1 (h.1 (host.act o m).0) ∙ call-quiet o m h.0

left-output : (o : HostCall) (m n : HostModel) → host.Lacks o m n → n.output ≡ m.output
unfolding host
left-output (opening slot name mode) m n e = rw (e.counts) refl
left-output (closing slot) m n e = rw (e.counts) refl
left-output (reading slot len) m n e = rw (e.counts) refl
left-output (writing slot from) m n e = rw (e.counts) refl
left-output (seeking slot to) m n e = rw (e.counts) refl
left-output (telling slot) m n e = rw (e.counts) refl
left-output needing m n e = rw e refl

calm-stop : {A : Type 0} (p : HostPlan A) (m n : HostModel) → Calm p → Stops host n p m → n.output ≡ m.output
unfolding Calm Stops
calm-stop (returns a) m n h s = absurd s
calm-stop (calls o k) m n h (inl e) = left-output o m n e
calm-stop (calls o k) m n h (inr s) = calm-stop (k (host.act o m).0) (host.act o m).1 n (h.1 (host.act o m).0) s ∙ call-quiet o m h.0

-- ---- a file that is read

added-calm : (got : List ℕ) (r : Result (List ℕ) SlotFault) → Calm (piece_added got r)
unfolding Calm bind need
added-calm got (Ok piece) = (tt, λ u. tt)
added-calm got (Err why) = tt

read-calm : (got : List ℕ) → Calm (read_piece got)
unfolding Calm read_piece read_plan bind
read-calm got = (tt, λ r. added-calm got r)

next-calm : (more : List ℕ → Part (List ℕ)) → ((got : List ℕ) → Calm (more got)) → (r : Result (List ℕ × Bool) Outcome) → Calm (on_ok (read_next more) r)
unfolding Calm
next-calm more h (Ok (got, true)) = h got
next-calm more h (Ok (got, false)) = tt
next-calm more h (Err outcome) = tt

pieces-calm : (left : ℕ) (got : List ℕ) → Calm (read_pieces left got)
unfolding Calm read_pieces
pieces-calm zero got = tt
pieces-calm (suc left) got = calm-bind (on_ok (read_next (read_pieces left))) (read_piece got) (read-calm got) (next-calm (read_pieces left) (λ g. pieces-calm left g))

bytes-calm : (bytes : List ℕ) (r : Result (Unit {0}) Outcome) → Calm (on_ok (λ u. returns (Ok bytes)) r)
unfolding Calm
bytes-calm bytes (Ok u) = tt
bytes-calm bytes (Err outcome) = tt

close-calm : Calm (close_file 256)
unfolding Calm close_file close_plan bind
close-calm = (tt, λ r. tt)

then-calm : (r : Result (List ℕ) Outcome) → Calm (on_ok then_closed r)
unfolding Calm
then-calm (Ok bytes) = calm-bind (on_ok (λ u. returns (Ok bytes))) (close_file 256) close-calm (bytes-calm bytes)
then-calm (Err outcome) = tt

opened-calm : (most : ℕ) (r : Result (Unit {0}) Outcome) → Calm (on_ok (λ u. read_open most) r)
unfolding Calm read_open
opened-calm most (Ok u) = calm-bind (on_ok then_closed) (read_pieces most []) (pieces-calm most []) then-calm
opened-calm most (Err outcome) = tt

input-calm : (name : List ℕ) → Calm (open_input name)
unfolding Calm open_input open_plan bind
input-calm name = (tt, λ r. tt)

file-calm : (most : ℕ) (name : List ℕ) → Calm (file_plan most name)
unfolding file_plan
file-calm most name = calm-bind (on_ok (λ u. read_open most)) (open_input name) (input-calm name) (opened-calm most)

pub file-stops-quiet : (most : ℕ) (name : List ℕ) (m n : HostModel) → Stops host n (file_plan most name) m → n.output ≡ m.output
file-stops-quiet most name m n s = calm-stop (file_plan most name) m n (file-calm most name) s

pub file-ends-quiet : (most : ℕ) (name : List ℕ) (m : HostModel) → (end_of host (file_plan most name) m).1.output ≡ m.output
file-ends-quiet most name m = calm-end (file_plan most name) m (file-calm most name)
