-- The calls that are made for a file are on slots that serve them.
use Rattle.std.proofs.Common.{◌≡◌, ℕ, ℤ, nat_le, nat_lt, zero, suc, ◌<◌, ◌≤◌, List, [], ◌∷◌, take, drop, length, ◌++◌, Bool, true, false, cond, ◌-◌, ◌/◌, ◌==◌, Ok, Err, None, Some, refl, ◌∙◌, ap, arith}
use Rattle.std.specs.Prelude.{Option, Result, slice_get, slice_set, unwrap_or}
use Rattle.std.proofs.lemmas.List.{length-set, get_or-set_same}
use Rattle.std.proofs.lemmas.Bool.Decides.{nat_tests}
use Rattle.std.proofs.lemmas.Option.{slice_get-get_or, slice_get_past}
use Rattle.mx_host.specs.HostAnswer.{Then, open_answer, opened, read_answer, read_from, read_lead, write_answer, write_to, write_lead, close_answer, closed, seek_answer, seek_in, seek_lead, moved, place_sought, bytes_at, tell_answer}
use Rattle.mx_host.specs.HostModel.{HostModel, contents, counted, is_failing, is_read_only, is_write_only, is_binary, place_of, slot_at, to_output, HasStartSlots}
use Rattle.mx_host.specs.Keeping.{HasStreams, OnlyByFailure}
use Rattle.mx_host.specs.declared.faults.HostFault.{HostFault}
use Rattle.mx_host.specs.declared.faults.OpenFault.{OpenFault}
use Rattle.mx_host.specs.declared.faults.OpenFault.TheVariants as opens
use Rattle.mx_host.specs.declared.slots.Lead.{Lead}
use Rattle.mx_host.specs.declared.slots.Lead.TheVariants.{Input, Output, Errors, File}
use Rattle.mx_host.specs.declared.slots.Mode.{Mode}
use Rattle.mx_host.specs.declared.slots.Mode.TheVariants.{BinaryRead, BinaryWrite}
use Rattle.mx_host.specs.declared.slots.Slot.{Slot}
use Rattle.mx_host.specs.declared.slots.Slot.TheVariants.{Closed, Open}
use Rattle.mx_host.proofs.Start.{start_slots-length, slot_at-start_output}
use Rattle.mx_plan.specs.Calls.{HostCall, opening, closing, reading, writing, seeking, telling, needing, host_act, host, HostPlan, need, open_plan, close_plan, read_plan, write_plan}
use Rattle.mx_plan.specs.Held.{KeepsStreams, Makes}
use Rattle.mx_plan.specs.Plan.{returns, calls, bind, end_of, end_after}
use Rattle.mx_plan.proofs.HeldLaws.{held-end}
use Rattle.mx_plan.proofs.Plans.{end_bind}
use Rattle.mx_plan.proofs.Streams.{streams-held}
use Rattle.mx_files.specs.Clauses.{Serves, HasToolSlots, DoesPartBetween}
use Rattle.mx_files.specs.FilePlans.{Part, on_ok, close_file, piece_added, read_piece, read_next, read_pieces, then_closed, read_open, input_opened, open_input, file_plan, write_piece, write_pieces, text_plan, made_plan, lines_plan}
use Rattle.mx_files.specs.ObjectPlans.{assembled, object_opened, open_object, close_object, put_object, put_source, put_into, assemble_part, typed_end, typed_plan, list_part}
use Rattle.mx_files.specs.Objects.{Assembled, source_object}
use Rattle.mx_files.specs.Typed.{Typed, typed}
use Rattle.mx_outcome.specs.declared.outcome.Outcome.{Outcome}
use Rattle.mx_outcome.specs.declared.outcome.Outcome.TheVariants.{Done, HostFault as Broken}
use Rattle.mx_files.proofs.Parts.{makes-bind, MakesAfter}

-- ---- plans that are served and leave what holds

-- from a world where P holds a plan makes only calls that are served, and P holds at its end
abbrev pub Safe : {A : Type 0} → (HostModel → Type 0) → HostPlan A → HostModel → Type 0
Safe P p m = Makes host Serves p m × P (end_of host p m).1

safe-bind : {A B : Type 0} (P Q : HostModel → Type 0) (f : A → HostPlan B) (p : HostPlan A) (m : HostModel) → Safe P p m → ((a : A) (n : HostModel) → P n → Safe Q (f a) n) → Safe Q (bind f p) m
safe-bind {A} {B} P Q f p m h k = (makes-bind host Serves f p m h.0 (served (end_of host p m) h.1), rw (end_bind host f p m) (holds (end_of host p m) h.1))
  where
    served : (t : A × HostModel) → P t.1 → MakesAfter host Serves f t
    served (a, n) g = (k a n g).0

    holds : (t : A × HostModel) → P t.1 → Q (end_after host f t).1
    holds (a, n) g = (k a n g).1

safe-returns : {A : Type 0} (P : HostModel → Type 0) (a : A) (m : HostModel) → P m → Safe P (returns a) m
unfolding Makes end_of
safe-returns P a m h = (tt, h)

safe-need : (P : HostModel → Type 0) (m : HostModel) → P m → Safe P need m
unfolding need Makes end_of host
safe-need P m h = ((tt, tt), h)

-- what follows a part that was done
safe-ok : {A B : Type 0} (P : HostModel → Type 0) (f : A → Part B) → ((a : A) (n : HostModel) → P n → Safe P (f a) n) → (r : Result A Outcome) (n : HostModel) → P n → Safe P (on_ok f r) n
safe-ok P f h (Ok a) n g = h a n g
safe-ok P f h (Err outcome) n g = safe-returns P (Err outcome) n g

-- ---- a slot that leads to a file

-- the slots of the tool's files are there, and this one leads to a file in this mode
pub record LeadsThere (slot : ℕ) (mode : Mode) (m : HostModel) : Type 0 where
  pub sized : 257 < length m.slots
  pub at : ℕ
  pub place : ℕ
  pub leads : slot_at m slot ≡ Open (File at) mode place

set-same : (xs : List Slot) (i : ℕ) (x : Slot) → i < length xs → unwrap_or (slice_get (slice_set xs i x) i) Closed ≡ x
set-same xs i x l =
    let k : i < length (slice_set xs i x) = rw (length-set xs i x) l in
    rw (slice_get-get_or (slice_set xs i x) i Closed k) (get_or-set_same xs i x Closed l)

leads-set : (m n : HostModel) (slot at place : ℕ) (mode : Mode) → slot ≤ 257 → 257 < length m.slots → n.slots ≡ slice_set m.slots slot (Open (File at) mode place) → LeadsThere slot mode n
leads-set m n slot at place mode s l e = record {
  sized = rw (e, length-set m.slots slot (Open (File at) mode place)) l;
  at = at;
  place = place;
  leads = rw e (set-same m.slots slot (Open (File at) mode place) (omega (arith, s, l)));
}

either : {A : Type 0} (P : HostModel → Type 0) (b : Bool) (x y : Then A) → P x.1 → P y.1 → P (cond b x y).1
either P true x y h k = h
either P false x y h k = k

-- ---- the input file

abbrev IsInput : HostModel → Type 0
IsInput m = LeadsThere 256 BinaryRead m

from-keeps : (m : HostModel) (s : Slot) (at place : ℕ) → s ≡ Open (File at) BinaryRead place → 257 < length m.slots → IsInput (read_from m 256 4096 s).1
from-keeps m s at place e l = rw e (leads-set m _ 256 at _ BinaryRead (omega arith) l refl)

read-keeps : (m : HostModel) → IsInput m → IsInput (read_answer m 256 4096).1
unfolding read_answer
read-keeps m h = either IsInput (is_failing m) _ _ (same h) (from-keeps (counted m) (slot_at m 256) h.at h.place h.leads h.sized)
  where
    same : IsInput m → IsInput (counted m)
    same h = record { sized = h.sized; at = h.at; place = h.place; leads = h.leads }

added-safe : (got : List ℕ) (r : Result (List ℕ) HostFault) (m : HostModel) → IsInput m → Safe IsInput (piece_added got r) m
added-safe got (Ok piece) m h = safe-bind IsInput IsInput (λ u. returns (Ok (got ++ piece, length piece == 4096))) need m (safe-need IsInput m h) (λ u n g. safe-returns IsInput _ n g)
added-safe got (Err why) m h = safe-returns IsInput _ m h

read-safe : (m : HostModel) → IsInput m → Safe IsInput (read_plan 256 4096) m
unfolding read_plan Makes end_of host
read-safe m h = ((rw h.leads refl, tt), read-keeps m h)

piece-safe : (got : List ℕ) (m : HostModel) → IsInput m → Safe IsInput (read_piece got) m
unfolding read_piece
piece-safe got m h = safe-bind IsInput IsInput (piece_added got) (read_plan 256 4096) m (read-safe m h) (λ r n g. added-safe got r n g)

next-safe : (more : List ℕ → Part (List ℕ)) → ((got : List ℕ) (n : HostModel) → IsInput n → Safe IsInput (more got) n) → (r : List ℕ × Bool) (n : HostModel) → IsInput n → Safe IsInput (read_next more r) n
next-safe more h (got, true) n g = h got n g
next-safe more h (got, false) n g = safe-returns IsInput _ n g

pieces-safe : (left : ℕ) (got : List ℕ) (m : HostModel) → IsInput m → Safe IsInput (read_pieces left got) m
unfolding read_pieces
pieces-safe zero got m h = safe-returns IsInput _ m h
pieces-safe (suc left) got m h =
    safe-bind IsInput IsInput (on_ok (read_next (read_pieces left))) (read_piece got) m (piece-safe got m h)
    (safe-ok IsInput (read_next (read_pieces left)) (next-safe (read_pieces left) (λ g n k. pieces-safe left g n k)))

-- what is served, whatever it leaves
abbrev pub Served : {A : Type 0} → HostPlan A → HostModel → Type 0
Served p m = Makes host Serves p m

served-bind : {A B : Type 0} (P : HostModel → Type 0) (f : A → HostPlan B) (p : HostPlan A) (m : HostModel) → Safe P p m → ((a : A) (n : HostModel) → P n → Served (f a) n) → Served (bind f p) m
served-bind {A} {B} P f p m h k = makes-bind host Serves f p m h.0 (by (end_of host p m) h.1)
  where
    by : (t : A × HostModel) → P t.1 → MakesAfter host Serves f t
    by (a, n) g = k a n g

served-returns : {A : Type 0} (a : A) (m : HostModel) → Served (returns a) m
unfolding Makes
served-returns a m = tt

served-ok : {A B : Type 0} (P : HostModel → Type 0) (f : A → Part B) → ((a : A) (n : HostModel) → P n → Served (f a) n) → (r : Result A Outcome) (n : HostModel) → P n → Served (on_ok f r) n
served-ok P f h (Ok a) n g = h a n g
served-ok P f h (Err outcome) n g = served-returns (Err outcome) n

-- a file is closed, and an answer follows
closed-served : {B : Type 0} (slot : ℕ) (mode : Mode) (f : Result (Unit {0}) Outcome → Part B) → ((r : Result (Unit {0}) Outcome) (n : HostModel) → Served (f r) n) →
    (m : HostModel) → LeadsThere slot mode m → Served (bind f (close_file slot)) m
unfolding close_file close_plan bind Makes host
closed-served slot mode f k m h = (rw h.leads refl, k _ _)

answered-served : {A B : Type 0} (x : Result B Outcome) (r : Result A Outcome) (n : HostModel) → Served (on_ok (λ u. returns x) r) n
answered-served x (Ok u) n = served-returns x n
answered-served x (Err outcome) n = served-returns (Err outcome) n

read-served : (most : ℕ) (m : HostModel) → IsInput m → Served (read_open most) m
unfolding read_open
read-served most m h =
    served-bind IsInput (on_ok then_closed) (read_pieces most []) m (pieces-safe most [] m h)
    (served-ok IsInput then_closed (λ bytes n g. closed-served 256 BinaryRead (on_ok (λ u. returns (Ok bytes))) (answered-served (Ok bytes)) n g))

-- what holds where a file was opened
abbrev WhereOk : (HostModel → Type 0) → Then (Result (Unit {0}) OpenFault) → Type 0
WhereOk P (Ok u, n) = P n
WhereOk P (Err why, n) = Unit {0}

either-ok : (P : HostModel → Type 0) (b : Bool) (x y : Then (Result (Unit {0}) OpenFault)) → WhereOk P x → WhereOk P y → WhereOk P (cond b x y)
either-ok P true x y h k = h
either-ok P false x y h k = k

input-place : (m : HostModel) (name : List ℕ) (at : Option ℕ) → 257 < length m.slots → WhereOk IsInput (opened true m 256 name BinaryRead at)
input-place m name None l = tt
input-place m name (Some at) l = leads-set m _ 256 at 0 BinaryRead (omega arith) l refl

input-ok : (m : HostModel) (name : List ℕ) → 257 < length m.slots → WhereOk IsInput (open_answer m 256 name BinaryRead)
unfolding open_answer
input-ok m name l = either-ok IsInput (is_failing m) _ _ tt (input-place (counted m) name (place_of m.files name) l)

after-input : (most : ℕ) (t : Then (Result (Unit {0}) OpenFault)) → WhereOk IsInput t → Served (on_ok (λ u. read_open most) (input_opened t.0)) t.1
after-input most (Ok u, n) h = read-served most n h
after-input most (Err opens.Absent, n) h = served-returns _ n
after-input most (Err opens.Failed, n) h = served-returns _ n
after-input most (Err opens.OutOfMemory, n) h = served-returns _ n

pub file-served : (most : ℕ) (name : List ℕ) (m : HostModel) → 257 < length m.slots → Served (file_plan most name) m
unfolding file_plan open_input open_plan bind Makes host
file-served most name m l = (tt, after-input most (open_answer m 256 name BinaryRead) (input-ok m name l))

-- ---- the object file

abbrev IsObject : HostModel → Type 0
IsObject m = LeadsThere 257 BinaryWrite m

to-keeps : (m : HostModel) (from : List ℕ) (s : Slot) (at place : ℕ) → s ≡ Open (File at) BinaryWrite place → 257 < length m.slots → IsObject (write_to m 257 from s).1
to-keeps m from s at place e l = rw e (leads-set m _ 257 at _ BinaryWrite (omega arith) l refl)

write-keeps : (m : HostModel) (from : List ℕ) → IsObject m → IsObject (write_answer m 257 from).1
unfolding write_answer
write-keeps m from h = either IsObject (is_failing m) _ _ (same h) (to-keeps (counted m) from (slot_at m 257) h.at h.place h.leads h.sized)
  where
    same : IsObject m → IsObject (counted m)
    same h = record { sized = h.sized; at = h.at; place = h.place; leads = h.leads }

write-safe : (from : List ℕ) (m : HostModel) → IsObject m → Safe IsObject (write_piece 257 from) m
unfolding write_piece write_plan bind Makes end_of host
write-safe from m h = ((rw h.leads refl, tt), write-keeps m from h)

texts-safe : (more : ℕ) (text : List ℕ) (m : HostModel) → IsObject m → Safe IsObject (write_pieces more 257 text) m
unfolding write_pieces
texts-safe zero text m h = write-safe text m h
texts-safe (suc more) text m h =
    safe-bind IsObject IsObject (on_ok (λ u. write_pieces more 257 (drop 4096 text))) (write_piece 257 (take 4096 text)) m (write-safe (take 4096 text) m h)
    (safe-ok IsObject (λ u. write_pieces more 257 (drop 4096 text)) (λ u n g. texts-safe more (drop 4096 text) n g))

put-served : (a : Assembled) (m : HostModel) → IsObject m → Served (put_object a) m
unfolding put_object text_plan close_object
put-served a m h =
    served-bind IsObject (on_ok (λ u. close_object a.1)) (text_plan 257 a.0) m (texts-safe ((length a.0 - 1) / 4096) a.0 m h)
    (served-ok IsObject (λ u. close_object a.1) (λ u n g. closed-served 257 BinaryWrite (on_ok (λ v. returns (assembled a.1))) (answered-served (assembled a.1)) n g))

source-served : (source : List ℕ) (m : HostModel) → IsObject m → Served (put_source source) m
unfolding put_source
source-served source m h = served-bind IsObject (λ u. put_object (source_object source)) need m (safe-need IsObject m h) (λ u n g. put-served (source_object source) n g)

object-place : (m : HostModel) (name : List ℕ) (at : Option ℕ) → 257 < length m.slots → WhereOk IsObject (opened false m 257 name BinaryWrite at)
object-place m name None l = leads-set m _ 257 (length m.files) 0 BinaryWrite (omega arith) l refl
object-place m name (Some at) l = leads-set m _ 257 at 0 BinaryWrite (omega arith) l refl

object-ok : (m : HostModel) (name : List ℕ) → 257 < length m.slots → WhereOk IsObject (open_answer m 257 name BinaryWrite)
unfolding open_answer
object-ok m name l = either-ok IsObject (is_failing m) _ _ tt (object-place (counted m) name (place_of m.files name) l)

after-object : (source : List ℕ) (t : Then (Result (Unit {0}) OpenFault)) → WhereOk IsObject t → Served (on_ok (λ u. put_source source) (object_opened t.0)) t.1
after-object source (Ok u, n) h = source-served source n h
after-object source (Err opens.Absent, n) h = served-returns _ n
after-object source (Err opens.Failed, n) h = served-returns _ n
after-object source (Err opens.OutOfMemory, n) h = served-returns _ n

into-served : (object source : List ℕ) (m : HostModel) → 257 < length m.slots → Served (put_into object source) m
unfolding put_into open_object open_plan bind Makes host
into-served object source m l = (tt, after-object source (open_answer m 257 object BinaryWrite) (object-ok m object l))

-- ---- the number of slots

abbrev SameSize : HostModel → HostModel → Type 0
SameSize m n = length n.slots ≡ length m.slots

guarded : {A : Type 0} (m : HostModel) (b : Bool) (x : Then A) (e : A) → SameSize m x.1 → SameSize m (cond b x (e, m)).1
guarded m true x e h = h
guarded m false x e h = refl

opened-sized : (m : HostModel) (reads : Bool) (slot : ℕ) (name : List ℕ) (mode : Mode) (at : Option ℕ) → SameSize m (opened reads m slot name mode at).1
opened-sized m true slot name mode None = length-set m.slots slot _
opened-sized m true slot name mode (Some at) = length-set m.slots slot _
opened-sized m false slot name mode None = length-set m.slots slot _
opened-sized m false slot name mode (Some at) = length-set m.slots slot _

closed-sized : (m : HostModel) (slot : ℕ) (s : Slot) → SameSize m (closed m slot s).1
closed-sized m slot Closed = refl
closed-sized m slot (Open lead mode place) = length-set m.slots slot Closed

read-sized : (m : HostModel) (slot len : ℕ) (lead : Lead) (mode : Mode) (place : ℕ) → SameSize m (read_lead m slot len lead mode place).1
read-sized m slot len Input mode place = refl
read-sized m slot len Output mode place = refl
read-sized m slot len Errors mode place = refl
read-sized m slot len (File at) mode place = length-set m.slots slot _

from-sized : (m : HostModel) (slot len : ℕ) (s : Slot) → SameSize m (read_from m slot len s).1
from-sized m slot len Closed = refl
from-sized m slot len (Open lead mode place) = either (SameSize m) (is_write_only mode) _ _ refl (read-sized m slot len lead mode place)

write-sized : (m : HostModel) (slot : ℕ) (from : List ℕ) (lead : Lead) (mode : Mode) (place : ℕ) → SameSize m (write_lead m slot from lead mode place).1
write-sized m slot from Input mode place = refl
write-sized m slot from Output mode place = refl
write-sized m slot from Errors mode place = refl
write-sized m slot from (File at) mode place = length-set m.slots slot _

to-sized : (m : HostModel) (slot : ℕ) (from : List ℕ) (s : Slot) → SameSize m (write_to m slot from s).1
to-sized m slot from Closed = refl
to-sized m slot from (Open lead mode place) = either (SameSize m) (is_read_only mode) _ _ refl (write-sized m slot from lead mode place)

moved-sized : (m : HostModel) (slot : ℕ) (lead : Lead) (mode : Mode) (p : Option ℕ) → SameSize m (moved m slot lead mode p).1
moved-sized m slot lead mode None = refl
moved-sized m slot lead mode (Some place) = length-set m.slots slot _

seek-sized : (m : HostModel) (slot : ℕ) (n : ℤ) (lead : Lead) (mode : Mode) → SameSize m (seek_lead m slot n lead mode).1
seek-sized m slot n Input mode = refl
seek-sized m slot n Output mode = refl
seek-sized m slot n Errors mode = refl
seek-sized m slot n (File at) mode = moved-sized m slot (File at) mode (place_sought (length (bytes_at m.files at)) n)

in-sized : (m : HostModel) (slot : ℕ) (n : ℤ) (s : Slot) → SameSize m (seek_in m slot n s).1
in-sized m slot n Closed = refl
in-sized m slot n (Open lead mode place) = either (SameSize m) (is_binary mode) _ _ (seek-sized m slot n lead mode) refl

call-sized : (o : HostCall) (m : HostModel) → SameSize m (host_act o m).1
unfolding open_answer close_answer read_answer write_answer seek_answer tell_answer
call-sized (opening slot name mode) m = guarded m (nat_le slot 257) _ _ (either (SameSize m) (is_failing m) _ _ refl (opened-sized (counted m) (is_read_only mode) slot name mode (place_of m.files name)))
call-sized (closing slot) m = guarded m (nat_le slot 257) _ _ (either (SameSize m) (is_failing m) _ _ refl (closed-sized (counted m) slot (slot_at m slot)))
call-sized (reading slot len) m = either (SameSize m) (is_failing m) _ _ refl (from-sized (counted m) slot len (slot_at m slot))
call-sized (writing slot from) m = either (SameSize m) (is_failing m) _ _ refl (to-sized (counted m) slot from (slot_at m slot))
call-sized (seeking slot to) m = either (SameSize m) (is_failing m) _ _ refl (in-sized (counted m) slot to (slot_at m slot))
call-sized (telling slot) m = either (SameSize m) (is_failing m) _ _ refl refl
call-sized needing m = refl

end-sized : {A : Type 0} (p : HostPlan A) (m : HostModel) → SameSize m (end_of host p m).1
unfolding end_of host
end-sized (returns a) m = refl
end-sized (calls o k) m = end-sized (k (host.act o m).0) (host.act o m).1 ∙ call-sized o m

-- ---- a source that is assembled

after-read : (object : List ℕ) (t : Result (List ℕ) Outcome × HostModel) → 257 < length t.1.slots → MakesAfter host Serves (on_ok (put_into object)) t
after-read object (Ok source, n) l = into-served object source n l
after-read object (Err outcome, n) l = served-returns _ n

pub assemble-served : (source object : List ℕ) (m : HostModel) → HasToolSlots m → Served (assemble_part source object) m
unfolding assemble_part
assemble-served source object m h =
    makes-bind host Serves (on_ok (put_into object)) (file_plan 1025 source) m (file-served 1025 source m h.0)
    (after-read object (end_of host (file_plan 1025 source) m) (rw (end-sized (file_plan 1025 source) m) h.0))

-- ---- lines

abbrev IsOutput : HostModel → Type 0
IsOutput m = slot_at m 259 ≡ to_output

stays-output : {A : Type 0} (p : HostPlan A) (m : HostModel) → IsOutput m → IsOutput (end_of host p m).1
stays-output p m h = (held-end host KeepsStreams streams-held p m).output h

line-served : (line : List ℕ) (m : HostModel) → IsOutput m → Served (made_plan line) m
unfolding made_plan write_piece need write_plan bind Makes host
line-served line m h = (tt, (rw h refl, tt))

lines-safe : (lines : List (List ℕ)) (m : HostModel) → IsOutput m → Safe IsOutput (lines_plan lines) m
unfolding lines_plan
lines-safe [] m h = safe-returns IsOutput _ m h
lines-safe (line ∷ lines) m h =
    safe-bind IsOutput IsOutput (on_ok (λ u. lines_plan lines)) (made_plan line) m (line-served line m h, stays-output (made_plan line) m h)
    (safe-ok IsOutput (λ u. lines_plan lines) (λ u n g. lines-safe lines n g))

end-served : (outcome : Outcome) (m : HostModel) → Served (typed_end outcome) m
unfolding bind need Makes host
end-served (Done status) m = tt
end-served outcome m = (tt, tt)

typed-served : (t : Typed) (m : HostModel) → IsOutput m → Served (typed_plan t) m
unfolding typed_plan
typed-served t m h =
    served-bind IsOutput (on_ok (λ u. typed_end t.1)) (lines_plan t.0) m (lines-safe t.0 m h) (served-ok IsOutput (λ u. typed_end t.1) (λ u n g. end-served t.1 n))

after-object-read : (t : Result (List ℕ) Outcome × HostModel) → IsOutput t.1 → MakesAfter host Serves (on_ok (λ object. typed_plan (typed object))) t
after-object-read (Ok object, n) h = typed-served (typed object) n h
after-object-read (Err outcome, n) h = served-returns _ n

pub list-served : (name : List ℕ) (m : HostModel) → HasToolSlots m → Served (list_part name) m
unfolding list_part
list-served name m h =
    makes-bind host Serves (on_ok (λ object. typed_plan (typed object))) (file_plan 16385 name) m (file-served 16385 name m h.0)
    (after-object-read (end_of host (file_plan 16385 name) m) (stays-output (file_plan 16385 name) m h.1))

pub read-served-there : (most : ℕ) (name : List ℕ) (m : HostModel) → HasToolSlots m → Served (file_plan most name) m
read-served-there most name m h = file-served most name m h.0

-- ---- the start

pub start-slots : (m : HostModel) → HasStartSlots m → HasToolSlots m
start-slots m e = (let all : length m.slots ≡ 261 = ap length e ∙ start_slots-length in omega (arith, all), slot_at-start_output m e)

pub ruleset serving = (read-served-there, assemble-served, list-served)

-- ---- faults of the host

-- where a slot leads to the output, that slot and those before it are there
output-there : (m : HostModel) → slot_at m 259 ≡ to_output → HasToolSlots m
output-there m e = (on (nat_lt 259 (length m.slots)) refl, e)
  where
    on : (b : Bool) → nat_lt 259 (length m.slots) ≡ b → 257 < length m.slots
    on true l = let there : 259 < length m.slots = grind (arith, nat_tests) in omega (arith, there)
    on false l =
        let few : length m.slots ≤ 259 = grind (arith, nat_tests) in
        let closed : slot_at m 259 ≡ Closed = rw (slice_get_past m.slots 259 few) refl in
        absurd (cc)

-- over every host, work that is served ends with a fault of the host only where the count of faults rose
pub only-failed : {A : Type 0} (a b : Option HostModel) (k m : ℕ) (r : Result A Outcome) (p : Part A) → ((n : HostModel) → HasToolSlots n → Served p n) →
    DoesPartBetween a b k m r p → OnlyByFailure a (Err Broken) r k m
unfolding HasStreams
only-failed a b k m r p served w has e = w.cause (λ t. served (contents a) (output-there (contents a) (has t).1)) e

pub only-lines : (a b : Option HostModel) (k m : ℕ) (r : Result (Unit {0}) Outcome) (texts : List (List ℕ)) → DoesPartBetween a b k m r (lines_plan texts) → OnlyByFailure a (Err Broken) r k m
only-lines a b k m r texts = only-failed a b k m r (lines_plan texts) (λ n h. (lines-safe texts n h.1).0)
