-- A call only adds to standard output, and leaves the slots that lead to the tool's streams where they lead.
use Rattle.std.proofs.Common.{◌≡◌, ◌≢◌, ℕ, ℤ, ◌<◌, ◌≤◌, List, Bool, true, false, cond, nat_le, nat_lt, length, Some, None, refl, sym, subst, ap, ◌∙◌, arith}
use Rattle.std.specs.Prelude.{Option, slice_get, slice_set, unwrap_or, ◌==◌}
use Rattle.std.proofs.lemmas.List.{length-set, get_or-set_other}
use Rattle.std.proofs.lemmas.Option.{slice_get-get_or, slice_get_past}
use Rattle.std.proofs.lemmas.Bool.Decides.{nat_tests}
use Rattle.mx_word.specs.Lists.{IsFront}
use Rattle.mx_word.proofs.Comparisons.{same-number, other-number}
use Rattle.mx_word.proofs.Fronts.{front-self, front-through}
use Rattle.mx_mem.specs.Space.{Contents}
use Rattle.mx_host.specs.HostModel.{HostModel, counted, is_failing, is_read_only, is_write_only, is_binary, slot_at, with_slot, place_of, to_input, to_output, to_errors}
use Rattle.mx_host.specs.HostAnswer.{Then, open_answer, opened, close_answer, closed, read_answer, read_from, read_lead, write_answer, write_to, seek_answer, seek_in, seek_lead, moved, place_sought, tell_answer, bytes_at}
use Rattle.mx_host.specs.declared.slots.Lead.{Lead}
use Rattle.mx_host.specs.declared.slots.Lead.TheVariants.{Input, Output, Errors, File}
use Rattle.mx_host.specs.declared.slots.Mode.{Mode}
use Rattle.mx_host.specs.declared.slots.Slot.{Slot}
use Rattle.mx_host.specs.declared.slots.Slot.TheVariants.{Closed, Open}
use Rattle.mx_host.proofs.Output.{write-front}
use Rattle.mx_plan.specs.Calls.{HostCall, opening, closing, reading, writing, seeking, telling, needing, host, host_act, HostLacks, BothCall, of_host, of_space, looking, Both, both, BothPlan, space}
use Rattle.mx_plan.specs.Held.{Held, OnlyAdds, LeadsStill, KeepsStreams}
use Rattle.mx_plan.specs.Plan.{end_of, Stops}
use Rattle.mx_plan.proofs.HeldLaws.{held-end, held-stop, held-on}

-- ---- what holds of a model holds of what each call leaves

-- either of two
on-either : {A : Type 0} (P : HostModel → Type 0) (b : Bool) (x y : Then A) → P x.1 → P y.1 → P (cond b x y).1
on-either P true x y h k = h
on-either P false x y h k = k

-- a slot that leads to a stream
abbrev pub IsStream : Slot → Type 0
IsStream Closed = ⊥
IsStream (Open Input mode place) = Unit {0}
IsStream (Open Output mode place) = Unit {0}
IsStream (Open Errors mode place) = Unit {0}
IsStream (Open (File at) mode place) = ⊥

set-other : (xs : List Slot) (i j : ℕ) (x : Slot) → j ≢ i → unwrap_or (slice_get (slice_set xs i x) j) Closed ≡ unwrap_or (slice_get xs j) Closed
set-other xs i j x h = on (nat_lt j (length xs)) refl
  where
    on : (b : Bool) → nat_lt j (length xs) ≡ b → unwrap_or (slice_get (slice_set xs i x) j) Closed ≡ unwrap_or (slice_get xs j) Closed
    on true e =
        let l : j < length xs = grind (arith, nat_tests) in
        let k : j < length (slice_set xs i x) = rw (length-set xs i x) l in
        rw (slice_get-get_or xs j Closed l, slice_get-get_or (slice_set xs i x) j Closed k, get_or-set_other xs i j x Closed h) refl
    on false e =
        let l : length xs ≤ j = grind (arith, nat_tests) in
        let k : length (slice_set xs i x) ≤ j = rw (length-set xs i x) l in
        rw (slice_get_past xs j l, slice_get_past (slice_set xs i x) j k) refl

-- a low slot is no slot of the tool
low-other : (m : HostModel) (slot k : ℕ) (new : Slot) → slot ≤ 257 → 257 < k → slot_at (with_slot m slot new) k ≡ slot_at m k
low-other m slot k new l h = set-other m.slots slot k new (λ e. omega (arith, l, h, e))

-- a slot that leads to a file is none that leads to a stream
file-other : (m : HostModel) (slot k at : ℕ) (mode : Mode) (place : ℕ) (new to : Slot) → IsStream to → slot_at m slot ≡ Open (File at) mode place → slot_at m k ≡ to → slot_at (with_slot m slot new) k ≡ to
file-other m slot k at mode place new to s f e = on (k == slot) refl
  where
    on : (b : Bool) → (k == slot) ≡ b → slot_at (with_slot m slot new) k ≡ to
    on true t =
        let same : k ≡ slot = same-number k slot t in
        let is : to ≡ Open (File at) mode place = sym e ∙ ap (slot_at m) same ∙ f in
        absurd (subst IsStream is s)
    on false t = set-other m.slots slot k new (other-number k slot t) ∙ e

abbrev pub Leads : ℕ → Slot → HostModel → Type 0
Leads k to m = slot_at m k ≡ to

opened-leads : (k : ℕ) (to : Slot) (m : HostModel) (reads : Bool) (slot : ℕ) (name : List ℕ) (mode : Mode) (at : Option ℕ) → slot ≤ 257 → 257 < k → Leads k to m → Leads k to (opened reads m slot name mode at).1
opened-leads k to m true slot name mode None l h e = low-other m slot k _ l h ∙ e
opened-leads k to m true slot name mode (Some at) l h e = low-other m slot k _ l h ∙ e
opened-leads k to m false slot name mode None l h e = low-other m slot k _ l h ∙ e
opened-leads k to m false slot name mode (Some at) l h e = low-other m slot k _ l h ∙ e

closed-leads : (k : ℕ) (to : Slot) (m : HostModel) (slot : ℕ) (s : Slot) → slot ≤ 257 → 257 < k → Leads k to m → Leads k to (closed m slot s).1
closed-leads k to m slot Closed l h e = e
closed-leads k to m slot (Open lead mode place) l h e = low-other m slot k Closed l h ∙ e

read-leads : (k : ℕ) (to : Slot) (m : HostModel) (slot len : ℕ) (s : Slot) → IsStream to → slot_at m slot ≡ s → Leads k to m → Leads k to (read_from m slot len s).1
read-leads k to m slot len Closed i f e = e
read-leads k to m slot len (Open Input mode place) i f e = on-either (Leads k to) (is_write_only mode) _ _ e e
read-leads k to m slot len (Open Output mode place) i f e = on-either (Leads k to) (is_write_only mode) _ _ e e
read-leads k to m slot len (Open Errors mode place) i f e = on-either (Leads k to) (is_write_only mode) _ _ e e
read-leads k to m slot len (Open (File at) mode place) i f e = on-either (Leads k to) (is_write_only mode) _ _ e (file-other m slot k at mode place _ to i f e)

write-leads : (k : ℕ) (to : Slot) (m : HostModel) (slot : ℕ) (from : List ℕ) (s : Slot) → IsStream to → slot_at m slot ≡ s → Leads k to m → Leads k to (write_to m slot from s).1
write-leads k to m slot from Closed i f e = e
write-leads k to m slot from (Open Input mode place) i f e = on-either (Leads k to) (is_read_only mode) _ _ e e
write-leads k to m slot from (Open Output mode place) i f e = on-either (Leads k to) (is_read_only mode) _ _ e e
write-leads k to m slot from (Open Errors mode place) i f e = on-either (Leads k to) (is_read_only mode) _ _ e e
write-leads k to m slot from (Open (File at) mode place) i f e = on-either (Leads k to) (is_read_only mode) _ _ e (file-other m slot k at mode place _ to i f e)

moved-leads : (k : ℕ) (to : Slot) (m : HostModel) (slot at : ℕ) (mode : Mode) (place : ℕ) (p : Option ℕ) → IsStream to → slot_at m slot ≡ Open (File at) mode place → Leads k to m → Leads k to (moved m slot (File at) mode p).1
moved-leads k to m slot at mode place None i f e = e
moved-leads k to m slot at mode place (Some q) i f e = file-other m slot k at mode place _ to i f e

seek-leads : (k : ℕ) (to : Slot) (m : HostModel) (slot : ℕ) (n : ℤ) (s : Slot) → IsStream to → slot_at m slot ≡ s → Leads k to m → Leads k to (seek_in m slot n s).1
seek-leads k to m slot n Closed i f e = e
seek-leads k to m slot n (Open Input mode place) i f e = on-either (Leads k to) (is_binary mode) _ _ e e
seek-leads k to m slot n (Open Output mode place) i f e = on-either (Leads k to) (is_binary mode) _ _ e e
seek-leads k to m slot n (Open Errors mode place) i f e = on-either (Leads k to) (is_binary mode) _ _ e e
seek-leads k to m slot n (Open (File at) mode place) i f e =
    on-either (Leads k to) (is_binary mode) _ _ (moved-leads k to m slot at mode place (place_sought (length (bytes_at m.files at)) n) i f e) e

guarded : {A : Type 0} (P : HostModel → Type 0) (slot : ℕ) (x y : Then A) → (slot ≤ 257 → P x.1) → P y.1 → P (cond (nat_le slot 257) x y).1
guarded P slot x y h k = on (nat_le slot 257) refl
  where
    on : (b : Bool) → nat_le slot 257 ≡ b → P (cond b x y).1
    on true e = h (grind (arith, nat_tests))
    on false e = k

pub call-leads : (k : ℕ) (to : Slot) (o : HostCall) (m : HostModel) → 257 < k → IsStream to → Leads k to m → Leads k to (host_act o m).1
unfolding open_answer close_answer read_answer write_answer seek_answer tell_answer
call-leads k to (opening slot name mode) m h i e =
    guarded (Leads k to) slot _ _ (λ l. on-either (Leads k to) (is_failing m) _ _ e (opened-leads k to (counted m) (is_read_only mode) slot name mode (place_of m.files name) l h e)) e
call-leads k to (closing slot) m h i e = guarded (Leads k to) slot _ _ (λ l. on-either (Leads k to) (is_failing m) _ _ e (closed-leads k to (counted m) slot (slot_at m slot) l h e)) e
call-leads k to (reading slot len) m h i e = on-either (Leads k to) (is_failing m) _ _ e (read-leads k to (counted m) slot len (slot_at m slot) i refl e)
call-leads k to (writing slot from) m h i e = on-either (Leads k to) (is_failing m) _ _ e (write-leads k to (counted m) slot from (slot_at m slot) i refl e)
call-leads k to (seeking slot n) m h i e = on-either (Leads k to) (is_failing m) _ _ e (seek-leads k to (counted m) slot n (slot_at m slot) i refl e)
call-leads k to (telling slot) m h i e = on-either (Leads k to) (is_failing m) _ _ e e
call-leads k to needing m h i e = e

-- ---- where memory runs out

left-same : (P : HostModel → Type 0) (o : HostCall) (m n : HostModel) → HostLacks o m n → P m → P (counted m) → P n
left-same P (opening slot name mode) m n l h k = rw (l.counts) k
left-same P (closing slot) m n l h k = rw (l.counts) k
left-same P (reading slot len) m n l h k = rw (l.counts) k
left-same P (writing slot from) m n l h k = rw (l.counts) k
left-same P (seeking slot to) m n l h k = rw (l.counts) k
left-same P (telling slot) m n l h k = rw (l.counts) k
left-same P needing m n l h k = rw l h

left-slot : (o : HostCall) (m n : HostModel) (k : ℕ) → HostLacks o m n → slot_at n k ≡ slot_at m k
left-slot o m n k l = left-same (λ v. slot_at v k ≡ slot_at m k) o m n l refl refl

left-output : (o : HostCall) (m n : HostModel) → HostLacks o m n → n.output ≡ m.output
left-output o m n l = left-same (λ v. v.output ≡ m.output) o m n l refl refl

-- ---- standard output

same-front : (xs ys : List ℕ) → ys ≡ xs → IsFront xs ys
same-front xs ys e = subst (λ zs. IsFront xs zs) (sym e) (front-self xs)

abbrev Holds : List ℕ → HostModel → Type 0
Holds xs m = m.output ≡ xs

opened-output : (m : HostModel) (reads : Bool) (slot : ℕ) (name : List ℕ) (mode : Mode) (at : Option ℕ) → Holds m.output (opened reads m slot name mode at).1
opened-output m true slot name mode None = refl
opened-output m true slot name mode (Some at) = refl
opened-output m false slot name mode None = refl
opened-output m false slot name mode (Some at) = refl

closed-output : (m : HostModel) (slot : ℕ) (s : Slot) → Holds m.output (closed m slot s).1
closed-output m slot Closed = refl
closed-output m slot (Open lead mode place) = refl

lead-output : (m : HostModel) (slot len : ℕ) (l : Lead) (mode : Mode) (place : ℕ) → Holds m.output (read_lead m slot len l mode place).1
lead-output m slot len Input mode place = refl
lead-output m slot len Output mode place = refl
lead-output m slot len Errors mode place = refl
lead-output m slot len (File at) mode place = refl

from-output : (m : HostModel) (slot len : ℕ) (s : Slot) → Holds m.output (read_from m slot len s).1
from-output m slot len Closed = refl
from-output m slot len (Open l mode place) = on-either (Holds m.output) (is_write_only mode) _ _ refl (lead-output m slot len l mode place)

-- a read leaves standard output as it is
pub read-output : (m : HostModel) (slot len : ℕ) → (read_answer m slot len).1.output ≡ m.output
unfolding read_answer
read-output m slot len = on-either (Holds m.output) (is_failing m) _ _ refl (from-output (counted m) slot len (slot_at m slot))

moved-output : (m : HostModel) (slot : ℕ) (l : Lead) (mode : Mode) (p : Option ℕ) → Holds m.output (moved m slot l mode p).1
moved-output m slot l mode None = refl
moved-output m slot l mode (Some place) = refl

seek-lead-output : (m : HostModel) (slot : ℕ) (n : ℤ) (l : Lead) (mode : Mode) → Holds m.output (seek_lead m slot n l mode).1
seek-lead-output m slot n Input mode = refl
seek-lead-output m slot n Output mode = refl
seek-lead-output m slot n Errors mode = refl
seek-lead-output m slot n (File at) mode = moved-output m slot (File at) mode (place_sought (length (bytes_at m.files at)) n)

seek-in-output : (m : HostModel) (slot : ℕ) (n : ℤ) (s : Slot) → Holds m.output (seek_in m slot n s).1
seek-in-output m slot n Closed = refl
seek-in-output m slot n (Open l mode place) = on-either (Holds m.output) (is_binary mode) _ _ (seek-lead-output m slot n l mode) refl

call-adds : (o : HostCall) (m : HostModel) → OnlyAdds m (host_act o m).1
unfolding open_answer close_answer seek_answer tell_answer
call-adds (opening slot name mode) m =
    same-front m.output _ (guarded (Holds m.output) slot _ _ (λ l. on-either (Holds m.output) (is_failing m) _ _ refl (opened-output (counted m) (is_read_only mode) slot name mode (place_of m.files name))) refl)
call-adds (closing slot) m = same-front m.output _ (guarded (Holds m.output) slot _ _ (λ l. on-either (Holds m.output) (is_failing m) _ _ refl (closed-output (counted m) slot (slot_at m slot))) refl)
call-adds (reading slot len) m = same-front m.output _ (read-output m slot len)
call-adds (writing slot from) m = write-front m slot from
call-adds (seeking slot n) m = same-front m.output _ (on-either (Holds m.output) (is_failing m) _ _ refl (seek-in-output (counted m) slot n (slot_at m slot)))
call-adds (telling slot) m = same-front m.output _ (on-either (Holds m.output) (is_failing m) _ _ refl refl)
call-adds needing m = front-self m.output

-- ---- held over a host

adds-held : Held host OnlyAdds
unfolding host
adds-held = record {
  self = λ m. front-self m.output;
  through = λ l m n h k. front-through l.output m.output n.output h k;
  acting = call-adds;
  lacking = λ o m n e. same-front m.output n.output (left-output o m n e);
  between = λ o m n e. subst (λ xs. IsFront xs (host_act o m).1.output) (sym (left-output o m n e)) (call-adds o m);
}

leads-held : (k : ℕ) (to : Slot) → 257 < k → IsStream to → Held host (LeadsStill k to)
unfolding host
leads-held k to h i = record {
  self = λ m e. e;
  through = λ l m n f g e. g (f e);
  acting = λ o m e. call-leads k to o m h i e;
  lacking = λ o m n e f. left-slot o m n k e ∙ f;
  between = λ o m n e f. call-leads k to o m h i (sym (left-slot o m n k e) ∙ f);
}

pub streams-held : Held host KeepsStreams
streams-held = record {
  self = λ m. record { growing = front-self m.output; input = λ e. e; output = λ e. e; errors = λ e. e };
  through = λ l m n h k. record {
    growing = front-through l.output m.output n.output h.growing k.growing;
    input = λ e. k.input (h.input e);
    output = λ e. k.output (h.output e);
    errors = λ e. k.errors (h.errors e);
  };
  acting = λ o m. record { growing = adds-held.acting o m; input = input.acting o m; output = output.acting o m; errors = errors.acting o m };
  lacking = λ o m n e. record { growing = adds-held.lacking o m n e; input = input.lacking o m n e; output = output.lacking o m n e; errors = errors.lacking o m n e };
  between = λ o m n e. record { growing = adds-held.between o m n e; input = input.between o m n e; output = output.between o m n e; errors = errors.between o m n e };
}
  where
    input : Held host (LeadsStill 258 to_input)
    input = leads-held 258 to_input (omega arith) tt

    output : Held host (LeadsStill 259 to_output)
    output = leads-held 259 to_output (omega arith) tt

    errors : Held host (LeadsStill 260 to_errors)
    errors = leads-held 260 to_errors (omega arith) tt

-- ---- held over a space and a host

pub beside-held : {Rest : Type 0} (Rel : HostModel → HostModel → Type 0) → Held host Rel → Held both (λ (v w : Both Rest). Rel v.1 w.1)
unfolding both
beside-held {Rest} Rel h = record {
  self = λ w. h.self w.1;
  through = λ u v w a b. h.through u.1 v.1 w.1 a b;
  acting = acts;
  lacking = lacks;
  between = lies;
}
  where
    acts : (o : BothCall) (w : Both Rest) → Rel w.1 (both.act o w).1.1
    acts (of_host o) w = h.acting o w.1
    acts (of_space o) w = h.self w.1
    acts looking w = h.self w.1

    lacks : (o : BothCall) (w v : Both Rest) → both.Lacks o w v → Rel w.1 v.1
    lacks (of_host o) w v l = h.lacking o w.1 v.1 l.1
    lacks (of_space o) w v l = rw (l.1) (h.self w.1)
    lacks looking w v l = absurd l

    lies : (o : BothCall) (w v : Both Rest) → both.Lacks o w v → Rel v.1 (both.act o w).1.1
    lies (of_host o) w v l = h.between o w.1 v.1 l.1
    lies (of_space o) w v l = rw (l.1) (h.self w.1)
    lies looking w v l = absurd l

pub space-held : {Rest : Type 0} (Rel : Contents Rest → Contents Rest → Type 0) → Held space Rel → Held both (λ (v w : Both Rest). Rel v.0 w.0)
unfolding both
space-held {Rest} Rel h = record {
  self = λ w. h.self w.0;
  through = λ u v w a b. h.through u.0 v.0 w.0 a b;
  acting = acts;
  lacking = lacks;
  between = lies;
}
  where
    acts : (o : BothCall) (w : Both Rest) → Rel w.0 (both.act o w).1.0
    acts (of_host o) w = h.self w.0
    acts (of_space o) w = h.acting o w.0
    acts looking w = h.self w.0

    lacks : (o : BothCall) (w v : Both Rest) → both.Lacks o w v → Rel w.0 v.0
    lacks (of_host o) w v l = rw (l.0) (h.self w.0)
    lacks (of_space o) w v l = h.lacking o w.0 v.0 l.0
    lacks looking w v l = absurd l

    lies : (o : BothCall) (w v : Both Rest) → both.Lacks o w v → Rel v.0 (both.act o w).1.0
    lies (of_host o) w v l = rw (l.0) (h.self w.0)
    lies (of_space o) w v l = h.between o w.0 v.0 l.0
    lies looking w v l = absurd l

-- ---- plans

pub streams-end : {A Rest : Type 0} (p : BothPlan A) (w : Both Rest) → KeepsStreams w.1 (end_of both p w).1.1
streams-end {A} {Rest} p w = held-end both (λ (u v : Both Rest). KeepsStreams u.1 v.1) (beside-held KeepsStreams streams-held) p w

pub streams-stop : {A Rest : Type 0} (p : BothPlan A) (v w : Both Rest) → Stops both v p w → KeepsStreams w.1 v.1
streams-stop {A} {Rest} p v w s = held-stop both (λ (x y : Both Rest). KeepsStreams x.1 y.1) (beside-held KeepsStreams streams-held) p v w s

pub output-front : {A Rest : Type 0} (p : BothPlan A) (v w : Both Rest) → Stops both v p w → OnlyAdds v.1 (end_of both p w).1.1
output-front {A} {Rest} p v w s = held-on both (λ (x y : Both Rest). OnlyAdds x.1 y.1) (beside-held OnlyAdds adds-held) p v w s

pub ruleset streaming = (streams-end, streams-stop, output-front)
