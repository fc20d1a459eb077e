-- Where no call that is made fails, what is answered and left does not depend on the count of calls, nor on the list of
-- those that fail: for calls, and for all plans.
use Rattle.std.proofs.Common.{◌≡◌, ℕ, ℤ, ◌+◌, ◌≤◌, ◌<◌, List, [], length, Bool, true, false, cond, refl, sym, ◌∙◌, ap, Some, None, arith, le_refl}
use Rattle.std.specs.Prelude.{Option, nat_lt, nat_le}
use Rattle.std.proofs.lemmas.Bool.{and_parts}
use Rattle.mx_host.specs.HostModel.{HostModel, counted, is_failing, is_listed, last_call, slot_at, is_read_only, is_write_only, is_binary, place_of}
use Rattle.mx_host.specs.HostAnswer.{Then, open_answer, opened, read_answer, read_from, read_lead, write_answer, write_to, write_lead, close_answer, closed, seek_answer, seek_in, seek_lead, moved, place_sought, tell_answer, bytes_at}
use Rattle.mx_host.specs.declared.slots.Slot.{Slot}
use Rattle.mx_host.specs.declared.slots.Slot.TheVariants.{Closed, Open}
use Rattle.mx_host.specs.declared.slots.Mode.{Mode}
use Rattle.mx_host.specs.declared.slots.Lead.{Lead}
use Rattle.mx_host.specs.declared.slots.Lead.TheVariants.{Input, Output, Errors, File}
use Rattle.mx_host.proofs.Still.{still}
use Rattle.mx_plan.specs.Calls.{HostCall, HostSays, opening, closing, reading, writing, seeking, telling, needing, host, HostPlan, of_host, of_space, looking, Both, BothPlan, both}
use Rattle.mx_plan.specs.Counts.{NoneFailed, without_count, unscheduled, end_unscheduled}
use Rattle.mx_plan.specs.Plan.{returns, calls, end_of}

-- From the model m to n: t, which has the still model in place of n, is what u is, which the still model comes to, if
-- no call that is made fails; and calls are only counted, and no list changes.
pub record Spares {X : Type 0} (m n : HostModel) (t u : X) : Type 0 where
  pub same : NoneFailed m n → t ≡ u
  pub later : m.calls ≤ n.calls
  pub list : n.failing ≡ m.failing

-- an answer and the model after it, and the same over the still model
abbrev pub Spared : {A : Type 0} → HostModel → Then A → Then A → Type 0
Spared {A} m t u = Spares m t.1 (t.0, still t.1) u

-- ---- no call, one call, and what follows

pub uncalled : {X : Type 0} {m : HostModel} {t : X} → Spares m m t t
uncalled {X} {m} {t} = record { same = λ none. refl; later = le_refl m.calls; list = refl }

counts : (m : HostModel) → m.calls ≤ (counted m).calls
counts m = up (nat_lt m.calls last_call) m.calls
  where
    up : (b : Bool) (n : ℕ) → n ≤ cond b (n + 1) n
    up true n = omega arith
    up false n = omega arith

pub called : {X : Type 0} (m n : HostModel) (t : X) → n.calls ≡ (counted m).calls → n.failing ≡ m.failing → Spares m n t t
called m n t e f = record { same = λ none. refl; later = rw e (counts m); list = f }

pub sooner : (m n l : HostModel) → n.calls ≤ l.calls → NoneFailed m l → NoneFailed m n
sooner m n l h none call from to = none call from (omega arith)

pub after : {X Y : Type 0} {m n l : HostModel} {t u : X} {w : Y} (f : X → Y) → Spares m n t u → Spares n l w (f t) → Spares m l w (f u)
after {X} {Y} {m} {n} {l} f h k =
    let early = h.later in
    let late = k.later in
    let second : NoneFailed m l → NoneFailed n l = λ none call from to. ap (is_listed call) h.list ∙ none call (omega arith) to in
    record { same = λ none. k.same (second none) ∙ ap f (h.same (sooner m n l late none)); later = omega arith; list = k.list ∙ h.list }

pub then : {A B : Type 0} {m : HostModel} (more : Then A → Then B) (t u : Then A) → ((a : A) (n : HostModel) → Spared n (more (a, n)) (more (a, still n))) →
    Spared m t u → Spared m (more t) (more u)
then more (a, n) u f h = after more h (f a n)

pub either : {A : Type 0} {m : HostModel} (b : Bool) (x y v w : Then A) → Spared m x v → Spared m y w → Spared m (cond b x y) (cond b v w)
either true x y v w h k = h
either false x y v w h k = k

-- what is the same where no call fails at all
pub steady-of : {X : Type 0} {m n : HostModel} {t u : X} → Spares m n t u → m.failing ≡ [] → (t ≡ u) × (n.failing ≡ [])
steady-of h e = (h.same (λ call from to. ap (is_listed call) e), h.list ∙ e)

-- ---- the calls of the host

-- a call that fails is listed
fails : (m : HostModel) → is_failing m ≡ true → NoneFailed m (counted m) → ⊥
fails m e none =
    let parts = and_parts (nat_lt m.calls last_call) (is_listed m.calls m.failing) e in
    let is : is_listed m.calls m.failing ≡ false = none m.calls (le_refl m.calls) (up (nat_lt m.calls last_call) m.calls parts.0) in
    cc
  where
    up : (b : Bool) (n : ℕ) → b ≡ true → n < cond b (n + 1) n
    up true n e = omega arith
    up false n e = absurd (cc)

-- an answer that a failing call would have in place
pub here : {A : Type 0} (m : HostModel) (b : Bool) → is_failing m ≡ b → (r : A) (z u : Then A) → Spared m z u → Spared m (cond b (r, counted m) z) u
here m true e r z u h = record { same = λ none. absurd (fails m e none); later = counts m; list = refl }
here m false e r z u h = h

opened-spared : (m : HostModel) (reads : Bool) (slot : ℕ) (name : List ℕ) (mode : Mode) (at : Option ℕ) →
    Spared m (opened reads (counted m) slot name mode at) (opened reads (still m) slot name mode at)
opened-spared m true slot name mode None = called m _ _ refl refl
opened-spared m true slot name mode (Some at) = called m _ _ refl refl
opened-spared m false slot name mode None = called m _ _ refl refl
opened-spared m false slot name mode (Some at) = called m _ _ refl refl

pub open-spared : (m : HostModel) (slot : ℕ) (name : List ℕ) (mode : Mode) → Spared m (open_answer m slot name mode) (open_answer (still m) slot name mode)
unfolding open_answer
open-spared m slot name mode = here m (is_failing m) refl _ _ _ (opened-spared m (is_read_only mode) slot name mode (place_of m.files name))

read_lead-spared : (m : HostModel) (slot len : ℕ) (l : Lead) (mode : Mode) (place : ℕ) → Spared m (read_lead (counted m) slot len l mode place) (read_lead (still m) slot len l mode place)
read_lead-spared m slot len Input mode place = called m _ _ refl refl
read_lead-spared m slot len Output mode place = called m _ _ refl refl
read_lead-spared m slot len Errors mode place = called m _ _ refl refl
read_lead-spared m slot len (File at) mode place = called m _ _ refl refl

from-spared : (m : HostModel) (slot len : ℕ) (s : Slot) → Spared m (read_from (counted m) slot len s) (read_from (still m) slot len s)
from-spared m slot len Closed = called m _ _ refl refl
from-spared m slot len (Open l mode place) = either (is_write_only mode) _ _ _ _ (called m _ _ refl refl) (read_lead-spared m slot len l mode place)

pub read-spared : (m : HostModel) (slot len : ℕ) → Spared m (read_answer m slot len) (read_answer (still m) slot len)
unfolding read_answer
read-spared m slot len = here m (is_failing m) refl _ _ _ (from-spared m slot len (slot_at m slot))

write_lead-spared : (m : HostModel) (slot : ℕ) (from : List ℕ) (l : Lead) (mode : Mode) (place : ℕ) → Spared m (write_lead (counted m) slot from l mode place) (write_lead (still m) slot from l mode place)
write_lead-spared m slot from Input mode place = called m _ _ refl refl
write_lead-spared m slot from Output mode place = called m _ _ refl refl
write_lead-spared m slot from Errors mode place = called m _ _ refl refl
write_lead-spared m slot from (File at) mode place = called m _ _ refl refl

to-spared : (m : HostModel) (slot : ℕ) (from : List ℕ) (s : Slot) → Spared m (write_to (counted m) slot from s) (write_to (still m) slot from s)
to-spared m slot from Closed = called m _ _ refl refl
to-spared m slot from (Open l mode place) = either (is_read_only mode) _ _ _ _ (called m _ _ refl refl) (write_lead-spared m slot from l mode place)

pub write-spared : (m : HostModel) (slot : ℕ) (from : List ℕ) → Spared m (write_answer m slot from) (write_answer (still m) slot from)
unfolding write_answer
write-spared m slot from = here m (is_failing m) refl _ _ _ (to-spared m slot from (slot_at m slot))

closed-spared : (m : HostModel) (slot : ℕ) (s : Slot) → Spared m (closed (counted m) slot s) (closed (still m) slot s)
closed-spared m slot Closed = called m _ _ refl refl
closed-spared m slot (Open l mode place) = called m _ _ refl refl

pub close-spared : (m : HostModel) (slot : ℕ) → Spared m (close_answer m slot) (close_answer (still m) slot)
unfolding close_answer
close-spared m slot = here m (is_failing m) refl _ _ _ (closed-spared m slot (slot_at m slot))

moved-spared : (m : HostModel) (slot : ℕ) (l : Lead) (mode : Mode) (p : Option ℕ) → Spared m (moved (counted m) slot l mode p) (moved (still m) slot l mode p)
moved-spared m slot l mode None = called m _ _ refl refl
moved-spared m slot l mode (Some place) = called m _ _ refl refl

seek_lead-spared : (m : HostModel) (slot : ℕ) (to : ℤ) (l : Lead) (mode : Mode) → Spared m (seek_lead (counted m) slot to l mode) (seek_lead (still m) slot to l mode)
seek_lead-spared m slot to Input mode = called m _ _ refl refl
seek_lead-spared m slot to Output mode = called m _ _ refl refl
seek_lead-spared m slot to Errors mode = called m _ _ refl refl
seek_lead-spared m slot to (File at) mode = moved-spared m slot (File at) mode (place_sought (length (bytes_at m.files at)) to)

seek_in-spared : (m : HostModel) (slot : ℕ) (to : ℤ) (s : Slot) → Spared m (seek_in (counted m) slot to s) (seek_in (still m) slot to s)
seek_in-spared m slot to Closed = called m _ _ refl refl
seek_in-spared m slot to (Open l mode place) = either (is_binary mode) _ _ _ _ (seek_lead-spared m slot to l mode) (called m _ _ refl refl)

pub seek-spared : (m : HostModel) (slot : ℕ) (to : ℤ) → Spared m (seek_answer m slot to) (seek_answer (still m) slot to)
unfolding seek_answer
seek-spared m slot to = here m (is_failing m) refl _ _ _ (seek_in-spared m slot to (slot_at m slot))

pub tell-spared : (m : HostModel) (slot : ℕ) → Spared m (tell_answer m slot) (tell_answer (still m) slot)
unfolding tell_answer
tell-spared m slot = here m (is_failing m) refl _ _ _ (called m _ _ refl refl)

-- ---- plans

guarded : {A : Type 0} (m : HostModel) (b : Bool) (e : A) (x u : Then A) → Spared m x u → Spared m (cond b x (e, m)) (cond b u (e, still m))
guarded m true e x u h = h
guarded m false e x u h = uncalled

call-spared : (o : HostCall) (m : HostModel) → Spared m (host.act o m) (host.act o (still m))
unfolding host
call-spared (opening slot name mode) m = guarded m (nat_le slot 257) _ _ _ (open-spared m slot name mode)
call-spared (closing slot) m = guarded m (nat_le slot 257) _ _ _ (close-spared m slot)
call-spared (reading slot len) m = read-spared m slot len
call-spared (writing slot from) m = write-spared m slot from
call-spared (seeking slot to) m = seek-spared m slot to
call-spared (telling slot) m = tell-spared m slot
call-spared needing m = uncalled

pub plan-spared : {A : Type 0} (p : HostPlan A) (m : HostModel) → Spared m (end_of host p m) (end_of host p (still m))
unfolding end_of
plan-spared (returns a) m = uncalled
plan-spared {A} (calls o k) m =
    then {A = HostSays o} {B = A} (λ t. end_of host (k t.0) t.1) (host.act o m) (host.act o (still m)) (λ a n. plan-spared (k a) n) (call-spared o m)

-- an answer, the space and the model after it, and the same over the still model
abbrev pub SparedBoth : {A Rest : Type 0} → HostModel → A × Both Rest → A × Both Rest → Type 0
SparedBoth {A} {Rest} m t u = Spares m t.1.1 (t.0, (t.1.0, still t.1.1)) u

pub both-spared : {A Rest : Type 0} (p : BothPlan A) (w : Both Rest) → SparedBoth w.1 (end_of both p w) (end_of both p (w.0, still w.1))
unfolding end_of both
both-spared (returns a) w = uncalled
both-spared {A} {Rest} (calls (of_host o) k) w =
    let rest : Then (HostSays o) → A × Both Rest = λ t. end_of both (k t.0) (w.0, t.1) in
    after {u = host.act o (still w.1)} rest (call-spared o w.1) (both-spared (k (host.act o w.1).0) (w.0, (host.act o w.1).1))
both-spared (calls (of_space o) k) w = both-spared (k (both.act (of_space o) w).0) ((both.act (of_space o) w).1.0, w.1)
both-spared (calls looking k) w = both-spared (k w.0.bytes) w

-- what is left where no call is counted and none fails
pub still-same : (m n : HostModel) → unscheduled m ≡ unscheduled n → still m ≡ still n
still-same m n e = ap (λ (k : HostModel). still k) e

pub uncounted-of : (m n : HostModel) → still m ≡ still n → m.failing ≡ n.failing → without_count m ≡ without_count n
uncounted-of m n e h = ap (λ (q : HostModel). record q { calls = 0; failing = m.failing }) e ∙ ap (λ (f : List ℕ). record n { calls = 0; failing = f }) h

pub plans-same : {A Rest : Type 0} (p : BothPlan A) (s : Both Rest) (n : HostModel) → unscheduled s.1 ≡ unscheduled n → NoneFailed s.1 (end_of both p s).1.1 → NoneFailed n (end_of both p (s.0, n)).1.1 →
    end_unscheduled (end_of both p s) ≡ end_unscheduled (end_of both p (s.0, n))
plans-same {A} {Rest} p s n e h k =
    let a = (both-spared p s).same h in
    let b = (both-spared p (s.0, n)).same k in
    ap (λ (t : A × Both Rest). end_unscheduled t) (a ∙ ap (λ q. end_of both p (s.0, q)) (still-same s.1 n e) ∙ sym b)

pub ruleset counting = (plans-same)
