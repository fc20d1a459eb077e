-- Where no call fails, what the program does and answers does not depend on the count of calls.
use Rattle.std.proofs.Common.{◌≡◌, ℕ, List, [], Bool, true, false, cond, refl, subst}
use Rattle.std.specs.Prelude.{nat_lt, ◌&&◌}
use Rattle.mx_host.specs.HostModel.{HostModel, counted, is_failing, last_call, slot_at, is_read_only, is_write_only}
use Rattle.mx_host.specs.HostAnswer.{Then, read_answer, read_from, read_lead, write_answer, write_to, write_lead}
use Rattle.mx_host.specs.declared.slots.Slot.{Slot}
use Rattle.mx_host.specs.declared.slots.Slot.TheVariants.{Closed, Open}
use Rattle.mx_host.specs.declared.slots.Mode.{Mode}
use Rattle.mx_host.specs.declared.slots.Lead.{Lead}
use Rattle.mx_host.specs.declared.slots.Lead.TheVariants.{Input, Output, Errors, File}

-- the model with no call that fails, and a count of calls that stays as it is
abbrev pub still : HostModel → HostModel
still m = record m { calls = last_call; failing = [] }

-- an answer and the answer of the still model: they are the same, and so are the models after them but for the calls
abbrev pub Steady : {A : Type 0} → Then A → Then A → Type 0
Steady {A} t u = ((t.0, still t.1) ≡ u) × (t.1.failing ≡ [])

never : (m : HostModel) → m.failing ≡ [] → is_failing m ≡ false
never m h = rw h (off (nat_lt m.calls last_call))
  where
    off : (b : Bool) → (b && false) ≡ false
    off true = refl
    off false = refl

-- an answer that a failing call would have in place
here : {A : Type 0} (b : Bool) (x y z : Then A) → b ≡ false → Steady y z → Steady (cond b x y) z
here b x y z e h = rw e h

pub either : {A : Type 0} (b : Bool) (x y v w : Then A) → Steady x v → Steady y w → Steady (cond b x y) (cond b v w)
either true x y v w h k = h
either false x y v w h k = k

-- what follows a steady answer
pub then : {A B : Type 0} (more : Then A → Then B) (t u : Then A) → ((a : A) (m : HostModel) → m.failing ≡ [] → Steady (more (a, m)) (more (a, still m))) →
    Steady t u → Steady (more t) (more u)
then more (a, m) u f h = subst (λ w. Steady (more (a, m)) (more w)) h.0 (f a m h.1)

read_lead-still : (m : HostModel) (slot len : ℕ) (l : Lead) (mode : Mode) (place : ℕ) → m.failing ≡ [] → Steady (read_lead (counted m) slot len l mode place) (read_lead (still m) slot len l mode place)
read_lead-still m slot len Input mode place h = (refl, h)
read_lead-still m slot len Output mode place h = (refl, h)
read_lead-still m slot len Errors mode place h = (refl, h)
read_lead-still m slot len (File at) mode place h = (refl, h)

from-still : (m : HostModel) (slot len : ℕ) (s : Slot) → m.failing ≡ [] → Steady (read_from (counted m) slot len s) (read_from (still m) slot len s)
from-still m slot len Closed h = (refl, h)
from-still m slot len (Open l mode place) h = either (is_write_only mode) _ _ _ _ (refl, h) (read_lead-still m slot len l mode place h)

pub read-still : (m : HostModel) (slot len : ℕ) → m.failing ≡ [] → Steady (read_answer m slot len) (read_answer (still m) slot len)
unfolding read_answer
read-still m slot len h = here (is_failing m) _ _ _ (never m h) (from-still m slot len (slot_at m slot) h)

write_lead-still : (m : HostModel) (slot : ℕ) (from : List ℕ) (l : Lead) (mode : Mode) (place : ℕ) → m.failing ≡ [] → Steady (write_lead (counted m) slot from l mode place) (write_lead (still m) slot from l mode place)
write_lead-still m slot from Input mode place h = (refl, h)
write_lead-still m slot from Output mode place h = (refl, h)
write_lead-still m slot from Errors mode place h = (refl, h)
write_lead-still m slot from (File at) mode place h = (refl, h)

to-still : (m : HostModel) (slot : ℕ) (from : List ℕ) (s : Slot) → m.failing ≡ [] → Steady (write_to (counted m) slot from s) (write_to (still m) slot from s)
to-still m slot from Closed h = (refl, h)
to-still m slot from (Open l mode place) h = either (is_read_only mode) _ _ _ _ (refl, h) (write_lead-still m slot from l mode place h)

pub write-still : (m : HostModel) (slot : ℕ) (from : List ℕ) → m.failing ≡ [] → Steady (write_answer m slot from) (write_answer (still m) slot from)
unfolding write_answer
write-still m slot from h = here (is_failing m) _ _ _ (never m h) (to-still m slot from (slot_at m slot) h)
