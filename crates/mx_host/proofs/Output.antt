-- A write only adds to standard output.
use Rattle.std.proofs.Common.{ℕ, List, Bool, true, false, cond, refl}
use Rattle.mx_word.specs.Lists.{IsFront}
use Rattle.mx_word.proofs.Fronts.{front-self}
use Rattle.mx_host.specs.HostModel.{HostModel, counted, is_failing, slot_at, is_read_only}
use Rattle.mx_host.specs.HostAnswer.{Then, write_answer, write_to, write_lead}
use Rattle.mx_host.specs.declared.slots.Slot.{Slot}
use Rattle.mx_host.specs.declared.slots.Slot.TheVariants.{Closed, Open}
use Rattle.mx_host.specs.declared.slots.Mode.{Mode}
use Rattle.mx_host.specs.declared.slots.Lead.{Lead}
use Rattle.mx_host.specs.declared.slots.Lead.TheVariants.{Input, Output, Errors, File}

either-front : {A : Type 0} (xs : List ℕ) (b : Bool) (x y : Then A) → IsFront xs x.1.output → IsFront xs y.1.output → IsFront xs (cond b x y).1.output
either-front xs true x y h k = h
either-front xs false x y h k = k

lead-front : (m : HostModel) (slot : ℕ) (from : List ℕ) (l : Lead) (mode : Mode) (place : ℕ) → IsFront m.output (write_lead m slot from l mode place).1.output
lead-front m slot from Input mode place = front-self m.output
lead-front m slot from Output mode place = (from, refl)
lead-front m slot from Errors mode place = front-self m.output
lead-front m slot from (File at) mode place = front-self m.output

to-front : (m : HostModel) (slot : ℕ) (from : List ℕ) (s : Slot) → IsFront m.output (write_to m slot from s).1.output
to-front m slot from Closed = front-self m.output
to-front m slot from (Open l mode place) = either-front m.output (is_read_only mode) _ _ (front-self m.output) (lead-front m slot from l mode place)

-- a write only adds to standard output
pub write-front : (m : HostModel) (slot : ℕ) (from : List ℕ) → IsFront m.output (write_answer m slot from).1.output
unfolding write_answer
write-front m slot from = either-front m.output (is_failing m) _ _ (front-self m.output) (to-front (counted m) slot from (slot_at m slot))
