-- A call on a slot that serves it is misused over no host that tells its contents.
use Rattle.std.proofs.Common.{IsTrue, ◌≡◌, ◌≢◌, ℕ, List, Bool, true, false, cond, Err, None, Some, refl, sym, ◌∙◌, ap, ◌≤◌, nat_le, arith}
use Rattle.std.proofs.lemmas.Bool.Decides.{nat_tests}
use Rattle.std.specs.Prelude.{Option, Result, not, ◌&&◌}
use Rattle.mx_host.specs.HostAnswer.{Then, read_answer, read_from, read_lead, write_answer, write_to, write_lead, close_answer, closed, open_answer, opened}
use Rattle.mx_host.specs.HostModel.{HostModel, tells, contents, counted, is_failing, slot_at, is_read_only, is_write_only, place_of, Rose}
use Rattle.mx_host.specs.Keeping.{ComesByFault}
use Rattle.mx_host.specs.declared.faults.HostFault.{HostFault}
use Rattle.mx_host.specs.declared.faults.HostFault.TheVariants.{Misused, OutOfMemory}
use Rattle.mx_host.specs.declared.faults.OpenFault.{OpenFault}
use Rattle.mx_host.specs.declared.faults.OpenFault.TheVariants as opening
use Rattle.mx_host.specs.declared.faults.OpenFault.TheVariants.{Absent}
use Rattle.mx_host.specs.declared.slots.Lead.{Lead}
use Rattle.mx_host.specs.declared.slots.Lead.TheVariants.{Input, Output, Errors, File}
use Rattle.mx_host.specs.declared.slots.Mode.{Mode}
use Rattle.mx_host.specs.declared.slots.Mode.TheVariants.{BinaryWrite}
use Rattle.mx_host.specs.declared.slots.Slot.{Slot}
use Rattle.mx_host.specs.declared.slots.Slot.TheVariants.{Closed, Open}
use Rattle.mx_plan.specs.Calls.{host, HostPlan, read_plan, write_plan, close_plan, open_plan}
use Rattle.mx_plan.specs.Clauses.{CarriesOutOnHost, KeepsHost}
use Rattle.mx_plan.specs.Held.{Makes}
use Rattle.mx_plan.specs.Plan.{returns, bind, end_of, end_after}
use Rattle.mx_plan.proofs.Plans.{end_bind, end_returns}
use Rattle.mx_files.specs.Clauses.{Serves, gives, takes, can_read, can_write, is_open, DoesPartBetween}
use Rattle.mx_files.specs.FilePlans.{Part, carried, piece_added, read_piece, write_piece, close_file}
use Rattle.mx_files.specs.ObjectPlans.{open_object}
use Rattle.mx_outcome.specs.declared.outcome.Outcome.TheVariants.{HostFault as Broken}
use Rattle.mx_files.proofs.Parts.{makes-first}

abbrev IsServed : {A : Type 0} → Then (Result A HostFault) → Type 0
IsServed t = t.0 ≢ Err Misused

-- what fails is not misused
unless-failing : {A : Type 0} (b : Bool) (x y : Then (Result A HostFault)) → IsServed x → IsServed y → IsServed (cond b x y)
unless-failing true x y h k = h
unless-failing false x y h k = k

read-lead : (m : HostModel) (slot len : ℕ) (l : Lead) (mode : Mode) (place : ℕ) → gives l ≡ true → IsServed (read_lead m slot len l mode place)
read-lead m slot len Input mode place h = λ e. absurd (cc)
read-lead m slot len Output mode place h = absurd (cc)
read-lead m slot len Errors mode place h = absurd (cc)
read-lead m slot len (File at) mode place h = λ e. absurd (cc)

read-mode : (m : HostModel) (slot len : ℕ) (l : Lead) (mode : Mode) (place : ℕ) (b : Bool) → (not b && gives l) ≡ true → IsServed (cond b (Err Misused, m) (read_lead m slot len l mode place))
read-mode m slot len l mode place true h = absurd (cc)
read-mode m slot len l mode place false h = read-lead m slot len l mode place h

read-slot : (m : HostModel) (slot len : ℕ) (s : Slot) → can_read s ≡ true → IsServed (read_from m slot len s)
read-slot m slot len Closed h = absurd (cc)
read-slot m slot len (Open l mode place) h = read-mode m slot len l mode place (is_write_only mode) h

read-served : (slot len : ℕ) (n : HostModel) → Makes host Serves (read_plan slot len) n → IsServed (end_of host (read_plan slot len) n)
unfolding read_plan Makes end_of host read_answer
read-served slot len n h = unless-failing (is_failing n) _ _ (λ e. absurd (cc)) (read-slot (counted n) slot len (slot_at n slot) h.0)

write-lead : (m : HostModel) (slot : ℕ) (from : List ℕ) (l : Lead) (mode : Mode) (place : ℕ) → takes l ≡ true → IsServed (write_lead m slot from l mode place)
write-lead m slot from Input mode place h = absurd (cc)
write-lead m slot from Output mode place h = λ e. absurd (cc)
write-lead m slot from Errors mode place h = λ e. absurd (cc)
write-lead m slot from (File at) mode place h = λ e. absurd (cc)

write-mode : (m : HostModel) (slot : ℕ) (from : List ℕ) (l : Lead) (mode : Mode) (place : ℕ) (b : Bool) → (not b && takes l) ≡ true → IsServed (cond b (Err Misused, m) (write_lead m slot from l mode place))
write-mode m slot from l mode place true h = absurd (cc)
write-mode m slot from l mode place false h = write-lead m slot from l mode place h

write-slot : (m : HostModel) (slot : ℕ) (from : List ℕ) (s : Slot) → can_write s ≡ true → IsServed (write_to m slot from s)
write-slot m slot from Closed h = absurd (cc)
write-slot m slot from (Open l mode place) h = write-mode m slot from l mode place (is_read_only mode) h

write-served : (slot : ℕ) (from : List ℕ) (n : HostModel) → Makes host Serves (write_plan slot from) n → IsServed (end_of host (write_plan slot from) n)
unfolding write_plan Makes end_of host write_answer
write-served slot from n h = unless-failing (is_failing n) _ _ (λ e. absurd (cc)) (write-slot (counted n) slot from (slot_at n slot) h.0)

close-slot : (m : HostModel) (slot : ℕ) (s : Slot) → is_open s ≡ true → IsServed (closed m slot s)
close-slot m slot Closed h = absurd (cc)
close-slot m slot (Open l mode place) h = λ e. absurd (cc)

close-served : (slot : ℕ) (n : HostModel) → slot ≤ 257 → Makes host Serves (close_plan slot) n → IsServed (end_of host (close_plan slot) n)
unfolding close_plan Makes end_of host close_answer
close-served slot n l h =
    rw (low slot l) (unless-failing (is_failing n) _ _ (λ e. absurd (cc)) (close-slot (counted n) slot (slot_at n slot) h.0))
  where
    low : (slot : ℕ) → slot ≤ 257 → nat_le slot 257 ≡ true
    low slot l = grind (arith, nat_tests)

-- ---- calls

by-failing : {A B C : Type 0} (a b : Option HostModel) (k m : ℕ) (f : Result A HostFault → HostPlan B) (p : HostPlan (Result A HostFault)) →
    ((n : HostModel) → Makes host Serves p n → IsServed (end_of host p n)) →
    CarriesOutOnHost a b (Err OutOfMemory) (Err Misused) p → ComesByFault {A = Result C HostFault} a (Err Misused) (Err Misused) k m →
    (IsTrue (tells a) → Makes host Serves (bind f p) (contents a)) → Rose k m
by-failing {A} a b k m f p served told misused makes = misused (λ t.
    let is = (told t).ending (λ e. absurd (cc)) in
    served (contents a) (makes-first host Serves f p (contents a) (makes t)) (sym (ap (λ (u : Then (Result A HostFault)). u.0) is))) refl

-- the fault of a call that was misused, as a part of the work
misused-works : {A B C : Type 0} (a b : Option HostModel) (k m : ℕ) (f : Result A HostFault → Part B) (p : HostPlan (Result A HostFault)) → f (Err Misused) ≡ returns (Err Broken) →
    ((n : HostModel) → Makes host Serves p n → IsServed (end_of host p n)) →
    CarriesOutOnHost a b (Err OutOfMemory) (Err Misused) p → ComesByFault {A = Result C HostFault} a (Err Misused) (Err Misused) k m → KeepsHost a b k m → DoesPartBetween a b k m (Err Broken) (bind f p)
misused-works {A} {B} {C} a b k m f p e served told misused keeps = record {
  told = λ t. record {
    ending = λ ne. sym (end_bind host f p (contents a) ∙ ap (end_after host f) (sym ((told t).ending (λ x. absurd (cc)))) ∙ ap (λ (q : Part B). end_of host q (contents b)) e ∙ end_returns host (Err Broken) (contents b));
    stopping = λ x. absurd (cc);
  };
  cause = λ makes x. by-failing {C = C} a b k m f p served told misused makes;
  absent = λ u x. absurd (cc);
  ends = refl;
  keeps = keeps;
}

pub read-misused : (a b : Option HostModel) (k m : ℕ) (got : List ℕ) → CarriesOutOnHost a b (Err OutOfMemory) (Err Misused) (read_plan 256 4096) →
    ComesByFault {A = Result ℕ HostFault} a (Err Misused) (Err Misused) k m → KeepsHost a b k m → DoesPartBetween a b k m (Err Broken) (read_piece got)
unfolding read_piece
read-misused a b k m got told misused keeps = misused-works {C = ℕ} a b k m (piece_added got) (read_plan 256 4096) refl (read-served 256 4096) told misused keeps

pub write-misused : (a b : Option HostModel) (k m slot : ℕ) (from : List ℕ) → CarriesOutOnHost a b (Err OutOfMemory) (Err Misused) (write_plan slot from) →
    ComesByFault {A = Result (Unit {0}) HostFault} a (Err Misused) (Err Misused) k m → KeepsHost a b k m → DoesPartBetween a b k m (Err Broken) (write_piece slot from)
unfolding write_piece
write-misused a b k m slot from told misused keeps = misused-works {C = Unit {0}} a b k m (λ r. returns (carried r)) (write_plan slot from) refl (write-served slot from) told misused keeps

pub close-misused : (a b : Option HostModel) (k m slot : ℕ) → slot ≤ 257 → CarriesOutOnHost a b (Err OutOfMemory) (Err Misused) (close_plan slot) →
    ComesByFault {A = Result (Unit {0}) HostFault} a (Err Misused) (Err Misused) k m → KeepsHost a b k m → DoesPartBetween a b k m (Err Broken) (close_file slot)
unfolding close_file
close-misused a b k m slot l told misused keeps = misused-works {C = Unit {0}} a b k m (λ r. returns (carried r)) (close_plan slot) refl (λ n. close-served slot n l) told misused keeps

-- ---- a file that is opened for writing is made where it is not there

opened-present : (m : HostModel) (slot : ℕ) (name : List ℕ) (at : Option ℕ) → (opened false m slot name BinaryWrite at).0 ≢ Err Absent
opened-present m slot name None = λ e. absurd (cc)
opened-present m slot name (Some at) = λ e. absurd (cc)

failing-present : (b : Bool) (x y : Then (Result (Unit {0}) OpenFault)) → x.0 ≢ Err Absent → y.0 ≢ Err Absent → (cond b x y).0 ≢ Err Absent
failing-present true x y h k = h
failing-present false x y h k = k

present : (name : List ℕ) (n : HostModel) → (end_of host (open_plan 257 name BinaryWrite) n).0 ≢ Err Absent
unfolding open_plan end_of host open_answer
present name n = failing-present (is_failing n) _ _ (λ e. absurd (cc)) (opened-present (counted n) 257 name (place_of n.files name))

pub object-absent : (a b : Option HostModel) (k m : ℕ) (name : List ℕ) → CarriesOutOnHost a b (Err opening.OutOfMemory) (Err Absent) (open_plan 257 name BinaryWrite) →
    ComesByFault {A = Result (Unit {0}) OpenFault} a (Err Absent) (Err Absent) k m → KeepsHost a b k m → DoesPartBetween a b k m (Err Broken) (open_object name)
unfolding open_object
object-absent a b k m name told absent keeps = record {
  told = λ t. record { ending = λ ne. absurd (never t); stopping = λ x. absurd (cc) };
  cause = λ makes x. absent never refl;
  absent = λ u x. absurd (cc);
  ends = refl;
  keeps = keeps;
}
  where
    never : IsTrue (tells a) → ⊥
    never t = present name (contents a) (sym (ap (λ (u : Then (Result (Unit {0}) OpenFault)). u.0) ((told t).ending (λ x. absurd (cc)))))
