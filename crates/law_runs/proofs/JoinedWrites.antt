-- Where no call that is made fails, a text that goes out in pieces comes to the same as one that goes out in one write.
use Rattle.std.proofs.Common.{◌≡◌, ◌≤◌, ℕ, suc, zero, ◌+◌, ◌-◌, ◌/◌, List, [], Bool, true, false, cond, length, take, drop, refl, sym, ◌∙◌, ap, subst, le_refl, Ok, Err}
use Rattle.std.specs.Prelude.{Result}
use Rattle.mx_host.specs.HostModel.{HostModel, counted, is_failing, is_read_only, slot_at}
use Rattle.mx_host.specs.HostAnswer.{Then, write_answer, write_to, write_lead}
use Rattle.mx_host.specs.declared.faults.HostFault.{HostFault}
use Rattle.mx_host.specs.declared.slots.Slot.{Slot}
use Rattle.mx_host.specs.declared.slots.Slot.TheVariants.{Closed, Open}
use Rattle.mx_host.specs.declared.slots.Mode.{Mode}
use Rattle.mx_host.specs.declared.slots.Lead.{Lead}
use Rattle.mx_host.specs.declared.slots.Lead.TheVariants.{Input, Output, Errors, File}
use Rattle.mx_host.proofs.Still.{still}
use Rattle.mx_plan.specs.Counts.{NoneFailed, unscheduled}
use Rattle.mx_trap.specs.Laws.{SameButCalls}
use Rattle.mx_trap.specs.Moves.{whole_pieces}
use Rattle.mx_trap.proofs.Walks.{write_last, write_piece, write_next, write_pieces, written}
use Rattle.mx_trap.specs.declared.writes.Written.{Written}
use Rattle.mx_trap.specs.declared.writes.Written.TheVariants.{Whole, Short, OutOfMemory}
use Rattle.mx_trap.proofs.JoinedWrites.{written-joined}
use Rattle.mx_plan.proofs.Spared.{sooner}
use Rattle.law_runs.proofs.SteadyFiles.{piece-steady, text-steady}
use Rattle.mx_plan.specs.Calls.{host}
use Rattle.mx_plan.specs.Plan.{end_of, end_after}
use Rattle.mx_plan.proofs.Spared.{plan-spared}
use Rattle.mx_files.specs.FilePlans.{Part, on_ok}
use Rattle.mx_files.specs.FilePlans as plans
use Rattle.mx_files.specs.Writing.{was_put, put_piece, put_text}
use Rattle.mx_files.proofs.FileEnds.{then_carried, write-by, none-by, more-by}
use Rattle.mx_outcome.specs.declared.outcome.Outcome.{Outcome}

-- whether all was written, by what a file trap counts
abbrev is_whole : Written → Bool
is_whole Whole = true
is_whole (Short n) = false
is_whole OutOfMemory = false

abbrev as_put : Then Written → Then Bool
as_put t = (is_whole t.0, t.1)

last-put : (gone : ℕ) (t : Then (Result (Unit {0}) HostFault)) → as_put (write_last gone t) ≡ was_put (then_carried t)
last-put gone (Ok u, m) = refl
last-put gone (Err e, m) = refl

next-put : (more : HostModel → Then Written) (others : Part (Unit {0})) → ((m : HostModel) → as_put (more m) ≡ was_put (end_of host others m)) → (gone : ℕ) (t : Then (Result (Unit {0}) HostFault)) →
    as_put (write_next more (write_last gone t)) ≡ was_put (end_after host (on_ok (λ u. others)) (then_carried t))
unfolding end_of
next-put more others h gone (Ok u, m) = h m
next-put more others h gone (Err e, m) = refl

piece-put : (slot : ℕ) (text : List ℕ) (gone : ℕ) (m : HostModel) → as_put (write_piece slot text gone m) ≡ put_piece slot text m
piece-put slot text gone m = last-put gone (write_answer m slot text) ∙ ap was_put (sym (write-by slot text m))

pieces-put : (k slot : ℕ) (text : List ℕ) (gone : ℕ) (m : HostModel) → as_put (write_pieces k slot text gone m) ≡ was_put (end_of host (plans.write_pieces k slot text) m)
unfolding write_pieces
pieces-put zero slot text gone m = piece-put slot text gone m ∙ ap was_put (sym (none-by slot text m))
pieces-put (suc k) slot text gone m =
    next-put (write_pieces k slot (drop 4096 text) (gone + 4096)) (plans.write_pieces k slot (drop 4096 text)) (λ n. pieces-put k slot (drop 4096 text) (gone + 4096) n) gone (write_answer m slot (take 4096 text))
    ∙ ap was_put (sym (more-by k slot text m))

text-put : (slot : ℕ) (text : List ℕ) (m : HostModel) → as_put (written slot text m) ≡ put_text slot text m
unfolding put_text plans.text_plan
text-put slot text m = pieces-put (whole_pieces (length text)) slot text 0 m

as-put : (t u : Then Written) (v w : Then Bool) → as_put t ≡ v → as_put u ≡ w → SameButCalls t u → SameButCalls v w
as-put t u v w e f h = record {
  answer = ap (λ (x : Then Bool). x.0) (sym e) ∙ ap is_whole h.answer ∙ ap (λ (x : Then Bool). x.0) f;
  model = ap (λ (x : Then Bool). unscheduled x.1) (sym e) ∙ h.model ∙ ap (λ (x : Then Bool). unscheduled x.1) f;
  failing = ap (λ (x : Then Bool). x.1.failing) (sym e) ∙ h.failing ∙ ap (λ (x : Then Bool). x.1.failing) f;
}

still-joined : (slot : ℕ) (text : List ℕ) (m : HostModel) → m.failing ≡ [] → SameButCalls (put_text slot text m) (put_piece slot text m)
still-joined slot text m h =
    as-put (written slot text m) (write_piece slot text 0 m) (put_text slot text m) (put_piece slot text m)
    (text-put slot text m) (piece-put slot text 0 m) (written-joined slot text m h)

-- ---- one write makes no more calls than the pieces do

lead-counted : (m : HostModel) (slot : ℕ) (from : List ℕ) (lead : Lead) (mode : Mode) (place : ℕ) → (write_lead m slot from lead mode place).1.calls ≡ m.calls
lead-counted m slot from Input mode place = refl
lead-counted m slot from Output mode place = refl
lead-counted m slot from Errors mode place = refl
lead-counted m slot from (File at) mode place = refl

one-of : {A : Type 0} (n : ℕ) (b : Bool) (x y : Then A) → x.1.calls ≡ n → y.1.calls ≡ n → (cond b x y).1.calls ≡ n
one-of n true x y h k = h
one-of n false x y h k = k

to-counted : (m : HostModel) (slot : ℕ) (from : List ℕ) (s : Slot) → (write_to m slot from s).1.calls ≡ m.calls
to-counted m slot from Closed = refl
to-counted m slot from (Open lead mode place) = one-of m.calls (is_read_only mode) _ _ refl (lead-counted m slot from lead mode place)

write-counted : (m : HostModel) (slot : ℕ) (from : List ℕ) → (write_answer m slot from).1.calls ≡ (counted m).calls
unfolding write_answer
write-counted m slot from = one-of (counted m).calls (is_failing m) _ _ refl (to-counted (counted m) slot from (slot_at m slot))

put-world : (t : Then (Result (Unit {0}) Outcome)) → (was_put t).1 ≡ t.1
put-world (Ok u, m) = refl
put-world (Err outcome, m) = refl

piece-counted : (slot : ℕ) (piece : List ℕ) (m : HostModel) → (put_piece slot piece m).1.calls ≡ (counted m).calls
piece-counted slot piece m = ap (λ (n : HostModel). n.calls) (put-world (end_of host (plans.write_piece slot piece) m) ∙ ap (λ (t : Then (Result (Unit {0}) Outcome)). t.1) (write-by slot piece m)) ∙ write-counted m slot piece

after-later : (others : Part (Unit {0})) (t : Then (Result (Unit {0}) Outcome)) → t.1.calls ≤ (end_after host (on_ok (λ u. others)) t).1.calls
after-later others (r, m) = (plan-spared (on_ok (λ u. others) r) m).later

pieces-later : (k slot : ℕ) (text : List ℕ) (m : HostModel) → (counted m).calls ≤ (end_of host (plans.write_pieces k slot text) m).1.calls
pieces-later zero slot text m =
    rw (none-by slot text m, write-by slot text m) (subst (λ n. n ≤ (write_answer m slot text).1.calls) (write-counted m slot text) (le_refl (write_answer m slot text).1.calls))
pieces-later (suc k) slot text m =
    rw (more-by k slot text m)
    (subst (λ n. n ≤ (end_after host (on_ok (λ u. plans.write_pieces k slot (drop 4096 text))) (then_carried (write_answer m slot (take 4096 text)))).1.calls) (write-counted m slot (take 4096 text))
    (after-later (plans.write_pieces k slot (drop 4096 text)) (then_carried (write_answer m slot (take 4096 text)))))

piece-first : (slot : ℕ) (text : List ℕ) (m : HostModel) → (put_piece slot text m).1.calls ≤ (put_text slot text m).1.calls
unfolding put_text plans.text_plan
piece-first slot text m =
    let whole : Then (Result (Unit {0}) Outcome) = end_of host (plans.write_pieces ((length text - 1) / 4096) slot text) m in
    subst (λ n. n ≤ (was_put whole).1.calls) (sym (piece-counted slot text m))
    (subst (λ (n : HostModel). (counted m).calls ≤ n.calls) (sym (put-world whole)) (pieces-later ((length text - 1) / 4096) slot text m))

-- ---- where none of the calls fails

pub text-joined : (slot : ℕ) (text : List ℕ) (m : HostModel) → NoneFailed m (put_text slot text m).1 → SameButCalls (put_text slot text m) (put_piece slot text m)
text-joined slot text m none =
    let pieces = text-steady slot text m in
    let one = piece-steady slot text m in
    let together = still-joined slot text (still m) refl in
    let whole = pieces.same none in
    let single = one.same (sooner m (put_piece slot text m).1 (put_text slot text m).1 (piece-first slot text m) none) in
    record {
      answer = ap (λ (t : Then Bool). t.0) whole ∙ together.answer ∙ sym (ap (λ (t : Then Bool). t.0) single);
      model = ap (λ (t : Then Bool). unscheduled t.1) whole ∙ together.model ∙ sym (ap (λ (t : Then Bool). unscheduled t.1) single);
      failing = pieces.list ∙ sym one.list;
    }

pub ruleset joined = (text-joined)
