-- A slot that leads to a stream of the tool serves its calls: over no host that tells its contents are they misused.
use Rattle.std.proofs.Common.{IsTrue, ◌≡◌, ◌≢◌, ℕ, List, Bool, true, false, cond, Err, refl, sym, subst, ◌∙◌, ap, take}
use Rattle.std.specs.Prelude.{Option, Result}
use Rattle.mx_word.specs.Results.{map_ok}
use Rattle.mx_host.specs.HostAnswer.{Then, read_answer, read_from, write_answer, write_to}
use Rattle.mx_host.specs.HostModel.{HostModel, tells, contents, counted, is_failing, slot_at, to_input, to_output, Rose}
use Rattle.mx_host.specs.Keeping.{Answers, ComesByFault, HasStreams, OnlyByFailure}
use Rattle.mx_host.specs.declared.faults.HostFault.{HostFault}
use Rattle.mx_host.specs.declared.faults.HostFault.TheVariants.{Misused, OutOfMemory}
use Rattle.mx_host.specs.declared.slots.Slot.{Slot}

abbrev IsServed : {A : Type 0} → Then (Result A HostFault) → Type 0
IsServed t = t.0 ≢ Err Misused

-- what fails is not misused
unless-failing : {A : Type 0} (b : Bool) (x y : Then (Result A HostFault)) → IsServed x → IsServed y → IsServed (cond b x y)
unless-failing true x y h k = h
unless-failing false x y h k = k

output-served : (m : HostModel) (slot : ℕ) (from : List ℕ) → slot_at m slot ≡ to_output → IsServed (write_answer m slot from)
unfolding write_answer
output-served m slot from e =
    unless-failing (is_failing m) _ _ (λ x. absurd (cc)) (subst (λ (s : Slot). IsServed (write_to (counted m) slot from s)) (sym e) (λ x. absurd (cc)))

input-served : (m : HostModel) (slot len : ℕ) → slot_at m slot ≡ to_input → IsServed (read_answer m slot len)
unfolding read_answer
input-served m slot len e =
    unless-failing (is_failing m) _ _ (λ x. absurd (cc)) (subst (λ (s : Slot). IsServed (read_from (counted m) slot len s)) (sym e) (λ x. absurd (cc)))

pub written-only : (a b : Option HostModel) (k m slot : ℕ) (from : List ℕ) (r : Result (Unit {0}) HostFault) → Answers a b (Err OutOfMemory) r (λ n. write_answer n slot from) →
    ComesByFault a (Err Misused) r k m → slot ≡ 259 → OnlyByFailure a (Err Misused) r k m
unfolding HasStreams
written-only a b k m slot from r answers misused is has e = misused (λ t.
    output-served (contents a) slot from (subst (λ (i : ℕ). slot_at (contents a) i ≡ to_output) (sym is) (has t).1) (sym (ap (λ (u : Then (Result (Unit {0}) HostFault)). u.0) (answers t (λ x. absurd (cc)))) ∙ e)) e

pub read-only : {A : Type 0} (a b : Option HostModel) (k m slot len : ℕ) (f : A → List ℕ) (r : Result A HostFault) →
    (IsTrue (tells a) → r ≢ Err OutOfMemory → (map_ok f r, contents b) ≡ read_answer (contents a) slot len) →
    ComesByFault a (Err Misused) r k m → slot ≡ 258 → OnlyByFailure a (Err Misused) r k m
unfolding HasStreams
read-only a b k m slot len f r answers misused is has e = misused (λ t.
    input-served (contents a) slot len (subst (λ (i : ℕ). slot_at (contents a) i ≡ to_input) (sym is) (has t).0) (sym (ap (λ (u : Then (Result (List ℕ) HostFault)). u.0) (answers t (λ x. absurd (cc)))) ∙ ap (map_ok f) e)) e
