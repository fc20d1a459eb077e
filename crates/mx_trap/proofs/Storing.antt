-- Bytes are stored one by one.
use Rattle.std.proofs.Common.{◌≡◌, ℕ, ◌+◌, ◌<◌, ◌≤◌, List, length, drop, get_or, arith, refl, Ok, subst}
use Rattle.std.specs.Prelude.{Result}
use Rattle.std.proofs.lemmas.List.{drop_more, drop_all}
use Rattle.mx_mem.specs.Space.{Contents}
use Rattle.mx_plan.specs.Plan.{returns, bind, end_of, IsRest}
use Rattle.mx_plan.specs.Calls.{SpacePlan, space}
use Rattle.mx_plan.proofs.Plans.{rest_after}
use Rattle.mx_trap.specs.declared.answer.TrapAnswer.{TrapAnswer}
use Rattle.mx_trap.specs.Moves.{byte_stored, bytes_stored, stored_next}

-- what is left to store, from byte number i on
unfoldable pub left : List ℕ → ℕ → ℕ → SpacePlan (Result (Unit {0}) TrapAnswer)
left bytes start i = bytes_stored (drop i bytes) (start + i)

pub left-all : (bytes : List ℕ) (start : ℕ) → left bytes start 0 ≡ bytes_stored bytes start
unfolding left
left-all bytes start = let e : start + 0 ≡ start = omega arith in rw e refl

pub left-more : (bytes : List ℕ) (start i : ℕ) → i < length bytes → left bytes start i ≡ bind (stored_next (left bytes start (i + 1))) (byte_stored (start + i) (get_or bytes i 0))
unfolding left bytes_stored
left-more bytes start i l =
    let on : start + i + 1 ≡ start + (i + 1) = omega arith in
    rw (drop_more bytes i 0 l, on) refl

pub left-last : (bytes : List ℕ) (start i : ℕ) → length bytes ≤ i → left bytes start i ≡ returns (Ok tt)
unfolding left bytes_stored
left-last bytes start i l = rw (drop_all i bytes l) refl

pub left-next : {Rest : Type 0} (bytes : List ℕ) (start i : ℕ) (s after old : Contents Rest) (whole : SpacePlan (Result (Unit {0}) TrapAnswer)) → i < length bytes →
    IsRest space (left bytes start i) s whole old → (Ok tt, after) ≡ end_of space (byte_stored (start + i) (get_or bytes i 0)) s → IsRest space (left bytes start (i + 1)) after whole old
left-next bytes start i s after old whole h r e =
    rest_after space (stored_next (left bytes start (i + 1))) (byte_stored (start + i) (get_or bytes i 0)) (Ok tt) after s old whole e
    (subst (λ k. IsRest space k s whole old) (left-more bytes start i h) r)

pub ruleset storing = (left-all, left-more, left-last, left-next)
