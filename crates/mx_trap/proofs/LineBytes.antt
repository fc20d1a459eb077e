-- A line is read byte by byte.
use Rattle.std.proofs.Common.{◌≡◌, ◌≢◌, ℕ, suc, ◌+◌, ◌-◌, ◌<◌, ◌≤◌, false, arith, refl, Ok, subst}
use Rattle.mx_word.proofs.Comparisons.{other-test}
use Rattle.mx_plan.specs.Plan.{bind, end_of, IsRest}
use Rattle.mx_plan.specs.Calls.{Both, BothPlan, both, on_space}
use Rattle.mx_plan.proofs.Plans.{rest_after}
use Rattle.mx_trap.specs.Moves.{fgets, line_bytes, line_byte, line_next, line_end}
use Rattle.mx_trap.specs.declared.answer.TrapAnswer.{TrapAnswer}

-- what is left of a line in q bytes, after `count` bytes
unfoldable pub left : ℕ → ℕ → ℕ → ℕ → BothPlan TrapAnswer
left slot p q count = line_bytes (q - 1 - count) slot p count

pub left-all : (slot p q : ℕ) → q ≢ 0 → left slot p q 0 ≡ fgets slot p q
unfolding left fgets
left-all slot p q h =
    let e : q - 1 - 0 ≡ q - 1 = omega arith in
    rw (e, other-test q 0 h) refl

pub left-more : (slot p q count : ℕ) → count < q - 1 →
    left slot p q count ≡ bind (line_next (left slot p q (count + 1)) p count) (line_byte slot (p + count))
unfolding left line_bytes
left-more slot p q count h =
    let e : q - 1 - count ≡ suc (q - 1 - (count + 1)) = omega (arith, h) in
    rw e refl

pub left-last : (slot p q count : ℕ) → q - 1 ≤ count → left slot p q count ≡ on_space (line_end p count)
unfolding left line_bytes
left-last slot p q count h =
    let e : q - 1 - count ≡ 0 = omega (arith, h) in
    rw e refl

pub left-next : {Rest : Type 0} (slot p q count : ℕ) (w after old : Both Rest) (whole : BothPlan TrapAnswer) → count < q - 1 →
    IsRest both (left slot p q count) w whole old → (Ok false, after) ≡ end_of both (line_byte slot (p + count)) w →
    IsRest both (left slot p q (count + 1)) after whole old
left-next slot p q count w after old whole h r e =
    rest_after both (line_next (left slot p q (count + 1)) p count) (line_byte slot (p + count)) (Ok false) after w old whole e
    (subst (λ k. IsRest both k w whole old) (left-more slot p q count h) r)

pub ruleset lining = (left-all, left-more, left-last, left-next)
