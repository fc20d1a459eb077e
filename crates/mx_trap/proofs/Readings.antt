-- Bytes are read piece by piece.
use Rattle.std.proofs.Common.{◌≡◌, ℕ, ◌+◌, ◌-◌, ◌<◌, ◌≤◌, arith, refl, Ok, subst}
use Rattle.mx_plan.specs.Plan.{bind, end_of, IsRest}
use Rattle.mx_plan.specs.Calls.{Both, BothPlan, both}
use Rattle.mx_plan.proofs.Plans.{rest_after}
use Rattle.mx_trap.specs.Moves.{whole_pieces, fread, read_pieces, read_piece, read_next, read_last}
use Rattle.mx_trap.specs.declared.answer.TrapAnswer.{TrapAnswer}
use Rattle.mx_trap.proofs.Pieces.{more-pieces, no-more}

-- what is left to read, after `moved` bytes
unfoldable pub left : ℕ → ℕ → ℕ → ℕ → BothPlan TrapAnswer
left slot p q moved = read_pieces (whole_pieces (q - moved)) slot p q moved

pub left-all : (slot p q : ℕ) → left slot p q 0 ≡ fread slot p q
unfolding left fread
left-all slot p q = let e : q - 0 ≡ q = omega arith in rw e refl

pub left-more : (slot p q moved : ℕ) → 4096 < q - moved →
    left slot p q moved ≡ bind (read_next (left slot p q (moved + 4096)) moved q) (read_piece slot (p + moved) 4096 q)
unfolding left read_pieces
left-more slot p q moved h =
    let less : q - moved - 4096 ≡ q - (moved + 4096) = omega arith in
    rw (more-pieces (q - moved) h, less) refl

pub left-last : (slot p q moved : ℕ) → q - moved ≤ 4096 → left slot p q moved ≡ bind (read_last moved q) (read_piece slot (p + moved) (q - moved) q)
unfolding left read_pieces
left-last slot p q moved h = rw (no-more (q - moved) h) refl

pub left-next : {Rest : Type 0} (slot p q moved : ℕ) (w after old : Both Rest) (whole : BothPlan TrapAnswer) → 4096 < q - moved →
    IsRest both (left slot p q moved) w whole old → (Ok 4096, after) ≡ end_of both (read_piece slot (p + moved) 4096 q) w →
    IsRest both (left slot p q (moved + 4096)) after whole old
left-next slot p q moved w after old whole h r e =
    rest_after both (read_next (left slot p q (moved + 4096)) moved q) (read_piece slot (p + moved) 4096 q) (Ok 4096) after w old whole e
    (subst (λ k. IsRest both k w whole old) (left-more slot p q moved h) r)

pub ruleset reading = (left-all, left-more, left-last, left-next)
