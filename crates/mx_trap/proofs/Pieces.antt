-- Bytes are written piece by piece.
use Rattle.std.proofs.Common.{◌≡◌, ℕ, suc, ◌+◌, ◌-◌, ◌/◌, ◌<◌, ◌≤◌, drop, arith, refl, sym, ◌∙◌, ap, subst}
use Rattle.mx_host.specs.HostModel.{HostModel}
use Rattle.mx_plan.specs.Plan.{bind, IsRest, end_of}
use Rattle.mx_plan.specs.Calls.{HostPlan, host}
use Rattle.mx_plan.proofs.Plans.{rest_after}
use Rattle.mx_trap.specs.Requests.{bytes_from}
use Rattle.mx_trap.specs.Moves.{whole_pieces, written, write_pieces, write_piece, write_next}
use Rattle.mx_trap.specs.declared.writes.Written.{Written}
use Rattle.mx_trap.specs.declared.writes.Written.TheVariants.{Whole}
use Rattle.mx_trap.proofs.Buffers.{bytes-length, bytes-front, bytes-after}

-- one piece more than of what follows the first
pub more-pieces : (n : ℕ) → 4096 < n → (n - 1) / 4096 ≡ suc ((n - 4096 - 1) / 4096)
more-pieces n h = grind arith

pub no-more : (n : ℕ) → n ≤ 4096 → (n - 1) / 4096 ≡ 0
no-more n h = grind arith

-- what is left to write, of `size` bytes at `start`, after `moved`
unfoldable pub left : ℕ → (ℕ → ℕ) → ℕ → ℕ → ℕ → HostPlan Written
left slot f start size moved = write_pieces (whole_pieces (size - moved)) slot (bytes_from f (start + moved) (size - moved)) moved

pub left-all : (slot : ℕ) (f : ℕ → ℕ) (start size : ℕ) → left slot f start size 0 ≡ written slot (bytes_from f start size)
unfolding left written
left-all slot f start size =
    let a : start + 0 ≡ start = omega arith in
    let b : size - 0 ≡ size = omega arith in
    rw (a, b, bytes-length f start size) refl

pub left-more : (slot : ℕ) (f : ℕ → ℕ) (start size moved : ℕ) → 4096 < size - moved →
    left slot f start size moved ≡ bind (write_next (left slot f start size (moved + 4096))) (write_piece slot (bytes_from f (start + moved) 4096) moved)
unfolding left write_pieces
left-more slot f start size moved h =
    let n = size - moved in
    let k = size - (moved + 4096) in
    let all : 4096 + k ≡ n = omega (arith, h) in
    let less : n - 4096 ≡ k = omega (arith, h) in
    let on : start + moved + 4096 ≡ start + (moved + 4096) = omega arith in
    let front : drop 4096 (bytes_from f (start + moved) n) ≡ bytes_from f (start + (moved + 4096)) k =
    ap (λ x. drop 4096 (bytes_from f (start + moved) x)) (sym all) ∙ bytes-after f (start + moved) k 4096 ∙ ap (λ x. bytes_from f x k) on in
    rw (more-pieces n h, bytes-front f (start + moved) n 4096 (omega (arith, h)), front, less) refl

pub left-last : (slot : ℕ) (f : ℕ → ℕ) (start size moved : ℕ) → size - moved ≤ 4096 →
    left slot f start size moved ≡ write_piece slot (bytes_from f (start + moved) (size - moved)) moved
unfolding left write_pieces
left-last slot f start size moved h = rw (no-more (size - moved) h) refl

pub left-next : (slot : ℕ) (f : ℕ → ℕ) (start size moved : ℕ) (m after old : HostModel) (whole : HostPlan Written) → 4096 < size - moved →
    IsRest host (left slot f start size moved) m whole old → (Whole, after) ≡ end_of host (write_piece slot (bytes_from f (start + moved) 4096) moved) m →
    IsRest host (left slot f start size (moved + 4096)) after whole old
left-next slot f start size moved m after old whole h r e =
    rest_after host (write_next (left slot f start size (moved + 4096))) (write_piece slot (bytes_from f (start + moved) 4096) moved) Whole after m old whole e
    (subst (λ p. IsRest host p m whole old) (left-more slot f start size moved h) r)

pub ruleset writing = (left-all, left-more, left-last, left-next)
