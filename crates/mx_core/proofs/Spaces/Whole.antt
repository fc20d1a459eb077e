-- The memory of a machine is a whole space.
use Rattle.std.proofs.Common.{◌≡◌, ◌<◌, ◌/◌, ◌^◌, ℕ, Bool, true, false, cond, arith, refl}
use Rattle.std.specs.Prelude.{slice_index}
use Rattle.mx_mem.specs.Memory.{Stored, octa_at, octa_on}
use Rattle.mx_ring.specs.Bounds.{IsRing}
use Rattle.mx_ring.specs.Stack.{in_stack_area, stack_index, stack_octa}
use Rattle.mx_core.specs.Kept.{Kept, state_of}
use Rattle.mx_core.specs.MachineSpace.{IsWholeSpace}
use Rattle.mx_core.specs.State.{octa}

pub octawise : (m : Stored) (q a : ℕ) → q / 8 ≡ a / 8 → octa_at m q ≡ octa_at m a
unfolding octa_on
octawise m q a e = let page : q / 4096 ≡ a / 4096 = omega (arith, e) in rw (page, e) refl

fits : (k : Kept) → ((i : ℕ) → slice_index k.ring.hidden.stack i < 2 ^ 64) → ((a : ℕ) → octa_at k.memory a < 2 ^ 64) → (a : ℕ) → octa (state_of k) a < 2 ^ 64
unfolding octa state_of stack_octa
fits k area memory a = by (in_stack_area a)
  where
    by : (b : Bool) → cond b (slice_index k.ring.hidden.stack (stack_index a)) (octa_at k.memory a) < 2 ^ 64
    by true = area (stack_index a)
    by false = memory a

pub whole : (k : Kept) → IsRing k.ring → ((i : ℕ) → slice_index k.ring.hidden.stack i < 2 ^ 64) → ((a : ℕ) → octa_at k.memory a < 2 ^ 64) → IsWholeSpace (state_of k)
unfolding state_of
whole k ring area memory = record {
  window = k.ring;
  over = refl;
  area = ring.area;
  octas_fit = fits k area memory;
  octawise = octawise k.memory;
}

pub ruleset wholes = (whole)
