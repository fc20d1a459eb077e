-- What a step makes of a register, of an octa of the stack area and of $255 is taken back by one note.
use Rattle.std.proofs.Common.{◌≡◌, ℕ, ◌+◌, ◌^◌, ◌≤◌, ◌<◌, true, false, cond, length, arith, refl, sym, ◌∙◌, ap, ⊎_elim}
use Rattle.std.proofs.lemmas.Bool.{cases_Bool}
use Rattle.std.proofs.lemmas.Bool.Decides.{nat_tests}
use Rattle.mx_ring.proofs.Lists.{register-grown, register-kept}
use Rattle.mx_ring.proofs.Rings.{grown-count}
use Rattle.mx_ring.proofs.TakenBack.{moved, octa-is, value-grows, trip-back, octa-taken}
use Rattle.mx_ring.proofs.Undone.{set-undone, last-undone, room-spilled, nothing-spilled, octa-back}
use Rattle.mx_registers.proofs.Values.{locals-kept, with_value-bounds}
use Rattle.mx_registers.specs.Bounds.{AreInBounds}
use Rattle.mx_ring.specs.Bounds.{IsRing}
use Rattle.mx_registers.specs.HiddenPart.{HiddenPart, with_spilled, with_room, with_octa}
use Rattle.mx_ring.specs.Notes.{TakesBack, ring_noted, ring_noted_stored, octa_after_spill, spilled_by, above_room}
use Rattle.mx_registers.specs.Registers.{Registers, value_of, is_marginal, with_value}
use Rattle.mx_ring.specs.Stack.{windowed, with_register, with_stack_octa}
use Rattle.mx_ring.specs.Window.{Window}
use Rattle.mx_ring.specs.declared.notes.RingWork.TheVariants.{Set}

-- the hidden octas, once $k has a value
abbrev set-hidden : Window → ℕ → ℕ → HiddenPart
set-hidden w k x =
    cond (is_marginal w.visible k) (with_room w.hidden (length (with_value w.visible k x).locals) w.size) w.hidden

abbrev set-window : Window → ℕ → ℕ → Window
set-window w k x = record w { hidden = set-hidden w k x; visible = with_value w.visible k x }

set-is : (w : Window) (k x : ℕ) → with_register (windowed w) k x ≡ windowed (set-window w k x)
set-is w k x = ⊎_elim
    (λ m. register-grown (windowed w) k x m ∙ ap (λ b. windowed (record w { hidden = cond b (with_room w.hidden (length (with_value w.visible k x).locals) w.size) w.hidden; visible = with_value w.visible k x })) (sym m))
    (λ m. register-kept (windowed w) k x m ∙ ap (λ b. windowed (record w { hidden = cond b (with_room w.hidden (length (with_value w.visible k x).locals) w.size) w.hidden; visible = with_value w.visible k x })) (sym m))
    (cases_Bool (is_marginal w.visible k))

-- this many of them spill, and they were in the ring
record Spills (w : Window) (k x : ℕ) : Type 0 where
  number : ℕ
  count : number ≡ spilled_by (Set k 0) w
  few : number ≤ length w.hidden.resident
  are : set-hidden w k x ≡ with_spilled w.hidden number

spills : (w : Window) (k x : ℕ) → IsRing w → Spills w k x
unfolding spilled_by
spills w k x r = ⊎_elim grown kept (cases_Bool (is_marginal w.visible k))
  where
    grown : is_marginal w.visible k ≡ true → Spills w k x
    grown m =
        let n : ℕ = above_room (length w.hidden.resident + (k + 1)) w.size in
        let below : k < w.visible.first_global = grind (arith, nat_tests) in
        let low : n ≤ length w.hidden.resident = grind (arith, nat_tests, below, r.registers.one_is_global, r.least_size) in
        record {
          number = n;
          count = sym (ap (λ b. cond b n 0) m);
          few = low;
          are = ap (λ b. cond b (with_room w.hidden (length (with_value w.visible k x).locals) w.size) w.hidden) m
              ∙ ap (λ l. with_room w.hidden l w.size) (grown-count w.visible k x m) ∙ room-spilled w.hidden (k + 1) w.size;
        }

    kept : is_marginal w.visible k ≡ false → Spills w k x
    kept m = record {
      number = 0;
      count = sym (ap (λ b. cond b (above_room (length w.hidden.resident + (k + 1)) w.size) 0) m);
      few = omega arith;
      are = ap (λ b. cond b (with_room w.hidden (length (with_value w.visible k x).locals) w.size) w.hidden) m ∙ sym (nothing-spilled w.hidden);
    }

pub spilled-few : (w : Window) (k : ℕ) → IsRing w → spilled_by (Set k 0) w ≤ length w.hidden.resident
spilled-few w k r = let s : Spills w k 0 = spills w k 0 r in omega (arith, s.count, s.few)

-- $255, which is never marginal
last-apart : (v : Registers) → AreInBounds v → is_marginal v 255 ≡ false
last-apart v b = let most : v.first_global ≤ 255 = b.one_is_global in grind (arith, nat_tests)

last-length : (v : Registers) (y : ℕ) → AreInBounds v → length (with_value v 255 y).locals ≡ length v.locals
last-length v y b = let most : v.first_global ≤ 255 = b.one_is_global in locals-kept v 255 y (λ l. absurd (omega (arith, l, most)))

pub set-steps : (w v : Window) (k x y : ℕ) → IsRing w → windowed v ≡ with_register (with_register (windowed w) k x) 255 y → TakesBack (ring_noted (Set k x) w) v w
set-steps w v k x y r e = trip-back w (set-window w k x) v k x y r (sym (set-is w k x)) (e ∙ ap (λ s. with_register s 255 y) (set-is w k x))

exchange-taken : (w : Window) (i z k x y : ℕ) → IsRing w → i < 2 ^ 20 → TakesBack (ring_noted_stored i k w) (record w { hidden = with_octa (set-hidden w k x) i z; visible = with_value (with_value w.visible k x) 255 y }) w
exchange-taken w i z k x y r f =
    let s : Spills w k x = spills w k x r in
    let v : Registers = with_value w.visible k x in
    let b : AreInBounds v = with_value-bounds w.visible k x r.registers in
    octa-taken w _ i k s.number r f s.count s.few refl
    (ap (λ h. with_octa (with_octa h i z) i (octa_after_spill w.hidden s.number i)) s.are ∙ octa-back (with_spilled w.hidden s.number) i z)
    (omega (arith, value-grows w.visible k x, last-length v y b))
    (last-undone v (length w.visible.locals) k y (value_of w.visible k) (value_of w.visible 255) b.one_is_global ∙ set-undone w.visible k x)

pub octa-steps : (w v : Window) (i z k x y : ℕ) → IsRing w → i < 2 ^ 20 → windowed v ≡ with_register (with_stack_octa (with_register (windowed w) k x) i z) 255 y → TakesBack (ring_noted_stored i k w) v w
octa-steps w v i z k x y r f e =
    let u : Window = set-window w k x in
    let o : Window = record u { hidden = with_octa u.hidden i z } in
    let made : with_stack_octa (with_register (windowed w) k x) i z ≡ windowed o = ap (λ s. with_stack_octa s i z) (set-is w k x) ∙ octa-is u i z in
    moved _ v (record w { hidden = with_octa (set-hidden w k x) i z; visible = with_value (with_value w.visible k x) 255 y }) w
    (e ∙ ap (λ s. with_register s 255 y) made ∙ register-kept (windowed o) 255 y (last-apart _ (with_value-bounds w.visible k x r.registers)))
    (exchange-taken w i z k x y r f)
