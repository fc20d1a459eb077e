-- The next octa other than 0, below, in and above the stack area.
use Rattle.std.proofs.Common.{◌≡◌, ◌≤◌, ◌<◌, ◌/◌, ◌%◌, ◌+◌, ◌-◌, ◌^◌, ℕ, true, false, max, Option, None, Some, arith, ap, ◌∙◌}
use Rattle.std.proofs.lemmas.Bool.Decides.{nat_tests}
use Rattle.mx_mem.specs.Memory.{octa_at, IsNextNonzero}
use Rattle.mx_ring.specs.Stack.{windowed, in_stack_area, stack_index, stack_address, stack_octa}
use Rattle.mx_core.specs.Kept.{Kept, state_of}
use Rattle.mx_core.specs.Way.Search.{IsNextBetween, IsNextIndex, first_index}
use Rattle.mx_core.specs.State.{octa}
use Rattle.mx_core.proofs.Spaces.Bytes.{octa-inside, octa-outside}

below-octa : (k : Kept) (q : ℕ) → q < stack_address 0 → octa (state_of k) q ≡ octa_at k.memory q
unfolding state_of
below-octa k q l = octa-outside (state_of k) q (outside q l)
  where
    outside : (q : ℕ) → q < stack_address 0 → in_stack_area q ≡ false
    outside q l = grind (arith, nat_tests)

above-octa : (k : Kept) (q : ℕ) → stack_address (2 ^ 20) ≤ q → octa (state_of k) q ≡ octa_at k.memory q
unfolding state_of
above-octa k q l = octa-outside (state_of k) q (outside q l)
  where
    outside : (q : ℕ) → stack_address (2 ^ 20) ≤ q → in_stack_area q ≡ false
    outside q l = grind (arith, nat_tests)

area-octa : (k : Kept) (q : ℕ) → stack_address 0 ≤ q → q < stack_address (2 ^ 20) → octa (state_of k) q ≡ stack_octa (windowed k.ring) (stack_index q)
unfolding state_of
area-octa k q l m = octa-inside (state_of k) q (inside q l m)
  where
    inside : (q : ℕ) → stack_address 0 ≤ q → q < stack_address (2 ^ 20) → in_stack_area q ≡ true
    inside q l m = grind (arith, nat_tests)

-- BELOW

pub below-some : (k : Kept) (from a x : ℕ) → IsNextNonzero (octa_at k.memory) from (Some (a, x)) → a < stack_address 0 → IsNextBetween (octa (state_of k)) from (stack_address 0) (Some (a, x))
below-some k from a x h l = (h.0, l, h.1, below-octa k a l ∙ h.2, h.3, λ q m e n. below-octa k q (omega (arith, n, l)) ∙ h.4 q m e n)

pub below-past : (k : Kept) (from a x : ℕ) → IsNextNonzero (octa_at k.memory) from (Some (a, x)) → stack_address 0 ≤ a → IsNextBetween (octa (state_of k)) from (stack_address 0) None
below-past k from a x h l = λ q m e n. below-octa k q n ∙ h.4 q m e (omega (arith, n, l))

pub below-none : (k : Kept) (from : ℕ) → IsNextNonzero (octa_at k.memory) from None → IsNextBetween (octa (state_of k)) from (stack_address 0) None
below-none k from h = λ q m e n. below-octa k q n ∙ h q m e

-- IN THE STACK AREA

index-reached : (from q : ℕ) → max from (stack_address 0) ≤ q → q % 8 ≡ 0 → first_index from ≤ stack_index q
index-reached from q l e = bound (max from (stack_address 0)) (omega arith) l
  where
    bound : (m : ℕ) → stack_address 0 ≤ m → m ≤ q → (m - stack_address 0 + 7) / 8 ≤ stack_index q
    bound m f g = omega arith

address-reached : (from i : ℕ) → first_index from ≤ i → max from (stack_address 0) ≤ stack_address i
address-reached from i l = bound (max from (stack_address 0)) (omega arith) l
  where
    bound : (m : ℕ) → stack_address 0 ≤ m → (m - stack_address 0 + 7) / 8 ≤ i → m ≤ stack_address i
    bound m f g = omega arith

least : (from q : ℕ) → max from (stack_address 0) ≤ q → stack_address 0 ≤ q
least from q l = omega arith

index-below : (q n : ℕ) → stack_address 0 ≤ q → q < stack_address n → stack_index q < n
index-below q n l m = omega arith

pub area-none : (k : Kept) (from : ℕ) → IsNextIndex (stack_octa (windowed k.ring)) (first_index from) None → IsNextBetween (octa (state_of k)) (max from (stack_address 0)) (stack_address (2 ^ 20)) None
area-none k from h = λ q m e n. area-octa k q (least from q m) n ∙ h (stack_index q) (index-reached from q m e) (index-below q (2 ^ 20) (least from q m) n)

pub area-some : (k : Kept) (from i x : ℕ) → IsNextIndex (stack_octa (windowed k.ring)) (first_index from) (Some (i, x)) →
    IsNextBetween (octa (state_of k)) (max from (stack_address 0)) (stack_address (2 ^ 20)) (Some (stack_address i, x))
area-some k from i x h =
    let low : stack_address 0 ≤ stack_address i = omega arith in
    let high : stack_address i < stack_address (2 ^ 20) = omega (arith, h.1) in
    let index : stack_index (stack_address i) ≡ i = omega arith in (
      address-reached from i h.0,
      high,
      omega arith,
      area-octa k (stack_address i) low high ∙ ap (stack_octa (windowed k.ring)) index ∙ h.2,
      h.3,
      λ q m e n. area-octa k q (least from q m) (omega (arith, n, high)) ∙ h.4 (stack_index q) (index-reached from q m e) (index-below q i (least from q m) n),
    )

-- ABOVE

pub above-is : (k : Kept) (from at : ℕ) (found : Option (ℕ × ℕ)) → at ≡ max from (stack_address (2 ^ 20)) → IsNextNonzero (octa_at k.memory) at found →
    IsNextNonzero (octa (state_of k)) (max from (stack_address (2 ^ 20))) found
above-is k from at None s h = λ q m e. above-octa k q (omega arith) ∙ h q (omega arith) e
above-is k from at (Some (a, x)) s h = (omega (arith, s, h.0), h.1, above-octa k a (omega (arith, s, h.0)) ∙ h.2, h.3, λ q m e n. above-octa k q (omega arith) ∙ h.4 q (omega arith) e n)
