-- The contents of a machine tell its state.
use Rattle.std.proofs.Common.{◌≡◌, ◌≤◌, ◌<◌, ◌^◌, ℕ, Bool, true, false, [], length, cond, refl, arith, ap, sym, ◌∙◌}
use Rattle.std.specs.Prelude.{slice_index}
use Rattle.std.proofs.lemmas.Bool.Decides.{nat_tests}
use Rattle.std.proofs.lemmas.List.FromFn.{fill_by_all}
use Rattle.mx_word.specs.Octas.{byte_in}
use Rattle.mx_mem.specs.Space.{octa_of}
use Rattle.mx_ring.specs.Stack.{windowed, in_stack_area, stack_index, stack_address, stack_octa}
use Rattle.mx_ring.specs.Window.{Window}
use Rattle.mx_core.specs.MachineSpace.{machine_contents, state_in, area_in, with_area, IsWholeSpace}
use Rattle.mx_core.specs.State.{State, octa}
use Rattle.mx_core.proofs.Spaces.Bytes.{Octawise, same-area, same-index, octa-of-bytes, octa-inside, octa-outside}

octawise-of : (s : State) → Octawise s.octas → Octawise (octa s)
unfolding octa
octawise-of s same q a e = rw (same-area q a e, same-index q a e, same q a e) refl

in-area : (k : ℕ) → k < 2 ^ 20 → in_stack_area (stack_address k) ≡ true
in-area k l = grind (arith, nat_tests)

index-of : (k : ℕ) → stack_index (stack_address k) ≡ k
index-of k = omega arith

window-octa : (w : Window) (k : ℕ) → stack_octa (windowed w) k ≡ slice_index w.hidden.stack k
unfolding stack_octa
window-octa w k = refl

area-octa : (s : State) → IsWholeSpace s → (w : Window) → s.stack ≡ windowed w → (k : ℕ) → k < 2 ^ 20 → slice_index w.hidden.stack k ≡ octa_of (byte_in (octa s)) (stack_address k)
area-octa s h w over k l =
    sym (window-octa w k) ∙ ap (stack_octa (windowed w)) (sym (index-of k)) ∙ ap (λ t. stack_octa t (stack_index (stack_address k))) (sym over)
    ∙ sym (octa-inside s (stack_address k) (in-area k l))
    ∙ sym (octa-of-bytes (octa s) (octawise-of s h.octawise) (stack_address k) (h.octas_fit (stack_address k)))

area-told : (s : State) → IsWholeSpace s → (w : Window) → s.stack ≡ windowed w → (n : ℕ) → n ≤ 2 ^ 20 → length w.hidden.stack ≡ n → w.hidden.stack ≡ area_in (byte_in (octa s)) n
unfolding area_in
area-told s h w over n few long = fill_by_all (λ i. octa_of (byte_in (octa s)) (stack_address i)) w.hidden.stack n 0 long (λ k l. area-octa s h w over k (omega (arith, l, few)))

stack-told : (s : State) → IsWholeSpace s → (w : Window) → s.stack ≡ windowed w → (n : ℕ) → n ≤ 2 ^ 20 → length w.hidden.stack ≡ n → with_area (with_area s.stack []) (area_in (byte_in (octa s)) n) ≡ s.stack
stack-told s h w over n few long =
    ap (λ t. with_area (with_area t []) (area_in (byte_in (octa s)) n)) over
    ∙ ap (λ octas. windowed (record w { hidden = record w.hidden { stack = octas } })) (sym (area-told s h w over n few long))
    ∙ sym over

octa-told : (s : State) → IsWholeSpace s → (a : ℕ) → cond (in_stack_area a) (cond (in_stack_area a) (s.octas a) 0) (octa_of (byte_in (octa s)) a) ≡ s.octas a
octa-told s h a = by (in_stack_area a) refl
  where
    by : (b : Bool) → in_stack_area a ≡ b → cond (in_stack_area a) (cond (in_stack_area a) (s.octas a) 0) (octa_of (byte_in (octa s)) a) ≡ s.octas a
    by true e = ap (λ c. cond c (cond c (s.octas a) 0) (octa_of (byte_in (octa s)) a)) e
    by false e = ap (λ c. cond c (cond c (s.octas a) 0) (octa_of (byte_in (octa s)) a)) e ∙ octa-of-bytes (octa s) (octawise-of s h.octawise) a (h.octas_fit a) ∙ octa-outside s a e

told-by : (s : State) → IsWholeSpace s → (w : Window) → s.stack ≡ windowed w → (n : ℕ) → n ≤ 2 ^ 20 → length w.hidden.stack ≡ n → state_in (machine_contents s) n ≡ s
unfolding state_in
told-by s h w over n few long = λ i. record s { octas = λ a. octa-told s h a i; stack = stack-told s h w over n few long i }

pub told : (s : State) → IsWholeSpace s → state_in (machine_contents s) (2 ^ 20) ≡ s
told s h = told-by s h h.window h.over (2 ^ 20) (omega arith) h.area
