-- The stack area and the rest of memory in the contents of a machine.
use Rattle.std.proofs.Common.{◌≡◌, ℕ, suc, zero, ◌+◌, ◌-◌, ◌*◌, ◌/◌, ◌%◌, ◌<◌, ◌^◌, Bool, true, false, cond, List, [], ◌∷◌, length, get_or, arith, refl, sym, subst, ◌∙◌, ap}
use Rattle.std.specs.Prelude.{map}
use Rattle.std.specs.Int.{w64, from_be_bytes}
use Rattle.std.specs.List.{range_with_len}
use Rattle.std.proofs.lemmas.Bool.Decides.{nat_tests}
use Rattle.std.proofs.lemmas.Nat.{from_be_bytes-to_be_bytes_8}
use Rattle.mx_word.specs.Octas.{byte_of, byte_in}
use Rattle.mx_word.specs.Ranges.{AreOctas}
use Rattle.mx_mem.specs.Space.{octa_of}
use Rattle.mx_ring.specs.Stack.{Stack, windowed, in_stack_area, stack_address, stack_index, stack_octa}
use Rattle.mx_ring.specs.Window.{Window}
use Rattle.mx_trap.specs.Apart.{with_segment}
use Rattle.mx_word.specs.Segments.{is_in_stack_segment}
use Rattle.mx_core.specs.Bounds.{IsMachine, as_list_state}
use Rattle.mx_core.specs.MachineSpace.{IsWholeSpace, area_in}
use Rattle.mx_core.specs.State.{State, octa}
use Rattle.mx_core.proofs.Same.Seen.{same-octa}
use Rattle.mx_run.specs.WildRuns.{HasWindow}

-- OCTAS OF BYTES

-- the same bytes make the same octa
pub same-octa-of : (f g : ℕ → ℕ) (a : ℕ) → ((q : ℕ) → q / 8 ≡ a / 8 → f q ≡ g q) → octa_of f a ≡ octa_of g a
same-octa-of f g a h =
    let s : (k : ℕ) → k < 8 → f (8 * (a / 8) + k) ≡ g (8 * (a / 8) + k) = λ k l. h (8 * (a / 8) + k) (omega (arith, l)) in
    eight (s 0 (omega arith)) (s 1 (omega arith)) (s 2 (omega arith)) (s 3 (omega arith)) (s 4 (omega arith)) (s 5 (omega arith)) (s 6 (omega arith)) (s 7 (omega arith))
  where
    eight : {b c d e f g h i j k l m n o p q : ℕ} → b ≡ j → c ≡ k → d ≡ l → e ≡ m → f ≡ n → g ≡ o → h ≡ p → i ≡ q → from_be_bytes w64 (b ∷ c ∷ d ∷ e ∷ f ∷ g ∷ h ∷ i ∷ []) ≡ from_be_bytes w64 (j ∷ k ∷ l ∷ m ∷ n ∷ o ∷ p ∷ q ∷ [])
    eight b0 b1 b2 b3 b4 b5 b6 b7 = rw (b0, b1, b2, b3, b4, b5, b6, b7) refl

-- an octa is made of its bytes
pub octa-of-bytes : (x a : ℕ) → x < 2 ^ 64 → octa_of (byte_of x) a ≡ x
octa-of-bytes x a l =
    joined (at 0 (omega arith)) (at 1 (omega arith)) (at 2 (omega arith)) (at 3 (omega arith)) (at 4 (omega arith)) (at 5 (omega arith)) (at 6 (omega arith)) (at 7 (omega arith))
  where
    at : (k : ℕ) → k < 8 → byte_of x (8 * (a / 8) + k) ≡ x / 2 ^ (8 * (7 - k)) % 256
    at k m = let e : (8 * (a / 8) + k) % 8 ≡ k = omega (arith, m) in ap (λ r. x / 2 ^ (8 * (7 - r)) % 256) e

    joined : {b c d e f g h i : ℕ} → b ≡ x / 2 ^ 56 % 256 → c ≡ x / 2 ^ 48 % 256 → d ≡ x / 2 ^ 40 % 256 → e ≡ x / 2 ^ 32 % 256 → f ≡ x / 2 ^ 24 % 256 → g ≡ x / 2 ^ 16 % 256 → h ≡ x / 2 ^ 8 % 256 → i ≡ x / 2 ^ 0 % 256 →
        from_be_bytes w64 (b ∷ c ∷ d ∷ e ∷ f ∷ g ∷ h ∷ i ∷ []) ≡ x
    joined b0 b1 b2 b3 b4 b5 b6 b7 =
        let same : x / 2 ^ 0 % 256 ≡ x % 256 = omega arith in
        rw (b0, b1, b2, b3, b4, b5, b6, b7, same) (from_be_bytes-to_be_bytes_8 x l)

-- THE STACK AREA

list-of : (xs : List ℕ) (k : ℕ) (f : ℕ → ℕ) → ((i : ℕ) → i < length xs → f (k + i) ≡ get_or xs i 0) → map f (range_with_len k (length xs)) ≡ xs
list-of [] k f h = refl
list-of (x ∷ xs) k f h =
    let first : f k ≡ x = ap f (omega arith) ∙ h 0 (omega arith) in
    let more : map f (range_with_len (k + 1) (length xs)) ≡ xs = list-of xs (k + 1) f (λ i l. ap f (omega arith) ∙ h (suc i) (omega (arith, l))) in
    ap (λ y. y ∷ map f (range_with_len (k + 1) (length xs))) first ∙ ap (λ ys. x ∷ ys) more

each-octa : (xs : List ℕ) (i : ℕ) → AreOctas xs → get_or xs i 0 < 2 ^ 64
each-octa [] i h = omega arith
each-octa (x ∷ xs) zero h = h.0
each-octa (x ∷ xs) (suc i) h = each-octa xs i h.1

in-area : (i q : ℕ) → i < 2 ^ 20 → q / 8 ≡ stack_address i / 8 → in_stack_area q ≡ true
in-area i q l e = grind (arith, nat_tests)

area-in-segment : (q : ℕ) → in_stack_area q ≡ true → is_in_stack_segment q ≡ true
area-in-segment q e = grind (arith, nat_tests)

index-of : (i q : ℕ) → q / 8 ≡ stack_address i / 8 → stack_index q ≡ i
index-of i q e = omega (arith, e)

area-octa : (s : State) (w : Window) (i q : ℕ) → s.stack ≡ windowed w → i < 2 ^ 20 → q / 8 ≡ stack_address i / 8 → octa s q ≡ get_or w.hidden.stack i 0
unfolding octa stack_octa
area-octa s w i q o l e =
    ap (λ (b : Bool). cond b (stack_octa s.stack (stack_index q)) (s.octas q)) (in-area i q l e)
    ∙ ap (λ (z : Stack). stack_octa z (stack_index q)) o ∙ ap (λ j. stack_octa (windowed w) j) (index-of i q e)

-- the bytes of a machine, with others outside Stack_Segment
abbrev pub own-bytes : State → (ℕ → ℕ) → ℕ → ℕ
own-bytes s g = with_segment (byte_in (octa s)) g

area-bytes : (s : State) (w : Window) (g : ℕ → ℕ) (i q : ℕ) → s.stack ≡ windowed w → i < 2 ^ 20 → q / 8 ≡ stack_address i / 8 → own-bytes s g q ≡ byte_of (get_or w.hidden.stack i 0) q
area-bytes s w g i q o l e =
    ap (λ (b : Bool). cond b (byte_in (octa s) q) (g q)) (area-in-segment q (in-area i q l e))
    ∙ ap (λ x. byte_of x q) (area-octa s w i q o l e)

pub same-area : (s : State) (w : Window) (g : ℕ → ℕ) → s.stack ≡ windowed w → length w.hidden.stack ≡ 2 ^ 20 → AreOctas w.hidden.stack → area_in (own-bytes s g) (2 ^ 20) ≡ w.hidden.stack
unfolding area_in
same-area s w g o n h =
    let each : (i : ℕ) → i < length w.hidden.stack → octa_of (own-bytes s g) (stack_address (0 + i)) ≡ get_or w.hidden.stack i 0 = λ i l. at i (subst (λ k. i < k) n l) in
    ap (λ k. map (λ i. octa_of (own-bytes s g) (stack_address i)) (range_with_len 0 k)) (sym n) ∙ list-of w.hidden.stack 0 (λ i. octa_of (own-bytes s g) (stack_address i)) each
  where
    at : (i : ℕ) → i < 2 ^ 20 → octa_of (own-bytes s g) (stack_address (0 + i)) ≡ get_or w.hidden.stack i 0
    at i l =
        let start : 0 + i ≡ i = omega arith in
        ap (λ j. octa_of (own-bytes s g) (stack_address j)) start
        ∙ same-octa-of (own-bytes s g) (byte_of (get_or w.hidden.stack i 0)) (stack_address i) (λ q e. area-bytes s w g i q o l e)
        ∙ octa-of-bytes (get_or w.hidden.stack i 0) (stack_address i) (each-octa w.hidden.stack i h)

-- OUTSIDE THE STACK AREA

beside-area : (a q : ℕ) → in_stack_area a ≡ false → q / 8 ≡ a / 8 → in_stack_area q ≡ false
beside-area a q h e = grind (arith, nat_tests)

same-outside : (b : Bool) (x y g : ℕ) → x ≡ y → cond b x g ≡ cond b y g
same-outside b x y g e = ap (λ z. cond b z g) e

pub beside-octa : (s : State) (g : ℕ → ℕ) (a : ℕ) → in_stack_area a ≡ false → octa_of (own-bytes (as_list_state s) g) a ≡ octa_of (own-bytes s g) a
beside-octa s g a h = same-octa-of (own-bytes (as_list_state s) g) (own-bytes s g) a (λ q e. same-outside (is_in_stack_segment q) _ _ (g q) (ap (λ x. byte_of x q) (same-octa s s.stack q (beside-area a q h e))))

-- THE MACHINE'S OCTAS

from-each : (xs : List ℕ) → ((i : ℕ) → i < length xs → get_or xs i 0 < 2 ^ 64) → AreOctas xs
from-each [] h = tt
from-each (x ∷ xs) h = (h 0 (omega arith), from-each xs (λ i l. h (suc i) (omega (arith, l))))

window-octas : (s : State) (w : Window) → IsMachine s w → ((a : ℕ) → octa s a < 2 ^ 64) → AreOctas w.hidden.stack
window-octas s w m fits =
    from-each w.hidden.stack (λ i l. subst (λ x. x < 2 ^ 64) (area-octa s w i (stack_address i) m.over (subst (λ n. i < n) m.ring.area l) refl) (fits (stack_address i)))

pub has-window : (s : State) (w : Window) → IsMachine s w → IsWholeSpace s → HasWindow s
has-window s w m h = record { window = w; machine = m; octas = window-octas s w m h.octas_fit }

pub ruleset windows = (has-window)
