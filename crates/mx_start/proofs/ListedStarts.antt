-- The list machine starts as the list that the machine over a window represents.
use Rattle.std.proofs.Common.{◌≡◌, ℕ, ◌+◌, ◌*◌, ◌≤◌, ◌||◌, Bool, true, false, cond, List, [], ◌∷◌, Option, None, length, arith, refl, ◌∙◌, ap}
use Rattle.std.specs.Option.{option_map}
use Rattle.std.proofs.lemmas.Bool.Decides.{nat_tests}
use Rattle.mx_mmo.specs.Image.{Image}
use Rattle.mx_ring.specs.RegisterList.{list_at_start}
use Rattle.mx_ring.specs.Stack.{listed, windowed, in_stack_area, stack_address}
use Rattle.mx_ring.specs.Window.{as_list, window_at_start}
use Rattle.mx_core.specs.Bounds.{as_list_state}
use Rattle.mx_start.specs.Start.{pool, pool_octas, with_octas, loaded, start}
use Rattle.mx_core.specs.State.{State, with_octa, is_negative, is_page_refused}
use Rattle.mx_core.proofs.Kept.Applied.{octa-listed}

below-area : (a n : ℕ) → a + 8 * (n + 1) ≤ stack_address 0 → in_stack_area a ≡ false
below-area a n f = grind (arith, nat_tests)

one-listed : (b : Bool) (x y : Option State) → y ≡ option_map as_list_state x → cond b None y ≡ option_map as_list_state (cond b None x)
one-listed true x y e = refl
one-listed false x y e = e

-- octas that end below the stack area
octas-listed : (s : State) (a : ℕ) (xs : List ℕ) → a + 8 * length xs ≤ stack_address 0 → with_octas (as_list_state s) a xs ≡ option_map as_list_state (with_octas s a xs)
unfolding with_octas
octas-listed s a [] f = refl
octas-listed s a (x ∷ xs) f =
    let next : with_octas (with_octa (as_list_state s) a x) (a + 8) xs ≡ option_map as_list_state (with_octas (with_octa s a x) (a + 8) xs) =
    ap (λ (t : State). with_octas t (a + 8) xs) (octa-listed s a x (below-area a (length xs) (omega arith))) ∙ octas-listed (with_octa s a x) (a + 8) xs (omega arith) in
    one-listed (is_negative a || is_page_refused s a) _ _ next

same-loaded : (image : Image) (count size : ℕ) → loaded image count (listed list_at_start) ≡ as_list_state (loaded image count (windowed (window_at_start size)))
unfolding as_list
same-loaded image count size = refl

pub start-listed : (image : Image) (arguments : List (List ℕ)) (size : ℕ) → pool + 8 * length (pool_octas arguments) ≤ stack_address 0 → start image arguments (listed list_at_start) ≡ option_map as_list_state (start image arguments (windowed (window_at_start size)))
unfolding start
start-listed image arguments size f =
    ap (λ (s : State). with_octas s pool (pool_octas arguments)) (same-loaded image (length arguments) size) ∙ octas-listed (loaded image (length arguments) (windowed (window_at_start size))) pool (pool_octas arguments) f
