-- The octas of the arguments are in the pool at the start, and all else is the image's.
use Rattle.std.proofs.Common.{◌≡◌, ◌≢◌, ◌≤◌, ◌<◌, ℕ, suc, ◌+◌, ◌-◌, ◌*◌, ◌/◌, ◌%◌, ◌||◌, Bool, true, false, cond, nat_lt, nat_le, List, [], ◌∷◌, length, get_or, None, Some, arith, refl, sym, ap, ◌∙◌}
use Rattle.std.specs.Prelude.{◌&&◌, ◌==◌}
use Rattle.std.proofs.lemmas.Bool.Decides.{nat_tests}
use Rattle.mx_mem.specs.Memory.{stored_at}
use Rattle.mx_mmo.specs.Image.{Image}
use Rattle.mx_ring.specs.Stack.{Stack, stack_address, in_stack_area}
use Rattle.mx_start.specs.MemoryAtStart.{octa_among}
use Rattle.mx_start.specs.Start.{pool, pool_octas, with_octas, loaded, start}
use Rattle.mx_core.specs.State.{State, with_octa, is_negative, is_page_refused}

-- an octa that is stored below the stack area
octa-stored : (s : State) (a x : ℕ) → in_stack_area a ≡ false → (with_octa s a x).octas ≡ stored_at s.octas a x
unfolding with_octa
octa-stored s a x e = rw e refl

below : (a : ℕ) → a < stack_address 0 → in_stack_area a ≡ false
below a h = let no : nat_le (stack_address 0) a ≡ false = grind (arith, nat_tests) in rw no refl

-- by where the address lies: below the octa, in it, or above
among-by : (f : ℕ → ℕ) (a x : ℕ) (xs : List ℕ) (q : ℕ) (low high : Bool) → a % 8 ≡ 0 → nat_le a q ≡ low → nat_le (a + 8) q ≡ high →
    octa_among (stored_at f a x) (a + 8) xs q ≡ octa_among f a (x ∷ xs) q
among-by f a x xs q false true even l h =
    let above : a + 8 ≤ q = grind (arith, nat_tests) in
    let under : q < a = grind (arith, nat_tests) in
    absurd (omega arith)
among-by f a x xs q false false even l h =
    let under : q < a = grind (arith, nat_tests) in
    let other : q / 8 ≢ a / 8 = omega (arith, even, under) in
    let apart : (q / 8 == a / 8) ≡ false = grind (arith, nat_tests) in
    rw (l, h, apart) refl
among-by f a x xs q true false even l h =
    let from : a ≤ q = grind (arith, nat_tests) in
    let under : q < a + 8 = grind (arith, nat_tests) in
    let equal : q / 8 ≡ a / 8 = omega (arith, even, from, under) in
    let same : (q / 8 == a / 8) ≡ true = grind (arith, nat_tests) in
    let first : (q - a) / 8 ≡ 0 = omega (arith, from, under) in
    let within : nat_lt q (a + 8 * length (x ∷ xs)) ≡ true = grind (arith, nat_tests) in
    rw (l, h, same, within, first) refl
among-by f a x xs q true true even l h =
    let above : a + 8 ≤ q = grind (arith, nat_tests) in
    let other : q / 8 ≢ a / 8 = omega (arith, even, above) in
    let apart : (q / 8 == a / 8) ≡ false = grind (arith, nat_tests) in
    let end : a + 8 + 8 * length xs ≡ a + 8 * length (x ∷ xs) = omega arith in
    let next : (q - a) / 8 ≡ suc ((q - (a + 8)) / 8) = omega (arith, above) in
    rw (l, h, apart, end, next) refl

-- an octa that is stored, and those after it
stored-next : (a x : ℕ) (xs : List ℕ) (s t : State) (q : ℕ) (b : Bool) → a % 8 ≡ 0 → a < stack_address 0 →
    (with_octas (with_octa s a x) (a + 8) xs ≡ Some t → t.octas q ≡ octa_among (with_octa s a x).octas (a + 8) xs q) →
    cond b None (with_octas (with_octa s a x) (a + 8) xs) ≡ Some t → t.octas q ≡ octa_among s.octas a (x ∷ xs) q
stored-next a x xs s t q true even low more g = absurd (cc)
stored-next a x xs s t q false even low more g =
    more g
    ∙ ap (λ (f : ℕ → ℕ). octa_among f (a + 8) xs q) (octa-stored s a x (below a low))
    ∙ among-by s.octas a x xs q (nat_le a q) (nat_le (a + 8) q) even refl refl

octas-among : (xs : List ℕ) (a : ℕ) (s t : State) (q : ℕ) → a % 8 ≡ 0 → a + 8 * length xs ≤ stack_address 0 → with_octas s a xs ≡ Some t → t.octas q ≡ octa_among s.octas a xs q
unfolding with_octas
octas-among [] a s t q even far e =
    let same : s ≡ t = cc in
    let none : (nat_le a q && nat_lt q (a + 0)) ≡ false = empty (nat_le a q) (nat_lt q (a + 0)) refl refl in
    ap (λ (u : State). u.octas q) (sym same) ∙ sym (ap (λ b. cond b (get_or {A = ℕ} [] ((q - a) / 8) 0) (s.octas q)) none)
  where
    empty : (b c : Bool) → nat_le a q ≡ b → nat_lt q (a + 0) ≡ c → (b && c) ≡ false
    empty false c l h = refl
    empty true false l h = refl
    empty true true l h = absurd (let from : a ≤ q = grind (arith, nat_tests) in let under : q < a + 0 = grind (arith, nat_tests) in omega arith)
octas-among (x ∷ xs) a s t q even far e =
    let next : (a + 8) % 8 ≡ 0 = omega (arith, even) in
    let farther : a + 8 + 8 * length xs ≤ stack_address 0 = omega (arith, far) in
    stored-next a x xs s t q (is_negative a || is_page_refused s a) even (omega (arith, far)) (λ g. octas-among xs (a + 8) (with_octa s a x) t q next farther g) e

pub start-octas : (image : Image) (arguments : List (List ℕ)) (stack : Stack) (s : State) (q : ℕ) → start image arguments stack ≡ Some s → pool + 8 * length (pool_octas arguments) ≤ stack_address 0 →
    s.octas q ≡ octa_among image.memory pool (pool_octas arguments) q
unfolding start
start-octas image arguments stack s q e far = octas-among (pool_octas arguments) pool (loaded image (length arguments) stack) s q refl far e

pub ruleset starting = (start-octas)
