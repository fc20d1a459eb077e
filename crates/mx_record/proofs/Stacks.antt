-- What a turn does to the register stack.
use Rattle.std.proofs.Common.{◌≡◌, ◌≤◌, ◌<◌, ◌⊎◌, inl, inr, ℕ, ◌+◌, ◌-◌, ◌^◌, ◌==◌, ◌&&◌, nat_lt, nat_le, cond, List, [], ◌∷◌, ◌++◌, length, take, replicate, slice_set, arith, refl, sym, subst, ◌∙◌, ap, ⊎_elim}
use Rattle.std.proofs.lemmas.Bool.{cond_both, cases_lt}
use Rattle.std.proofs.lemmas.Bool.Decides.{nat_tests}
use Rattle.std.proofs.lemmas.List.{get_or_past, get_or-replicate, get_or-take, length-append, length-replicate, length-set, length-take}
use Rattle.std.proofs.Math.ListN.{get_or-append}
use Rattle.std.proofs.Math.Seq.{get_or-append_right}
use Rattle.mx_registers.specs.Bounds.{AreInBounds}
use Rattle.mx_registers.specs.HiddenPart.{octas_of}
use Rattle.mx_registers.specs.Registers.{Registers, is_marginal, push_number, registers_below, value_of}
use Rattle.mx_ring.specs.Bounds.{IsRing}
use Rattle.mx_ring.specs.Stack.{Stack, listed, windowed, as_listed, visible, hidden_octas, hidden_count, local_count, spilled_count, register, with_register, with_visible, pushed, pushed_octas, popped, saved, unsaved, cut_to, with_global_start, stack_octa, with_stack_octa}
use Rattle.mx_ring.specs.Window.{Window, as_list}
use Rattle.mx_core.proofs.Kept.Rings.{IsRinged, set-listed, push-listed, pop-listed, save-spilled, unsave-spilled, set-spilled}
use Rattle.mx_core.proofs.Kept.Stages.{MoveFits}
use Rattle.mx_core.proofs.Same.Seen.{same-hidden}
use Rattle.mx_core.specs.Deeds.{moved}
use Rattle.mx_core.specs.Effects.{Move, stays, pushes, pops, saves, unsaves, cuts, moves_globals}
use Rattle.mx_core.specs.State.{State}
use Rattle.mx_record.specs.Following.{AreFound, hidden_by, stacked_by}
use Rattle.mx_record.specs.Pictures.{all_registers, octa_of}

-- OCTAS IN A LIST

pub hidden-at : (z : Stack) (i : ℕ) → i < hidden_count z → octa_of (all_registers z) i ≡ octa_of (hidden_octas z) i
hidden-at z i l = get_or-append (hidden_octas z) (visible z).locals 0 i l

local-at : (z : Stack) (i : ℕ) → hidden_count z ≤ i → octa_of (all_registers z) i ≡ octa_of (visible z).locals (i - hidden_count z)
local-at z i l = get_or-append_right (hidden_octas z) (visible z).locals i 0 l

-- A TURN

-- the registers that are hidden and not spilled afterwards are found by what they had
pub record Turned (y z : Stack) : Type 0 where
  pub above : (i : ℕ) → spilled_count z ≤ i → i < hidden_count z → octa_of (hidden_octas z) i ≡ hidden_by (hidden_count y) (hidden_count z) (octa_of (all_registers y) i) i

-- as many are hidden, no fewer are spilled, and those that are not spilled are the same
pub record KeptStack (y z : Stack) : Type 0 where
  pub count : hidden_count z ≡ hidden_count y
  pub spilled : spilled_count y ≤ spilled_count z
  pub above : (i : ℕ) → spilled_count z ≤ i → octa_of (hidden_octas z) i ≡ octa_of (hidden_octas y) i

old-by : (before after old i : ℕ) → after ≤ before → old ≡ hidden_by before after old i
old-by before after old i l = cond_both ((i + 1 == after) && nat_lt before after) (after - before - 1) old (λ x. old ≡ x) (λ e. absurd (grind (arith, nat_tests))) (λ _. refl)

pub kept-turned : (y z : Stack) → KeptStack y z → Turned y z
kept-turned y z k = record {
  above = λ i l m.
      k.above i l ∙ sym (hidden-at y i (omega (arith, m, k.count))) ∙ old-by (hidden_count y) (hidden_count z) (octa_of (all_registers y) i) i (omega (arith, k.count));
}

pub kept-itself : (z : Stack) → KeptStack z z
kept-itself z = record { count = refl; spilled = omega arith; above = λ i l. refl }

pub kept-through : (x y z : Stack) → KeptStack x y → KeptStack y z → KeptStack x z
kept-through x y z h k = record {
  count = k.count ∙ h.count;
  spilled = omega (arith, h.spilled, k.spilled);
  above = λ i l. k.above i l ∙ h.above i (omega (arith, l, k.spilled));
}

same-kept : (y z : Stack) → hidden_octas z ≡ hidden_octas y → spilled_count y ≤ spilled_count z → KeptStack y z
same-kept y z e l = record { count = ap length e; spilled = l; above = λ i _. ap (λ xs. octa_of xs i) e }

-- a register gets a value
pub listed-set : (z : Stack) (k x : ℕ) → hidden_octas (with_register (as_listed z) k x) ≡ hidden_octas (as_listed z)
unfolding with_register as_list
listed-set (listed r) k x = cond_both (is_marginal r.visible k) _ _ (λ (y : Stack). hidden_octas y ≡ r.hidden) (λ _. refl) (λ _. refl)
listed-set (windowed w) k x = cond_both (is_marginal w.visible k) _ _ (λ (y : Stack). hidden_octas y ≡ octas_of w.hidden) (λ _. refl) (λ _. refl)

pub register-kept : (z : Stack) (k x : ℕ) → IsRinged z → KeptStack z (with_register z k x)
register-kept z k x r =
    same-kept z (with_register z k x) (sym (same-hidden (with_register z k x)) ∙ ap hidden_octas (sym (set-listed z k x r)) ∙ listed-set z k x ∙ same-hidden z) (set-spilled z k x r)

-- $255 gets a value, where it is global
shown-kept : (z : Stack) (v : Registers) → KeptStack z (with_visible z v)
shown-kept (listed r) v = same-kept (listed r) _ refl (omega arith)
shown-kept (windowed w) v = same-kept (windowed w) _ refl (omega arith)

pub last-kept : (z : Stack) (x : ℕ) → AreInBounds (visible z) → KeptStack z (with_register z 255 x)
unfolding with_register
last-kept z x b =
    let most : (visible z).first_global ≤ 255 = b.one_is_global in
    cond_both (is_marginal (visible z) 255) _ _ (λ (y : Stack). KeptStack z y) (λ e. absurd (grind (arith, nat_tests))) (λ _. shown-kept z _)

-- other octas are in the stack area
take-length : (n : ℕ) (xs ys : List ℕ) → n ≤ length xs → n ≤ length ys → length (take n xs) ≡ length (take n ys)
take-length n xs ys l m = length-take n xs ∙ sym (length-take n ys ∙ omega (arith, l, m))

area-above : (n i : ℕ) (xs ys more : List ℕ) → n ≤ length xs → n ≤ length ys → n ≤ i → octa_of (take n xs ++ more) i ≡ octa_of (take n ys ++ more) i
area-above n i xs ys more l m h =
    let one : length (take n xs) ≡ n = length-take n xs ∙ omega (arith, l) in
    let two : length (take n ys) ≡ n = length-take n ys ∙ omega (arith, m) in
    get_or-append_right (take n xs) more i 0 (omega (arith, one, h)) ∙ ap (λ k. octa_of more (i - k)) (one ∙ sym two) ∙ sym (get_or-append_right (take n ys) more i 0 (omega (arith, two, h)))

abbrev pub with-area : Window → List ℕ → Stack
with-area w octas = windowed (record w { hidden = record w.hidden { stack = octas } })

spilled-fits : (w : Window) → IsRing w → w.hidden.spilled ≤ length w.hidden.stack
spilled-fits w r =
    let few : length (octas_of w.hidden) + length w.visible.locals ≤ 2 ^ 20 = r.has_room in
    omega (arith, r.area, r.spilled_are_hidden, few)

pub area-kept : (w : Window) (octas : List ℕ) → IsRing w → length octas ≡ length w.hidden.stack → KeptStack (windowed w) (with-area w octas)
area-kept w octas r e =
    let fits : w.hidden.spilled ≤ length w.hidden.stack = spilled-fits w r in
    let there : w.hidden.spilled ≤ length octas = omega (arith, fits, e) in
    record {
      count = length-append (take w.hidden.spilled octas) w.hidden.resident ∙ ap (λ n. n + length w.hidden.resident) (take-length w.hidden.spilled octas w.hidden.stack there fits) ∙ sym (length-append (take w.hidden.spilled w.hidden.stack) w.hidden.resident);
      spilled = omega arith;
      above = λ i l. area-above w.hidden.spilled i octas w.hidden.stack w.hidden.resident there fits l;
    }

pub octa-kept : (z : Stack) (i x : ℕ) → IsRinged z → KeptStack z (with_stack_octa z i x)
unfolding with_stack_octa
octa-kept (listed l) i x r = absurd r
octa-kept (windowed w) i x r = area-kept w (slice_set w.hidden.stack i x) r (length-set w.hidden.stack i x)

-- MOVES

-- PUSH
below-at : (locals : List ℕ) (n k : ℕ) → k < n → octa_of (take n locals ++ replicate (n - length locals) 0) k ≡ octa_of locals k
below-at locals n k l = ⊎_elim
    (λ m. get_or-append (take n locals) (replicate (n - length locals) 0) 0 k (omega (arith, l, m, length-take n locals)) ∙ get_or-take n locals k 0 l)
    (λ m. get_or-append_right (take n locals) (replicate (n - length locals) 0) k 0 (omega (arith, l, m, length-take n locals)) ∙ zero-at (n - length locals) _ ∙ sym (get_or_past locals k 0 m))
    (cases_lt k (length locals))
  where
    zero-at : (n i : ℕ) → octa_of (replicate n 0) i ≡ 0
    zero-at n i = ⊎_elim (λ l. get_or-replicate n i 0 0 l) (λ l. get_or_past (replicate n 0) i 0 (omega (arith, l, length-replicate {A = ℕ} n 0))) (cases_lt i n)

below-count : (v : Registers) (n : ℕ) → length (registers_below v n) ≡ n
below-count v n = length-append (take n v.locals) (replicate (n - length v.locals) 0) ∙ omega (arith, length-take n v.locals, length-replicate {A = ℕ} (n - length v.locals) 0)

pushed-turned : (y z : Stack) (n : ℕ) → hidden_octas z ≡ hidden_octas y ++ pushed_octas (visible y) n → Turned y z
pushed-turned y z n e = record { above = λ i _ m. ap (λ xs. octa_of xs i) e ∙ at i m }
  where
    below : List ℕ
    below = registers_below (visible y) n

    count : hidden_count z ≡ hidden_count y + n + 1
    count = ap length e ∙ length-append (hidden_octas y) (below ++ n ∷ []) ∙ omega (arith, length-append below (n ∷ []), below-count (visible y) n)

    last : (i : ℕ) → i + 1 ≡ hidden_count z → octa_of (hidden_octas y ++ (below ++ n ∷ [])) i ≡ hidden_by (hidden_count y) (hidden_count z) (octa_of (all_registers y) i) i
    last i f =
        let place : i - hidden_count y ≡ n = omega (arith, f, count) in
        let none : n - length below ≡ 0 = omega (arith, below-count (visible y) n) in
        get_or-append_right (hidden_octas y) (below ++ n ∷ []) i 0 (omega (arith, f, count))
        ∙ ap (octa_of (below ++ n ∷ [])) place
        ∙ get_or-append_right below (n ∷ []) n 0 (omega (arith, below-count (visible y) n))
        ∙ ap (octa_of (n ∷ [])) none
        ∙ cond_both ((i + 1 == hidden_count z) && nat_lt (hidden_count y) (hidden_count z)) (hidden_count z - hidden_count y - 1) (octa_of (all_registers y) i) (λ x. n ≡ x) (λ _. omega (arith, count)) (λ g. absurd (grind (arith, nat_tests, count)))

    inner : (i : ℕ) → i + 1 < hidden_count z → octa_of (hidden_octas y ++ (below ++ n ∷ [])) i ≡ octa_of (all_registers y) i
    inner i m = ⊎_elim
        (λ l. get_or-append (hidden_octas y) (below ++ n ∷ []) 0 i l ∙ sym (hidden-at y i l))
        (λ l. get_or-append_right (hidden_octas y) (below ++ n ∷ []) i 0 l
        ∙ get_or-append below (n ∷ []) 0 (i - hidden_count y) (omega (arith, m, l, count, below-count (visible y) n))
        ∙ below-at (visible y).locals n (i - hidden_count y) (omega (arith, m, l, count))
        ∙ sym (local-at y i l))
        (cases_lt i (hidden_count y))

    at : (i : ℕ) → i < hidden_count z → octa_of (hidden_octas y ++ (below ++ n ∷ [])) i ≡ hidden_by (hidden_count y) (hidden_count z) (octa_of (all_registers y) i) i
    at i m = ⊎_elim
        (λ l. inner i l ∙ cond_both ((i + 1 == hidden_count z) && nat_lt (hidden_count y) (hidden_count z)) (hidden_count z - hidden_count y - 1) (octa_of (all_registers y) i) (λ x. octa_of (all_registers y) i ≡ x) (λ g. absurd (grind (arith, nat_tests))) (λ _. refl))
        (λ l. last i (omega (arith, l, m)))
        (cases_lt (i + 1) (hidden_count z))

-- POP
popped-turned : (y z : Stack) (k : ℕ) → hidden_octas z ≡ take k (hidden_octas y) → Turned y z
popped-turned y z k e = record {
  above = λ i _ m.
      let few : hidden_count z ≤ k = omega (arith, ap length e, length-take k (hidden_octas y)) in
      let less : hidden_count z ≤ hidden_count y = omega (arith, ap length e, length-take k (hidden_octas y)) in
      ap (λ xs. octa_of xs i) e ∙ get_or-take k (hidden_octas y) i 0 (omega (arith, m, few)) ∙ sym (hidden-at y i (omega (arith, m, less))) ∙ old-by (hidden_count y) (hidden_count z) (octa_of (all_registers y) i) i less;
}

-- all of them are spilled
spilled-turned : (y z : Stack) → hidden_count z ≤ spilled_count z → Turned y z
spilled-turned y z l = record { above = λ i m n. absurd (omega (arith, l, m, n)) }

pub listed-pushed : (z : Stack) (x : ℕ) → hidden_octas (pushed (as_listed z) x) ≡ hidden_octas z ++ pushed_octas (visible z) (push_number (visible z) x)
unfolding pushed as_list
listed-pushed (listed r) x = refl
listed-pushed (windowed w) x = refl

pub listed-popped : (z : Stack) (x : ℕ) → (k : ℕ) × (hidden_octas (popped (as_listed z) x) ≡ take k (hidden_octas z))
unfolding popped as_list
listed-popped (listed r) x = (_, refl)
listed-popped (windowed w) x = (_, refl)

cut-hidden : (z : Stack) (l : ℕ) → KeptStack z (cut_to z l)
unfolding cut_to
cut-hidden z l = shown-kept z _

globals-hidden : (z : Stack) (g : ℕ) → KeptStack z (with_global_start z g)
unfolding with_global_start
globals-hidden z g = shown-kept z _

pub moved-turned : (s : State) (z : Stack) (move : Move) → s.stack ≡ z → IsRinged z → MoveFits z move → Turned z (moved s move).stack
moved-turned s z stays e r f = kept-turned z s.stack (subst (KeptStack z) (sym e) (kept-itself z))
moved-turned s z (pushes x) e r f =
    subst (λ y. Turned z (pushed y x)) (sym e) (pushed-turned z (pushed z x) (push_number (visible z) x) (sym (same-hidden (pushed z x)) ∙ ap hidden_octas (sym (push-listed z x r f)) ∙ listed-pushed z x))
moved-turned s z (pops x) e r f =
    let p = listed-popped z x in
    subst (λ y. Turned z (popped y x)) (sym e) (popped-turned z (popped z x) p.0 (sym (same-hidden (popped z x)) ∙ ap hidden_octas (sym (pop-listed z x r)) ∙ p.1))
moved-turned s z (saves x specials) e r f = subst (λ y. Turned z (saved y x specials)) (sym e) (spilled-turned z (saved z x specials) (save-spilled z x specials r f.1))
moved-turned s z (unsaves i) e r f = subst (λ y. Turned z (unsaved y i)) (sym e) (spilled-turned z (unsaved z i) (unsave-spilled z i r f.0))
moved-turned s z (cuts l) e r f = subst (λ y. Turned z (cut_to y l)) (sym e) (kept-turned z (cut_to z l) (cut-hidden z l))
moved-turned s z (moves_globals g) e r f = subst (λ y. Turned z (with_global_start y g)) (sym e) (kept-turned z (with_global_start z g) (globals-hidden z g))

-- WHAT IS FOUND

spilled-at : (w : Window) (i : ℕ) → IsRing w → i < w.hidden.spilled → octa_of (octas_of w.hidden) i ≡ octa_of w.hidden.stack i
spilled-at w i r l =
    let count : length (take w.hidden.spilled w.hidden.stack) ≡ w.hidden.spilled = length-take w.hidden.spilled w.hidden.stack ∙ omega (arith, spilled-fits w r) in
    get_or-append (take w.hidden.spilled w.hidden.stack) w.hidden.resident 0 i (omega (arith, count, l)) ∙ get_or-take w.hidden.spilled w.hidden.stack i 0 l

area-at : (w : Window) (i : ℕ) → IsRing w → i < w.hidden.spilled → octa_of (hidden_octas (windowed w)) i ≡ stack_octa (windowed w) i
unfolding stack_octa
area-at w i r l = spilled-at w i r l

value-at : (v : Registers) (k : ℕ) → AreInBounds v → k < length v.locals → octa_of v.locals k ≡ value_of v k
unfolding value_of
value-at v k b l =
    let least : length v.locals ≤ v.first_global = b.locals_below_globals in
    cond_both (nat_le v.first_global k) _ _ (λ x. octa_of v.locals k ≡ x) (λ e. absurd (grind (arith, nat_tests))) (λ _.
    cond_both (nat_lt k (length v.locals)) _ _ (λ x. octa_of v.locals k ≡ x) (λ _. refl) (λ e. absurd (grind (arith, nat_tests))))

local-value : (z : Stack) (k : ℕ) → AreInBounds (visible z) → k < local_count z → octa_of (visible z).locals k ≡ register z k
unfolding register
local-value z k b l = value-at (visible z) k b l

-- where those that are hidden and not spilled are found by what they had, all are
abbrev Above : ℕ → (ℕ → ℕ) → Stack → Type 0
Above before old z = (i : ℕ) → spilled_count z ≤ i → i < hidden_count z → octa_of (hidden_octas z) i ≡ hidden_by before (hidden_count z) (old i) i

found-by : (before : ℕ) (old : ℕ → ℕ) (w : Window) → IsRing w → Above before old (windowed w) → AreFound before old (windowed w)
found-by before old w r t i = by-hidden (cases_lt i (hidden_count (windowed w)))
  where
    z : Stack
    z = windowed w

    in-hidden : i < hidden_count z → octa_of (all_registers z) i ≡ cond (nat_lt i (spilled_count z)) (stack_octa z i) (hidden_by before (hidden_count z) (old i) i)
    in-hidden l =
        hidden-at z i l ∙ cond_both (nat_lt i (spilled_count z)) (stack_octa z i) (hidden_by before (hidden_count z) (old i) i) (λ x. octa_of (hidden_octas z) i ≡ x)
        (λ e. area-at w i r (grind (arith, nat_tests))) (λ e. t i (grind (arith, nat_tests)) l)

    in-locals : hidden_count z ≤ i → octa_of (all_registers z) i ≡ cond (nat_lt (i - hidden_count z) (local_count z)) (register z (i - hidden_count z)) 0
    in-locals l =
        local-at z i l ∙ cond_both (nat_lt (i - hidden_count z) (local_count z)) (register z (i - hidden_count z)) 0 (λ x. octa_of (visible z).locals (i - hidden_count z) ≡ x)
        (λ e. local-value z (i - hidden_count z) r.registers (grind (arith, nat_tests))) (λ e. get_or_past (visible z).locals (i - hidden_count z) 0 (grind (arith, nat_tests)))

    by-hidden : (i < hidden_count z) ⊎ (hidden_count z ≤ i) → octa_of (all_registers z) i ≡ stacked_by before (old i) z i
    by-hidden (inl l) = cond_both (nat_lt i (hidden_count z)) _ _ (λ x. octa_of (all_registers z) i ≡ x) (λ _. in-hidden l) (λ e. absurd (grind (arith, nat_tests)))
    by-hidden (inr l) = cond_both (nat_lt i (hidden_count z)) _ _ (λ x. octa_of (all_registers z) i ≡ x) (λ e. absurd (grind (arith, nat_tests))) (λ _. in-locals l)

pub all-found : (y : Stack) (w : Window) → IsRing w → Turned y (windowed w) → AreFound (hidden_count y) (octa_of (all_registers y)) (windowed w)
all-found y w r t = found-by (hidden_count y) (octa_of (all_registers y)) w r t.above

-- and so they are where none is hidden, whatever was there
pub none-found : (z : Stack) (w : Window) (old : ℕ → ℕ) → z ≡ windowed w → IsRing w → hidden_count z ≡ 0 → AreFound 0 old z
none-found z w old e r h =
    subst (AreFound 0 old) (sym e) (found-by 0 old w r (λ i _ l. absurd (let none : hidden_count (windowed w) ≡ 0 = sym (ap hidden_count e) ∙ h in omega (arith, l, none))))
