-- What a deed does to the register stack is taken back by its note.
use Rattle.std.proofs.Common.{◌≡◌, ℕ, ◌/◌, ◌^◌, ◌≤◌, ◌<◌, true, false, cond, Option, None, Some, arith, refl, sym, subst, ◌∙◌, ap, ⊎_elim, ◌⊎◌, inl, inr}
use Rattle.std.proofs.lemmas.Bool.{cases_Bool}
use Rattle.std.proofs.lemmas.Bool.Decides.{nat_tests}
use Rattle.std.proofs.lemmas.List.{set-get_or}
use Rattle.mx_mem.specs.Parts.{with_part}
use Rattle.mx_ring.proofs.Lists.{register-kept}
use Rattle.mx_ring.proofs.StepsBack.{set-steps, octa-steps}
use Rattle.mx_ring.proofs.TakenBack.{push-back, pop-back, save-back, unsave-back, work-back}
use Rattle.mx_ring.proofs.Undone.{same-given}
use Rattle.mx_registers.proofs.Values.{with_value-bounds}
use Rattle.mx_registers.specs.Bounds.{AreInBounds}
use Rattle.mx_ring.specs.Bounds.{IsRing}
use Rattle.mx_ring.specs.Notes.{TakesBack, WorkNeeds, work_answer, worked, ring_noted, ring_noted_stored, registers_noted, spilled_by, staying, octa_noted}
use Rattle.mx_registers.specs.Registers.{Registers, is_marginal, value_of, with_value}
use Rattle.mx_ring.specs.Stack.{Stack, listed, windowed, visible, with_visible, with_register, stack_octa, with_stack_octa, in_stack_area, stack_index, stack_address, pushed, popped, saved, unsaved, cut_to, with_global_start}
use Rattle.mx_ring.specs.Window.{Window}
use Rattle.mx_ring.specs.declared.notes.RingWork.TheVariants as work
use Rattle.mx_core.specs.Deeds.{with_result, with_store, moved, tripped, trip_specials, applied}
use Rattle.mx_core.specs.Effects.{Effect, Store, Tripping, Move, stays, pushes, pops, saves, unsaves, cuts, moves_globals}
use Rattle.mx_code.specs.declared.instruction.Instruction.{Instruction}
use Rattle.mx_core.specs.State.{State, octa, special_register}
use Rattle.mx_code.specs.SpecialRegisters.{rJ}
use Rattle.mx_core.specs.Undoing.{MayStore, value_noted, move_noted}
use Rattle.mx_core.proofs.Kept.Applied.{Shape, plain, moving, before, before-stack, specials-stack}
use Rattle.mx_core.proofs.Results.Locals.{shown-set}
use Rattle.mx_core.proofs.Kept.Stages.{MoveFits, octa-in-stack, octa-on-page}
use Rattle.mx_core.proofs.Undone.Memory.{same-area}

-- A REGISTER

-- some value for $k was given to a stack
pub record IsGiven (z : Stack) (k : ℕ) (y : Stack) : Type 0 where
  pub value : ℕ
  pub is : y ≡ with_register z k value

shown-same : (z : Stack) → with_visible z (visible z) ≡ z
shown-same (listed r) = refl
shown-same (windowed w) = refl

-- a register gets what it has
pub own-register : (z : Stack) (k : ℕ) → is_marginal (visible z) k ≡ false → with_register z k (value_of (visible z) k) ≡ z
own-register z k apart =
    let v : Registers = visible z in
    let own : with_value v k (value_of v k) ≡ v = sym (ap (λ c. cond c v (with_value v k (value_of v k))) apart) ∙ same-given v k in
    register-kept z k (value_of v k) apart ∙ ap (with_visible z) own ∙ shown-same z

-- $255 gets what it has
last-own : (z : Stack) → AreInBounds (visible z) → with_register z 255 (value_of (visible z) 255) ≡ z
last-own z b =
    let v : Registers = visible z in
    let most : v.first_global ≤ 255 = b.one_is_global in
    let apart : is_marginal v 255 ≡ false = grind (arith, nat_tests) in
    own-register z 255 apart

pub given-last : (z y : Stack) → AreInBounds (visible z) → y ≡ z → IsGiven z 255 y
given-last z y b e = record { value = value_of (visible z) 255; is = e ∙ sym (last-own z b) }

-- AN OCTA OF THE STACK AREA

area-shown : (z : Stack) (i x : ℕ) → visible (with_stack_octa z i x) ≡ visible z
unfolding with_stack_octa
area-shown (listed r) i x = refl
area-shown (windowed w) i x = refl

own-octa : (z : Stack) (i : ℕ) → with_stack_octa z i (stack_octa z i) ≡ z
unfolding with_stack_octa stack_octa
own-octa (listed r) i = refl
own-octa (windowed w) i = ap (λ xs. windowed (record w { hidden = record w.hidden { stack = xs } })) (set-get_or w.hidden.stack i 0)

-- what a store makes of the register stack: nothing, or it puts an octa into the stack area
data Stores (y z : Stack) : Option Store → Type 0 where
  nothing : z ≡ y → Stores y z None
  outside : {store : Store} → in_stack_area store.at ≡ false → z ≡ y → Stores y z (Some store)
  inside : {store : Store} (x : ℕ) → in_stack_area store.at ≡ true → z ≡ with_stack_octa y (stack_index store.at) x → Stores y z (Some store)

store-stack : (s : State) (store : Option Store) → Stores s.stack (with_store s store).stack store
store-stack s None = nothing refl
store-stack s (Some store) =
    let x : ℕ = with_part store.part (octa s store.at) store.at store.value in
    ⊎_elim (λ e. inside x e (ap (λ (u : State). u.stack) (octa-in-stack s store.at x e))) (λ e. outside e (ap (λ (u : State). u.stack) (octa-on-page s store.at x e))) (cases_Bool (in_stack_area store.at))

-- an octa of the area is put at an index, maybe the one that was there
record IsPut (y : Stack) (i : ℕ) (z : Stack) : Type 0 where
  octa : ℕ
  is : z ≡ with_stack_octa y i octa

put-own : (y z : Stack) (i : ℕ) → z ≡ y → IsPut y i z
put-own y z i e = record { octa = stack_octa y i; is = e ∙ sym (own-octa y i) }

-- the octa that was noted, and no other one, is overwritten
data Noted (k : ℕ) (w : Window) (y z : Stack) : Option ℕ → Type 0 where
  unnoted : z ≡ y → Noted k w y z None
  apart : {a : ℕ} → in_stack_area a ≡ false → z ≡ y → Noted k w y z (Some a)
  within : {a : ℕ} → in_stack_area a ≡ true → IsPut y (stack_index a) z → Noted k w y z (Some a)

by-area : (k a : ℕ) (w : Window) (y z : Stack) → (in_stack_area a ≡ true → IsPut y (stack_index a) z) → (in_stack_area a ≡ false → z ≡ y) → Noted k w y z (Some a)
by-area k a w y z f g = ⊎_elim (λ e. within e (f e)) (λ e. apart e (g e)) (cases_Bool (in_stack_area a))

same-index : (a b : ℕ) → b / 8 ≡ a / 8 → in_stack_area a ≡ true → stack_index b ≡ stack_index a
same-index a b e f = grind (arith, nat_tests)

noted-store : (k : ℕ) (w : Window) (y z : Stack) (place : Option ℕ) (store : Option Store) → MayStore place store → Stores y z store → Noted k w y z place
noted-store k w y z None None m (nothing e) = unnoted e
noted-store k w y z None (Some store) m s = absurd m
noted-store k w y z (Some a) None m (nothing e) = by-area k a w y z (λ _. put-own y z (stack_index a) e) (λ _. e)
noted-store k w y z (Some a) (Some store) m (outside f e) = by-area k a w y z (λ g. absurd (let same = same-area a store.at m.1 in cc)) (λ _. e)
noted-store k w y z (Some a) (Some store) m (inside x f e) =
    by-area k a w y z (λ g. record { octa = x; is = e ∙ ap (λ i. with_stack_octa y i x) (same-index a store.at m.1 g) }) (λ g. absurd (let same = same-area a store.at m.1 in cc))

-- A TRIP

trip-stack : (s : State) (i : Instruction) (t : Option Tripping) → AreInBounds (visible s.stack) → IsGiven s.stack 255 (tripped s i t).stack
trip-stack s i None b = given-last s.stack s.stack b refl
trip-stack s i (Some t) b = record {
  value = special_register s rJ;
  is = ap (λ z. with_register z 255 (special_register s rJ)) (specials-stack s (trip_specials s i t));
}

-- ALL OF IT, WHERE THE STACK IS NOT MOVED

index-below : (a : ℕ) → in_stack_area a ≡ true → stack_index a < 2 ^ 20
index-below a e = grind (arith, nat_tests)

-- the note of a value for $k does not depend on the value
set-noted : (w v : Window) (k x y : ℕ) → IsRing w → windowed v ≡ with_register (with_register (windowed w) k x) 255 y → TakesBack (ring_noted (work.Set k 0) w) v w
unfolding ring_noted registers_noted spilled_by staying octa_noted
set-noted w v k x y r e = set-steps w v k x y r e

value-taken : (w v : Window) (k : ℕ) (y z u : Stack) (place : Option ℕ) → IsRing w → IsGiven (windowed w) k y → Noted k w y z place → IsGiven z 255 u → windowed v ≡ u → TakesBack (value_noted k place w) v w
value-taken w v k y z u None r g (unnoted e) t f =
    set-noted w v k g.value t.value r (f ∙ t.is ∙ ap (λ x. with_register x 255 t.value) (e ∙ g.is))
value-taken w v k y z u (Some a) r g (apart n e) t f =
    subst (λ b. TakesBack (cond b (ring_noted_stored (stack_index a) k w) (ring_noted (work.Set k 0) w)) v w) (sym n)
    (set-noted w v k g.value t.value r (f ∙ t.is ∙ ap (λ x. with_register x 255 t.value) (e ∙ g.is)))
value-taken w v k y z u (Some a) r g (within n e) t f =
    subst (λ b. TakesBack (cond b (ring_noted_stored (stack_index a) k w) (ring_noted (work.Set k 0) w)) v w) (sym n)
    (octa-steps w v (stack_index a) e.octa k g.value t.value r (index-below a n)
    (f ∙ t.is ∙ ap (λ x. with_register x 255 t.value) (e.is ∙ ap (λ x. with_stack_octa x (stack_index a) e.octa) g.is)))

stores-shown : (y z : Stack) (store : Option Store) → Stores y z store → visible z ≡ visible y
stores-shown y z None (nothing e) = ap visible e
stores-shown y z (Some store) (outside f e) = ap visible e
stores-shown y z (Some store) (inside x f e) = ap visible e ∙ area-shown y (stack_index store.at) x

pub stays-back : (w v : Window) (here : State) (i : Instruction) (k j : ℕ) (e : Effect) (place : Option ℕ) → IsRing w → IsGiven (windowed w) k (with_result here j e.result).stack →
    MayStore place e.store → e.move ≡ stays → windowed v ≡ (applied here i j e).stack → TakesBack (move_noted e.move k place w) v w
unfolding applied move_noted
stays-back w v here i k j e place r g m p f =
    let given' : State = with_result here j e.result in
    let stored : State = with_store given' e.store in
    let b : State = before here j e in
    let s : Stores given'.stack stored.stack e.store = store-stack given' e.store in
    let shown : visible b.stack ≡ with_value w.visible k g.value =
    ap visible (specials-stack stored e.special) ∙ stores-shown given'.stack stored.stack e.store s ∙ ap visible g.is ∙ shown-set (windowed w) k g.value in
    let bounds : AreInBounds (visible b.stack) = subst AreInBounds (sym shown) (with_value-bounds w.visible k g.value r.registers) in
    let n : Noted k w given'.stack b.stack place = subst (λ z. Noted k w given'.stack z place) (sym (specials-stack stored e.special)) (noted-store k w given'.stack stored.stack place e.store m s) in
    subst (λ (move : Move). TakesBack (move_noted move k place w) v w) (sym p)
    (value-taken w v k given'.stack b.stack _ place r g n (trip-stack b i e.trip bounds)
    (f ∙ ap (λ (move : Move). (tripped (moved b move) i e.trip).stack) p))

-- MOVES

at-index : (i : ℕ) → stack_index (stack_address i) ≡ i
at-index i = omega arith

moved-back : (w v : Window) (s : State) (k : ℕ) (place : Option ℕ) (move : Move) → IsRing w → s.stack ≡ windowed w → MoveFits (windowed w) move → (move ≡ stays → ⊥) → windowed v ≡ (moved s move).stack → TakesBack (move_noted move k place w) v w
unfolding move_noted WorkNeeds work_answer worked
moved-back w v s k place stays r e m n f = absurd (n refl)
moved-back w v s k place (pushes x) r e m n f = push-back w v x r m (f ∙ ap (λ z. pushed z x) e)
moved-back w v s k place (pops x) r e m n f = pop-back w v x r m (f ∙ ap (λ z. popped z x) e)
moved-back w v s k place (saves x specials) r e m n f = save-back w v x specials r m.1 (f ∙ ap (λ z. saved z x specials) e)
moved-back w v s k place (unsaves i) r e m n f = unsave-back w v (stack_address i) r (f ∙ ap (λ z. unsaved z i) e ∙ ap (unsaved (windowed w)) (sym (at-index i)))
moved-back w v s k place (cuts l) r e m n f = work-back w v (work.CutLocals l) r m tt (f ∙ ap (λ z. cut_to z l) e)
moved-back w v s k place (moves_globals g) r e m n f = work-back w v (work.SetGlobalStart g) r (m.1, m.0) tt (f ∙ ap (λ z. with_global_start z g) e)

untripped : (s : State) (i : Instruction) (t : Option Tripping) → t ≡ None → (tripped s i t).stack ≡ s.stack
untripped s i None e = refl
untripped s i (Some t) e = absurd (cc)

moving-back : (w v : Window) (here : State) (i : Instruction) (k j : ℕ) (e : Effect) (place : Option ℕ) → IsRing w → here.stack ≡ windowed w → Shape here.stack e → (e.move ≡ stays → ⊥) → windowed v ≡ (applied here i j e).stack → TakesBack (move_noted e.move k place w) v w
unfolding applied
moving-back w v here i k j e place r h (plain m) n f = absurd (n m)
moving-back w v here i k j e place r h (moving p q t m) n f =
    let b : State = before here j e in
    moved-back w v b k place e.move r (before-stack here j e p q ∙ h) (subst (λ z. MoveFits z e.move) h m) n (f ∙ untripped (moved b e.move) i e.trip t)

is-still : (move : Move) → (move ≡ stays) ⊎ (move ≡ stays → ⊥)
is-still stays = inl refl
is-still (pushes x) = inr (λ e. absurd (cc))
is-still (pops x) = inr (λ e. absurd (cc))
is-still (saves x specials) = inr (λ e. absurd (cc))
is-still (unsaves i) = inr (λ e. absurd (cc))
is-still (cuts l) = inr (λ e. absurd (cc))
is-still (moves_globals g) = inr (λ e. absurd (cc))

pub stack-back : (w v : Window) (here : State) (i : Instruction) (k j : ℕ) (e : Effect) (place : Option ℕ) → IsRing w → IsGiven (windowed w) k (with_result here j e.result).stack →
    MayStore place e.store → Shape here.stack e → ((e.move ≡ stays → ⊥) → here.stack ≡ windowed w) → windowed v ≡ (applied here i j e).stack → TakesBack (move_noted e.move k place w) v w
stack-back w v here i k j e place r g m s h f =
    ⊎_elim (λ p. stays-back w v here i k j e place r g m p f) (λ n. moving-back w v here i k j e place r (h n) s n f) (is-still e.move)
