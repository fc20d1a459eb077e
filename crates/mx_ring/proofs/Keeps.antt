-- Each operation of the stack keeps a ring, and moves the number of spilled octas.
use Rattle.std.proofs.Common.{◌≡◌, ℕ, ◌+◌, ◌-◌, ◌^◌, ◌≤◌, ◌<◌, true, false, List, [], ◌∷◌, ◌++◌, length, take, drop, min, slice_index, arith, refl, sym, subst, ◌∙◌, ap, ⊎_elim}
use Rattle.std.proofs.lemmas.Bool.{cases_Bool}
use Rattle.std.proofs.lemmas.Bool.Decides.{nat_tests}
use Rattle.std.proofs.lemmas.List.{append-nil, length-append, length-set, length-take, length-take-le, length-drop, length_push, get_or-take, take-take, take-append-le}
use Rattle.mx_ring.proofs.Lists.{set-room, push-room, save-room, register-grown, register-kept}
use Rattle.mx_registers.proofs.Octas.{Fits, length-octas, spilled-below, spilled-octas, first-octas, hidden-fits, room-spills}
use Rattle.mx_ring.proofs.Rings.{fits-of, ring-of, set-ring, grow-ring, cut-ring, globals-ring, push-ring, pop-ring, save-ring, length-below, length-frame}
use Rattle.mx_registers.specs.Bounds.{AreInBounds}
use Rattle.mx_ring.specs.Bounds.{IsRing}
use Rattle.mx_ring.specs.Frames.{frame, frame_length, frame_global, frame_locals, frame_middle, frame_bottom, frame_registers, is_bad_frame}
use Rattle.mx_registers.specs.HiddenPart.{HiddenPart, octas_of, with_hidden, with_spilled, with_first, with_stack_first, with_octa}
use Rattle.mx_registers.specs.Registers.{is_marginal, with_value, push_number, registers_below, registers_from}
use Rattle.mx_ring.specs.Stack.{windowed, set_overfills, with_register, cut_to, with_global_start, push_overfills, pushed, hole_in, pop_underflows, popped, save_overfills, saved, frame_top, stack_address, octas_to, unsaved, stack_octa, with_stack_octa, hidden_count, spilled_count}
use Rattle.mx_ring.specs.Window.{Window, as_list}
use Rattle.mx_ring.specs.declared.saved.Saved.{Saved}

pub window-is : (v w : Window) → windowed v ≡ windowed w → v ≡ w
window-is v w e = cc

becomes : (v w : Window) → windowed v ≡ windowed w → IsRing w → IsRing v
becomes v w e r = subst IsRing (sym (window-is v w e)) r

pub set-keeps : (w : Window) (k x : ℕ) → IsRing w → set_overfills (windowed w) k ≡ false → (v : Window) → windowed v ≡ with_register (windowed w) k x → IsRing v
set-keeps w k x r o v e = ⊎_elim (λ m. becomes v _ (e ∙ register-grown (windowed w) k x m) (grow-ring w k x r m (set-room w k m o))) (λ m. becomes v _ (e ∙ register-kept (windowed w) k x m) (set-ring w k x r m)) (cases_Bool (is_marginal w.visible k))

pub cut-keeps : (w : Window) (l : ℕ) → IsRing w → l ≤ length w.visible.locals → (v : Window) → windowed v ≡ cut_to (windowed w) l → IsRing v
unfolding cut_to
cut-keeps w l r f v e = becomes v _ e (cut-ring w l r f)

pub globals-keeps : (w : Window) (g : ℕ) → IsRing w → length w.visible.locals ≤ g → 32 ≤ g → g ≤ 255 → (v : Window) → windowed v ≡ with_global_start (windowed w) g → IsRing v
unfolding with_global_start
globals-keeps w g r f least most v e = becomes v _ e (globals-ring w g r f least most)

pub push-keeps : (w : Window) (x : ℕ) → IsRing w → push_overfills (windowed w) x ≡ false → (v : Window) → windowed v ≡ pushed (windowed w) x → IsRing v
unfolding pushed
push-keeps w x r o v e =
    let n : ℕ = push_number w.visible x in
    let size : length (registers_below w.visible n ++ n ∷ []) ≡ n + 1 = length_push (registers_below w.visible n) n ∙ ap (λ m. m + 1) (length-below w.visible n) in
    becomes v _ e (push-ring w n (registers_below w.visible n ++ n ∷ []) r size (push-room w x o))

pub hole-below : (w : Window) → pop_underflows (windowed w) ≡ false → hole_in (octas_of w.hidden) < length (octas_of w.hidden)
unfolding pop_underflows
hole-below w o = grind (arith, nat_tests)

pub pop-keeps : (w : Window) (x : ℕ) → IsRing w → pop_underflows (windowed w) ≡ false → (v : Window) → windowed v ≡ popped (windowed w) x → IsRing v
unfolding popped
pop-keeps w x r o v e =
    let k : ℕ = hole_in (octas_of w.hidden) in
    let back : List ℕ = take k (drop (length (octas_of w.hidden) - (k + 1)) (octas_of w.hidden)) in
    let few : length back ≤ k = omega (arith, length-take k (drop (length (octas_of w.hidden) - (k + 1)) (octas_of w.hidden))) in
    becomes v _ e (pop-ring w k x back r (hole-below w o) few)

pub save-keeps : (w : Window) (x : ℕ) (s : Saved) → IsRing w → w.visible.first_global ≤ x → save_overfills (windowed w) ≡ false → (v : Window) → windowed v ≡ saved (windowed w) x s → IsRing v
unfolding saved
save-keeps w x s r g o v e =
    let size : length (frame w.visible s) ≡ frame_length w.visible.first_global (length w.visible.locals) = length-frame w.visible s r.registers in
    let room : length (octas_of w.hidden) + frame_length w.visible.first_global (length w.visible.locals) ≤ 2 ^ 20 = save-room w o in
    becomes v _ e (save-ring w x (stack_address (frame_top (windowed w))) (frame w.visible s) r g (omega arith))

pub octa-keeps : (w : Window) (i x : ℕ) → IsRing w → (v : Window) → windowed v ≡ with_stack_octa (windowed w) i x → IsRing v
unfolding with_stack_octa
octa-keeps w i x r v e =
    let f : Fits w.hidden (2 ^ 20) = fits-of w r in
    let all : length (octas_of (with_octa w.hidden i x)) ≡ length (octas_of w.hidden) = simp (length-append, length-take, length-set) refl in
    let fits : Fits (with_octa w.hidden i x) (2 ^ 20) = record {
      area = rw length-set f.area;
      spilled_are_hidden = omega (arith, f.spilled_are_hidden);
      has_room = omega (arith, f.has_room);
    } in
    becomes v _ e (ring-of w.size (with_octa w.hidden i x) w.visible r.least_size fits r.registers r.shorter (omega (arith, r.has_room)))

-- UNSAVE

frame-facts : (octas : List ℕ) (i : ℕ) → is_bad_frame octas i ≡ false → (32 ≤ frame_global octas i) × (frame_length (frame_global octas i) (frame_locals octas i) ≤ i + 1)
unfolding is_bad_frame
frame-facts octas i e = (grind (arith, nat_tests), grind (arith, nat_tests))

pub unsave-keeps : (w : Window) (i : ℕ) → IsRing w → i < 2 ^ 20 → stack_octa (windowed w) i < 2 ^ 64 → is_bad_frame (octas_to (windowed w) i) i ≡ false → (v : Window) → windowed v ≡ unsaved (windowed w) i → IsRing v
unfolding unsaved stack_octa
unsave-keeps w i r f o good v e =
    let stack : List ℕ = w.hidden.stack in
    let octas : List ℕ = take (i + 1) stack in
    let g : ℕ = frame_global octas i in
    let l : ℕ = frame_locals octas i in
    let middle : ℕ = frame_middle octas i in
    let bottom : ℕ = frame_bottom octas i in
    let least : 32 ≤ g = (frame-facts octas i good).0 in
    let whole : frame_length g l ≤ i + 1 = (frame-facts octas i good).1 in
    let here : slice_index octas (i - 0) ≡ slice_index stack i = ap (λ n. slice_index octas n) (omega arith) ∙ get_or-take (i + 1) stack i 0 (omega arith) in
    let most : g ≤ 255 = omega arith in
    let size : length octas ≡ i + 1 = length-take-le (i + 1) stack (omega (arith, r.area)) in
    let at_most : length (take g (take l (drop (middle - l) octas))) ≡ min g (min l (length (drop (middle - l) octas))) = length-take g (take l (drop (middle - l) octas)) ∙ ap (λ n. min g n) (length-take l (drop (middle - l) octas)) in
    let below : length (take g (take l (drop (middle - l) octas))) ≤ g = omega arith in
    let few : length (take g (take l (drop (middle - l) octas))) ≤ l = omega arith in
    let rest : length (drop (middle + 1) octas) ≡ 269 - g = length-drop (middle + 1) octas ∙ omega arith in
    let all : length (take (256 - g) (drop (middle + 1) octas)) ≡ 256 - g = length-take-le (256 - g) (drop (middle + 1) octas) (omega arith) in
    let b : AreInBounds (frame_registers octas i) = record { locals_below_globals = below; least_global = least; one_is_global = most; all_globals = omega arith } in
    let left : length (take bottom stack ++ []) ≡ bottom = ap length (append-nil (take bottom stack)) ∙ length-take-le bottom stack (omega (arith, r.area)) in
    let fits : Fits (with_stack_first w.hidden bottom) (2 ^ 20) = record { area = r.area; spilled_are_hidden = omega arith; has_room = omega arith } in
    becomes v _ e (ring-of w.size (with_stack_first w.hidden bottom) (frame_registers octas i) r.least_size fits b (omega (arith, r.least_size)) (omega arith))

-- HOW MANY OCTAS ARE SPILLED

pub set-spills : (w : Window) (k x : ℕ) → w.hidden.spilled ≤ spilled_count (with_register (windowed w) k x)
set-spills w k x = ⊎_elim (λ m. grown m) (λ m. kept m) (cases_Bool (is_marginal w.visible k))
  where
    grown : is_marginal w.visible k ≡ true → w.hidden.spilled ≤ spilled_count (with_register (windowed w) k x)
    grown m = rw (register-grown (windowed w) k x m) (room-spills w.hidden (length (with_value w.visible k x).locals) w.size)

    kept : is_marginal w.visible k ≡ false → w.hidden.spilled ≤ spilled_count (with_register (windowed w) k x)
    kept m = rw (register-kept (windowed w) k x m) (omega arith)

pub push-spills : (w : Window) (x : ℕ) → w.hidden.spilled ≤ spilled_count (pushed (windowed w) x)
unfolding pushed
push-spills w x =
    let n : ℕ = push_number w.visible x in
    room-spills (with_hidden w.hidden (registers_below w.visible n ++ n ∷ [])) (length (registers_from w.visible (n + 1)).locals) w.size

pub pop-spills : (w : Window) (x : ℕ) → IsRing w → spilled_count (popped (windowed w) x) ≡ min (spilled_count (windowed w)) (hidden_count (popped (windowed w) x))
unfolding popped with_first
pop-spills w x r =
    let n : ℕ = length (octas_of w.hidden) - (hole_in (octas_of w.hidden) + 1) in
    let left : length (octas_of (with_first w.hidden n)) ≡ n = ap length (first-octas w.hidden (2 ^ 20) n (fits-of w r)) ∙ length-take-le n (octas_of w.hidden) (omega arith) in
    rw left refl

pub save-spills : (w : Window) (x : ℕ) (s : Saved) → IsRing w → save_overfills (windowed w) ≡ false → spilled_count (saved (windowed w) x s) ≡ hidden_count (saved (windowed w) x s)
unfolding saved with_spilled
save-spills w x s r o =
    let size : length (frame w.visible s) ≡ frame_length w.visible.first_global (length w.visible.locals) = length-frame w.visible s r.registers in
    let room : length (octas_of w.hidden) + frame_length w.visible.first_global (length w.visible.locals) ≤ 2 ^ 20 = save-room w o in
    let h : HiddenPart = with_hidden w.hidden (frame w.visible s) in
    let fits : Fits h (2 ^ 20) = hidden-fits w.hidden (2 ^ 20) (frame w.visible s) (fits-of w r) (omega arith) in
    sym (ap length (spilled-octas h (2 ^ 20) (length h.resident) fits (omega arith)) ∙ length-octas h (2 ^ 20) fits)

pub unsave-spills : (w : Window) (i : ℕ) → IsRing w → i < 2 ^ 20 → spilled_count (unsaved (windowed w) i) ≡ hidden_count (unsaved (windowed w) i)
unfolding unsaved
unsave-spills w i r f =
    let n : ℕ = frame_bottom (octas_to (windowed w) i) i in
    sym (ap length (append-nil (take n w.hidden.stack)) ∙ length-take-le n w.hidden.stack (omega (arith, r.area)))

-- the first octas of the stack area
pub marked-hidden : (w : Window) (m : ℕ) → IsRing w → m ≤ w.hidden.spilled → take m (as_list w).hidden ≡ take m w.hidden.stack
unfolding as_list
marked-hidden w m r f =
    let below : w.hidden.spilled ≤ length w.hidden.stack = spilled-below w.hidden (2 ^ 20) (fits-of w r) in
    let size : length (take w.hidden.spilled w.hidden.stack) ≡ w.hidden.spilled = length-take-le w.hidden.spilled w.hidden.stack below in
    take-append-le m (take w.hidden.spilled w.hidden.stack) w.hidden.resident (omega arith) ∙ take-take m w.hidden.spilled w.hidden.stack f
