-- The list that a window represents goes through each operation as a list does.
use Rattle.std.proofs.Common.{◌≡◌, ℕ, ◌+◌, ◌-◌, ◌^◌, ◌≤◌, ◌<◌, Bool, true, false, not, ◌||◌, ◌&&◌, List, [], ◌∷◌, ◌++◌, length, take, drop, max, nat_le, cond, Some, None, Ok, Err, if◌then◌else◌, arith, refl, sym, ◌∙◌, ap, ⊎_elim}
use Rattle.std.proofs.lemmas.Bool.{cases_Bool}
use Rattle.std.proofs.lemmas.Bool.Decides.{nat_tests}
use Rattle.std.proofs.lemmas.List.{append-nil, length-take-le, take-take, take-append-le, length_push}
use Rattle.mx_registers.proofs.Octas.{Fits, spilled-below, room-none, room-octas, spilled-octas, first-octas, hidden-octas, hidden-fits}
use Rattle.mx_ring.proofs.Rings.{fits-of, grow-ring, grown-count, length-below, length-frame}
use Rattle.mx_registers.proofs.Values.{with_value-bounds, from-bounds}
use Rattle.mx_registers.specs.Bounds.{AreInBounds}
use Rattle.mx_ring.specs.Bounds.{IsRing}
use Rattle.mx_ring.specs.Calls.{frame_answer}
use Rattle.mx_ring.specs.Frames.{frame, frame_length, frame_bottom, frame_registers, frame_specials, is_bad_frame}
use Rattle.mx_registers.specs.HiddenPart.{HiddenPart, octas_of, with_hidden, with_room}
use Rattle.mx_registers.specs.Registers.{Registers, is_marginal, with_value, with_locals_cut, push_number, registers_below, registers_from, with_returned}
use Rattle.mx_ring.specs.Stack.{Stack, listed, windowed, as_listed, visible, with_visible, after_growth, is_too_many, register, pop_underflows, set_overfills, with_register, cut_to, with_global_start, push_overfills, pushed, hole_in, popped, save_overfills, saved, frame_top, stack_address, stack_index, in_stack_area, octas_to, with_read_back, unsave_refused, unsaved_specials, unsaved, list_of, hidden_octas}
use Rattle.mx_ring.specs.Window.{Window, as_list}
use Rattle.mx_registers.specs.declared.fault.RingFault.TheVariants.{BadFrame}
use Rattle.mx_ring.specs.declared.saved.Saved.{Saved}

-- ROOM

pub room-left : (n : ℕ) → is_too_many n ≡ false → n ≤ 2 ^ 20
room-left n e = grind (arith, nat_tests)

bounded : (size : ℕ) (v : Registers) → 256 ≤ size → AreInBounds v → length v.locals < size
bounded size v s b = omega (arith, b.locals_below_globals, b.one_is_global)

-- the value of a test's answer
pub value-is : (b : Bool) (n m : ℕ) → Some n ≡ (if b then None else Some m) → n ≡ m
value-is true n m e = cc
value-is false n m e = cc

-- SET

pub register-grown : (s : Stack) (k x : ℕ) → is_marginal (visible s) k ≡ true → with_register s k x ≡ after_growth (with_visible s (with_value (visible s) k x))
unfolding with_register
register-grown s k x m = ap (λ (b : Bool). cond b (after_growth (with_visible s (with_value (visible s) k x))) (with_visible s (with_value (visible s) k x))) m

pub register-kept : (s : Stack) (k x : ℕ) → is_marginal (visible s) k ≡ false → with_register s k x ≡ with_visible s (with_value (visible s) k x)
unfolding with_register
register-kept s k x m = ap (λ (b : Bool). cond b (after_growth (with_visible s (with_value (visible s) k x))) (with_visible s (with_value (visible s) k x))) m

pub set-room : (w : Window) (k : ℕ) → is_marginal w.visible k ≡ true → set_overfills (windowed w) k ≡ false → length (octas_of w.hidden) + (k + 1) ≤ 2 ^ 20
unfolding set_overfills
set-room w k m e = room-left (length (octas_of w.hidden) + (k + 1)) (sym (ap (λ (b : Bool). b && is_too_many (length (octas_of w.hidden) + (k + 1))) m) ∙ e)

grown-list : (w : Window) (k x : ℕ) → IsRing w → after_growth (with_visible (as_listed (windowed w)) (with_value w.visible k x)) ≡ as_listed (after_growth (with_visible (windowed w) (with_value w.visible k x)))
unfolding as_list
grown-list w k x r =
    let v : Registers = with_value w.visible k x in
    let few : length v.locals < w.size = bounded w.size v r.least_size (with_value-bounds w.visible k x r.registers) in
    ap (λ (os : List ℕ). listed (record { hidden = os; visible = v })) (sym (room-octas w.hidden (2 ^ 20) (length v.locals) w.size (fits-of w r) few))

kept-list : (w : Window) (v : Registers) → with_visible (as_listed (windowed w)) v ≡ as_listed (with_visible (windowed w) v)
unfolding as_list
kept-list w v = refl

pub same-visible : (w : Window) → visible (list_of w) ≡ visible (windowed w)
unfolding as_list
same-visible w = refl

pub same-hidden : (w : Window) → hidden_octas (list_of w) ≡ hidden_octas (windowed w)
unfolding as_list
same-hidden w = refl

pub register-list : (w : Window) (k x : ℕ) → IsRing w → as_listed (with_register (windowed w) k x) ≡ with_register (as_listed (windowed w)) k x
unfolding as_list
register-list w k x r = ⊎_elim (λ m. grown m) (λ m. kept m) (cases_Bool (is_marginal w.visible k))
  where
    grown : is_marginal w.visible k ≡ true → as_listed (with_register (windowed w) k x) ≡ with_register (as_listed (windowed w)) k x
    grown m = ap as_listed (register-grown (windowed w) k x m) ∙ sym (register-grown (as_listed (windowed w)) k x m ∙ grown-list w k x r)

    kept : is_marginal w.visible k ≡ false → as_listed (with_register (windowed w) k x) ≡ with_register (as_listed (windowed w)) k x
    kept m = ap as_listed (register-kept (windowed w) k x m) ∙ sym (register-kept (as_listed (windowed w)) k x m ∙ kept-list w (with_value w.visible k x))

pub cut-list : (w : Window) (l : ℕ) → as_listed (cut_to (windowed w) l) ≡ cut_to (as_listed (windowed w)) l
unfolding cut_to as_list
cut-list w l = refl

pub globals-list : (w : Window) (g : ℕ) → as_listed (with_global_start (windowed w) g) ≡ with_global_start (as_listed (windowed w)) g
unfolding with_global_start as_list
globals-list w g = refl

-- a register that grew, part by part
pub grown-is : (w : Window) (k x n : ℕ) (h : HiddenPart) (v : Registers) → is_marginal w.visible k ≡ true → n ≡ k → v ≡ with_value w.visible k x → h ≡ with_room w.hidden (n + 1) w.size → windowed (record { size = w.size; hidden = h; visible = v }) ≡ with_register (windowed w) k x
grown-is w k x n h v m en ev eh =
    let count : n + 1 ≡ length (with_value w.visible k x).locals = omega (arith, grown-count w.visible k x m) in
    rw (eh, ev, count) (sym (register-grown (windowed w) k x m))

-- so it is where nothing is spilled for it
pub grown-within : (w : Window) (k x n : ℕ) (v : Registers) → IsRing w → is_marginal w.visible k ≡ true → n ≡ k + 1 → v ≡ with_value w.visible k x → (nat_le (length w.hidden.resident + n) 255 && nat_le (length (octas_of w.hidden) + n) (2 ^ 20)) ≡ true → IsRing (record w { visible = v }) × (windowed (record w { visible = v }) ≡ with_register (windowed w) k x)
grown-within w k x n v r m en ev t =
    let few : length w.hidden.resident + n ≤ 255 = grind (arith, nat_tests) in
    let room : length (octas_of w.hidden) + n ≤ 2 ^ 20 = grind (arith, nat_tests) in
    let count : length (with_value w.visible k x).locals ≡ k + 1 = grown-count w.visible k x m in
    let none : with_room w.hidden (length (with_value w.visible k x).locals) w.size ≡ w.hidden = room-none w.hidden (length (with_value w.visible k x).locals) w.size (omega (arith, r.least_size)) in
    let same : with_room w.hidden (k + 1) w.size ≡ w.hidden = room-none w.hidden (k + 1) w.size (omega (arith, r.least_size)) in
    (rw ev (rw none at (grow-ring w k x r m (omega arith))), grown-is w k x k w.hidden v m refl ev (sym same))

-- PUSH

pub push-room : (w : Window) (x : ℕ) → push_overfills (windowed w) x ≡ false → length (octas_of w.hidden) + (push_number w.visible x + 1) ≤ 2 ^ 20
unfolding push_overfills
push-room w x e = omega (arith, room-left (length (octas_of w.hidden) + max (push_number w.visible x + 1) (length w.visible.locals)) e)

pub pushed-list : (w : Window) (x : ℕ) → IsRing w → push_overfills (windowed w) x ≡ false → as_listed (pushed (windowed w) x) ≡ pushed (as_listed (windowed w)) x
unfolding pushed as_list
pushed-list w x r e =
    let n : ℕ = push_number w.visible x in
    let octas : List ℕ = registers_below w.visible n ++ n ∷ [] in
    let v : Registers = registers_from w.visible (n + 1) in
    let size : length octas ≡ n + 1 = length_push (registers_below w.visible n) n ∙ ap (λ m. m + 1) (length-below w.visible n) in
    let room : length (octas_of w.hidden) + (n + 1) ≤ 2 ^ 20 = push-room w x e in
    let fits : Fits (with_hidden w.hidden octas) (2 ^ 20) = hidden-fits w.hidden (2 ^ 20) octas (fits-of w r) (omega arith) in
    ap (λ (os : List ℕ). listed (record { hidden = os; visible = v })) (room-octas (with_hidden w.hidden octas) (2 ^ 20) (length v.locals) w.size fits (bounded w.size v r.least_size (from-bounds w.visible (n + 1) r.registers)) ∙ hidden-octas w.hidden octas)

-- POP

pub popped-list : (w : Window) (x : ℕ) → IsRing w → as_listed (popped (windowed w) x) ≡ popped (as_listed (windowed w)) x
unfolding popped as_list
popped-list w x r =
    let octas : List ℕ = octas_of w.hidden in
    let k : ℕ = hole_in octas in
    let below : ℕ = length octas - (k + 1) in
    let v : Registers = with_returned w.visible (take k (drop below octas)) x in
    ap (λ (os : List ℕ). listed (record { hidden = os; visible = v })) (first-octas w.hidden (2 ^ 20) below (fits-of w r))

-- SAVE

pub save-room : (w : Window) → save_overfills (windowed w) ≡ false → length (octas_of w.hidden) + frame_length w.visible.first_global (length w.visible.locals) ≤ 2 ^ 20
unfolding save_overfills
save-room w e = room-left (length (octas_of w.hidden) + frame_length w.visible.first_global (length w.visible.locals)) e

pub saved-list : (w : Window) (x : ℕ) (s : Saved) → IsRing w → save_overfills (windowed w) ≡ false → as_listed (saved (windowed w) x s) ≡ saved (as_listed (windowed w)) x s
unfolding saved as_list
saved-list w x s r e =
    let size : length (frame w.visible s) ≡ frame_length w.visible.first_global (length w.visible.locals) = length-frame w.visible s r.registers in
    let room : length (octas_of w.hidden) + frame_length w.visible.first_global (length w.visible.locals) ≤ 2 ^ 20 = save-room w e in
    let h : HiddenPart = with_hidden w.hidden (frame w.visible s) in
    let fits : Fits h (2 ^ 20) = hidden-fits w.hidden (2 ^ 20) (frame w.visible s) (fits-of w r) (omega arith) in
    ap (λ (os : List ℕ). listed (record { hidden = os; visible = with_value (with_locals_cut w.visible 0) x (stack_address (frame_top (windowed w))) })) (spilled-octas h (2 ^ 20) (length h.resident) fits (omega arith) ∙ hidden-octas w.hidden (frame w.visible s))

-- UNSAVE

pub same-octas : (w : Window) (i : ℕ) → IsRing w → i < w.hidden.spilled → octas_to (as_listed (windowed w)) i ≡ octas_to (windowed w) i
unfolding as_list
same-octas w i r f =
    let below : w.hidden.spilled ≤ length w.hidden.stack = spilled-below w.hidden (2 ^ 20) (fits-of w r) in
    let size : length (take w.hidden.spilled w.hidden.stack) ≡ w.hidden.spilled = length-take-le w.hidden.spilled w.hidden.stack below in
    take-append-le (i + 1) (take w.hidden.spilled w.hidden.stack) w.hidden.resident (omega arith) ∙ take-take (i + 1) w.hidden.spilled w.hidden.stack (omega arith)

pub specials-list : (w : Window) (i : ℕ) → IsRing w → i < w.hidden.spilled → unsaved_specials (as_listed (windowed w)) i ≡ unsaved_specials (windowed w) i
unfolding unsaved_specials
specials-list w i r f = ap (λ (os : List ℕ). frame_specials os i) (same-octas w i r f)

-- the octas that stay hidden
read-back : (w : Window) (v : Registers) (n : ℕ) → IsRing w → n ≤ w.hidden.spilled → as_listed (with_read_back (windowed w) n v) ≡ with_read_back (as_listed (windowed w)) n v
unfolding as_list
read-back w v n r f =
    let below : w.hidden.spilled ≤ length w.hidden.stack = spilled-below w.hidden (2 ^ 20) (fits-of w r) in
    let size : length (take w.hidden.spilled w.hidden.stack) ≡ w.hidden.spilled = length-take-le w.hidden.spilled w.hidden.stack below in
    ap (λ (os : List ℕ). listed (record { hidden = os; visible = v })) (append-nil (take n w.hidden.stack) ∙ sym (take-append-le n (take w.hidden.spilled w.hidden.stack) w.hidden.resident (omega arith) ∙ take-take n w.hidden.spilled w.hidden.stack f))

pub unsaved-list : (w : Window) (i : ℕ) → IsRing w → i < w.hidden.spilled → as_listed (unsaved (windowed w) i) ≡ unsaved (as_listed (windowed w)) i
unfolding unsaved
unsaved-list w i r f =
    let os : List ℕ = octas_to (windowed w) i in
    read-back w (frame_registers os i) (frame_bottom os i) r (omega arith) ∙ ap (λ (xs : List ℕ). with_read_back (as_listed (windowed w)) (frame_bottom xs i) (frame_registers xs i)) (sym (same-octas w i r f))

pub frame-answer-list : (w : Window) (i : ℕ) → IsRing w → i < w.hidden.spilled → frame_answer (as_listed (windowed w)) i ≡ frame_answer (windowed w) i
unfolding unsaved_specials
frame-answer-list w i r f = ap (λ (os : List ℕ). if is_bad_frame os i then Err BadFrame else Ok (frame_specials os i)) (same-octas w i r f)

-- an address outside the stack area is refused at once
refused-outside : (s : Stack) (a : ℕ) → in_stack_area a ≡ false → unsave_refused s a ≡ true
unfolding unsave_refused
refused-outside s a o = ap (λ (b : Bool). not b || is_bad_frame (octas_to s (stack_index a)) (stack_index a)) o

refused-inside : (w : Window) (a : ℕ) → IsRing w → stack_index a < w.hidden.spilled → unsave_refused (as_listed (windowed w)) a ≡ unsave_refused (windowed w) a
unfolding unsave_refused
refused-inside w a r f = ap (λ (os : List ℕ). not (in_stack_area a) || is_bad_frame os (stack_index a)) (same-octas w (stack_index a) r f)

pub refused-list : (w : Window) (a : ℕ) → IsRing w → (in_stack_area a ≡ true → stack_index a < w.hidden.spilled) → unsave_refused (as_listed (windowed w)) a ≡ unsave_refused (windowed w) a
refused-list w a r f = ⊎_elim (λ i. refused-inside w a r (f i)) (λ o. refused-outside (as_listed (windowed w)) a o ∙ sym (refused-outside (windowed w) a o)) (cases_Bool (in_stack_area a))

-- REFUSALS

pub set-refused : (w : Window) (k : ℕ) → set_overfills (as_listed (windowed w)) k ≡ set_overfills (windowed w) k
unfolding set_overfills as_list
set-refused w k = refl

pub push-refused : (w : Window) (x : ℕ) → push_overfills (as_listed (windowed w)) x ≡ push_overfills (windowed w) x
unfolding push_overfills as_list
push-refused w x = refl

pub pop-refused : (w : Window) → pop_underflows (as_listed (windowed w)) ≡ pop_underflows (windowed w)
unfolding pop_underflows as_list
pop-refused w = refl

pub save-refused : (w : Window) → save_overfills (as_listed (windowed w)) ≡ save_overfills (windowed w)
unfolding save_overfills as_list
save-refused w = refl

pub get-list : (w : Window) (k : ℕ) → register (as_listed (windowed w)) k ≡ register (windowed w) k
unfolding register as_list
get-list w k = refl
