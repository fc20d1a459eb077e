-- Each operation keeps what holds of a ring at all times.
use Rattle.std.proofs.Common.{◌≡◌, ℕ, ◌+◌, ◌-◌, ◌*◌, ◌^◌, ◌≤◌, ◌<◌, List, [], ◌∷◌, ◌++◌, length, take, drop, min, true, false, arith, refl, ◌∙◌, ap}
use Rattle.std.proofs.lemmas.Bool.Decides.{nat_tests}
use Rattle.std.proofs.lemmas.List.{append_assoc, append-nil, length-take, length-take-le, length-drop, length-append, length-replicate, take_all}
use Rattle.mx_registers.proofs.Octas.{Fits, length-octas, length-spilled, room-none, room-fits, room-octas, room-shorter, spilled-fits, spilled-octas, first-octas, first-fits, first-resident, hidden-octas, hidden-fits}
use Rattle.mx_registers.proofs.Values.{with_value-bounds, locals-kept, locals-grown, locals-bounds, cut-bounds, from-bounds, globals-bounds}
use Rattle.mx_registers.specs.Bounds.{AreInBounds}
use Rattle.mx_ring.specs.Bounds.{IsRing}
use Rattle.mx_ring.specs.Frames.{frame, frame_length, saved_specials}
use Rattle.mx_registers.specs.HiddenPart.{HiddenPart, octas_of, with_spilled, with_room, with_first, with_hidden}
use Rattle.mx_registers.specs.Registers.{Registers, is_marginal, with_value, with_locals_cut, with_globals_from, registers_below, registers_from, results, with_returned}
use Rattle.mx_ring.specs.Window.{Window}
use Rattle.mx_ring.specs.declared.saved.Saved.{Saved}

pub fits-of : (w : Window) → IsRing w → Fits w.hidden (2 ^ 20)
fits-of w r = record { area = r.area; spilled_are_hidden = r.spilled_are_hidden; has_room = omega (arith, r.has_room) }

pub ring-of : (size : ℕ) (h : HiddenPart) (v : Registers) → 256 ≤ size → Fits h (2 ^ 20) → AreInBounds v → length h.resident + length v.locals < size → length (octas_of h) + length v.locals ≤ 2 ^ 20 → IsRing (record { size = size; hidden = h; visible = v })
ring-of size h v s f b short room = record {
  least_size = s;
  area = f.area;
  spilled_are_hidden = f.spilled_are_hidden;
  shorter = short;
  has_room = room;
  registers = b;
}

-- after a growth
pub room-ring : (size : ℕ) (h : HiddenPart) (v : Registers) → 256 ≤ size → Fits h (2 ^ 20) → AreInBounds v → length (octas_of h) + length v.locals ≤ 2 ^ 20 → IsRing (record { size = size; hidden = with_room h (length v.locals) size; visible = v })
room-ring size h v s f b room =
    let few : length v.locals < size = omega (arith, b.locals_below_globals, b.one_is_global) in
    let same : length (octas_of (with_room h (length v.locals) size)) ≡ length (octas_of h) = ap length (room-octas h (2 ^ 20) (length v.locals) size f few) in
    ring-of size _ v s (room-fits h (2 ^ 20) (length v.locals) size f few) b (room-shorter h (length v.locals) size few) (omega arith)

-- the same hidden octas, and no more locals
visible-ring : (w : Window) (v : Registers) → IsRing w → AreInBounds v → length v.locals ≤ length w.visible.locals → IsRing (record w { visible = v })
visible-ring w v r b f = ring-of w.size w.hidden v r.least_size (fits-of w r) b (omega (arith, r.shorter)) (omega (arith, r.has_room))

pub set-ring : (w : Window) (k x : ℕ) → IsRing w → is_marginal w.visible k ≡ false → IsRing (record w { visible = with_value w.visible k x })
set-ring w k x r m =
    let local : k < w.visible.first_global → k < length w.visible.locals = grind (arith, nat_tests) in
    visible-ring w _ r (with_value-bounds w.visible k x r.registers) (omega (arith, locals-kept w.visible k x local))

pub grown-count : (v : Registers) (k x : ℕ) → is_marginal v k ≡ true → length (with_value v k x).locals ≡ k + 1
grown-count v k x m =
    let below : k < v.first_global = grind (arith, nat_tests) in
    let above : length v.locals ≤ k = grind (arith, nat_tests) in
    locals-grown v k x below above

pub grow-ring : (w : Window) (k x : ℕ) → IsRing w → is_marginal w.visible k ≡ true → length (octas_of w.hidden) + (k + 1) ≤ 2 ^ 20 → IsRing (record w { hidden = with_room w.hidden (length (with_value w.visible k x).locals) w.size; visible = with_value w.visible k x })
grow-ring w k x r m f =
    room-ring w.size w.hidden (with_value w.visible k x) r.least_size (fits-of w r) (with_value-bounds w.visible k x r.registers) (omega (arith, grown-count w.visible k x m))

pub cut-ring : (w : Window) (l : ℕ) → IsRing w → l ≤ length w.visible.locals → IsRing (record w { visible = with_locals_cut w.visible l })
cut-ring w l r f = visible-ring w _ r (cut-bounds w.visible l r.registers f) (omega (arith, length-take-le l w.visible.locals f))

pub globals-ring : (w : Window) (g : ℕ) → IsRing w → length w.visible.locals ≤ g → 32 ≤ g → g ≤ 255 → IsRing (record w { visible = with_globals_from w.visible g })
globals-ring w g r f least most = visible-ring w _ r (globals-bounds w.visible g r.registers f least most) (omega arith)

-- PUSH

pub length-below : (v : Registers) (n : ℕ) → length (registers_below v n) ≡ n
length-below v n =
    let all : length (registers_below v n) ≡ min n (length v.locals) + (n - length v.locals) = simp (length-append, length-take, length-replicate) refl in
    omega arith

pub push-ring : (w : Window) (n : ℕ) (octas : List ℕ) → IsRing w → length octas ≡ n + 1 → length (octas_of w.hidden) + (n + 1) ≤ 2 ^ 20 → IsRing (record w { hidden = with_room (with_hidden w.hidden octas) (length (registers_from w.visible (n + 1)).locals) w.size; visible = registers_from w.visible (n + 1) })
push-ring w n octas r e f =
    let all : length (octas_of (with_hidden w.hidden octas)) ≡ length (octas_of w.hidden) + length octas = ap length (hidden-octas w.hidden octas) ∙ length-append (octas_of w.hidden) octas in
    let fewer : length (drop (n + 1) w.visible.locals) ≡ length w.visible.locals - (n + 1) = length-drop (n + 1) w.visible.locals in
    room-ring w.size _ (registers_from w.visible (n + 1)) r.least_size (hidden-fits w.hidden (2 ^ 20) octas (fits-of w r) (omega arith)) (from-bounds w.visible (n + 1) r.registers) (omega (arith, r.has_room))

-- nothing is spilled where few registers are hidden and few stay
pub push-within : (w : Window) (n size : ℕ) (octas : List ℕ) → IsRing w → length octas ≡ n + 1 → n < size → length w.hidden.resident + size ≤ 255 → length w.visible.locals ≤ size → with_room (with_hidden w.hidden octas) (length (registers_from w.visible (n + 1)).locals) w.size ≡ with_hidden w.hidden octas
push-within w n size octas r e f ring few =
    let all : length (w.hidden.resident ++ octas) ≡ length w.hidden.resident + length octas = length-append w.hidden.resident octas in
    let left : length (drop (n + 1) w.visible.locals) ≡ length w.visible.locals - (n + 1) = length-drop (n + 1) w.visible.locals in
    room-none (with_hidden w.hidden octas) (length (registers_from w.visible (n + 1)).locals) w.size (omega (arith, r.least_size))

-- POP

length-results : (ls : List ℕ) (x : ℕ) → length (results ls x) ≤ length ls + 1
length-results ls x = grind (arith, nat_tests, length-take (x - 1) ls)

pub pop-ring : (w : Window) (hole x : ℕ) (octas : List ℕ) → IsRing w → hole < length (octas_of w.hidden) → length octas ≤ hole → IsRing (record w { hidden = with_first w.hidden (length (octas_of w.hidden) - (hole + 1)); visible = with_returned w.visible octas x })
pop-ring w hole x octas r f g =
    let n : ℕ = length (octas_of w.hidden) - (hole + 1) in
    let h : HiddenPart = w.hidden in
    let fits : Fits h (2 ^ 20) = fits-of w r in
    let all : length (octas_of h) ≡ h.spilled + length h.resident = length-octas h (2 ^ 20) fits in
    let fewer : n ≤ length (octas_of h) = omega arith in
    let left : length (octas_of (with_first h n)) ≡ n = ap length (first-octas h (2 ^ 20) n fits) ∙ length-take-le n (octas_of h) fewer in
    let resident : length (with_first h n).resident ≡ min (n - h.spilled) (length h.resident) = first-resident h n in
    let back : length (take w.visible.first_global (octas ++ results w.visible.locals x)) ≡ min w.visible.first_global (length octas + length (results w.visible.locals x)) = simp (length-take, length-append) refl in
    let few : length (results w.visible.locals x) ≤ length w.visible.locals + 1 = length-results w.visible.locals x in
    let below : length (take w.visible.first_global (octas ++ results w.visible.locals x)) ≤ w.visible.first_global = omega arith in
    let most : length (take w.visible.first_global (octas ++ results w.visible.locals x)) ≤ hole + length w.visible.locals + 1 = omega arith in
    ring-of w.size (with_first h n) (with_returned w.visible octas x) r.least_size (first-fits h (2 ^ 20) n fits fewer) (locals-bounds w.visible _ r.registers below) (omega (arith, r.shorter, r.least_size, r.registers.one_is_global)) (omega (arith, r.has_room))

-- SAVE

below-all : (v : Registers) → registers_below v (length v.locals) ≡ v.locals
below-all v =
    let none : length v.locals - length v.locals ≡ 0 = omega arith in
    rw none (append-nil (take (length v.locals) v.locals) ∙ take_all (length v.locals) v.locals (omega arith))

-- a frame that is hidden piece by piece
pub frame-hidden : (h : HiddenPart) (v : Registers) (s : Saved) (top : List ℕ) → top ≡ saved_specials s ++ (2 ^ 56 * v.first_global + s.a) ∷ [] → with_hidden (with_hidden (with_hidden (with_hidden h (registers_below v (length v.locals))) (length v.locals ∷ [])) v.globals) top ≡ with_hidden h (frame v s)
frame-hidden h v s top e = rw (e, below-all v) (ap (λ (zs : List ℕ). record h { resident = zs }) (simp append_assoc))

pub length-frame : (v : Registers) (s : Saved) → AreInBounds v → length (frame v s) ≡ frame_length v.first_global (length v.locals)
length-frame v s b =
    let all : length (frame v s) ≡ length v.locals + 1 + length v.globals + 13 = simp length-append (omega arith) in
    omega (arith, b.all_globals, b.one_is_global)

pub save-ring : (w : Window) (x a : ℕ) (octas : List ℕ) → IsRing w → w.visible.first_global ≤ x → length (octas_of w.hidden) + length octas ≤ 2 ^ 20 → IsRing (record w { hidden = with_spilled (with_hidden w.hidden octas) (length (with_hidden w.hidden octas).resident); visible = with_value (with_locals_cut w.visible 0) x a })
save-ring w x a octas r g f =
    let h : HiddenPart = with_hidden w.hidden octas in
    let v : Registers = with_locals_cut w.visible 0 in
    let fits : Fits h (2 ^ 20) = hidden-fits w.hidden (2 ^ 20) octas (fits-of w r) f in
    let low : length h.resident ≤ length h.resident = omega arith in
    let none : length (with_spilled h (length h.resident)).resident ≡ length h.resident - length h.resident = length-spilled h (length h.resident) in
    let same : length (octas_of (with_spilled h (length h.resident))) ≡ length (octas_of h) = ap length (spilled-octas h (2 ^ 20) (length h.resident) fits low) in
    let all : length (octas_of h) ≡ length (octas_of w.hidden) + length octas = ap length (hidden-octas w.hidden octas) ∙ length-append (octas_of w.hidden) octas in
    let cut : length (with_value v x a).locals ≡ 0 = locals-kept v x a (λ l. absurd (omega arith)) in
    ring-of w.size _ (with_value v x a) r.least_size (spilled-fits h (2 ^ 20) (length h.resident) fits low) (with_value-bounds v x a (cut-bounds w.visible 0 r.registers (omega arith))) (omega (arith, r.least_size)) (omega arith)
