-- What a call notes of few registers takes the window after it back to the one before.
use Rattle.std.proofs.Common.{◌≡◌, ℕ, ◌+◌, ◌-◌, ◌^◌, ◌≤◌, ◌<◌, false, List, [], ◌++◌, length, take, drop, replicate, Option, None, arith, refl, sym, subst, ◌∙◌, ap}
use Rattle.std.specs.Prelude.{IfSome}
use Rattle.std.proofs.lemmas.Bool.Decides.{nat_tests}
use Rattle.std.proofs.lemmas.List.{append-nil, length-take-le, length-drop, take_all, take_at}
use Rattle.std.proofs.Math.Seq.{drop-append-add}
use Rattle.mx_registers.proofs.Octas.{Fits, length-octas, spilled-below}
use Rattle.mx_registers.specs.Bounds.{AreInBounds}
use Rattle.mx_registers.specs.HiddenPart.{HiddenPart, octas_of}
use Rattle.mx_registers.specs.Registers.{Registers, push_number, registers_below, with_returned}
use Rattle.mx_ring.specs.Bounds.{IsRing}
use Rattle.mx_ring.specs.Notes.{RingWas, TakesBack, local, above_room, push_spills, call_noted, called_with, ring_noted, spilled_by, staying, octa_noted, hidden_undone, ring_undone}
use Rattle.mx_ring.specs.Stack.{windowed, visible, pushed, push_overfills, popped, pop_underflows, hole_in}
use Rattle.mx_ring.specs.Window.{Window}
use Rattle.mx_ring.specs.declared.notes.RingWork.{RingWork}
use Rattle.mx_ring.specs.declared.notes.RingWork.TheVariants.{Push, Pop}
use Rattle.mx_ring.proofs.Rings.{fits-of}
use Rattle.mx_ring.proofs.TakenBack.{takes, undone-is, push-back, pop-back}

-- the local registers are given back to others with the same global ones
locals-back : (v u : Registers) → AreInBounds v → u.first_global ≡ v.first_global → u.globals ≡ v.globals → with_returned u v.locals 0 ≡ v
locals-back v u b e f =
    let all : take u.first_global (v.locals ++ []) ≡ v.locals =
    ap (λ g. take g (v.locals ++ [])) e ∙ ap (take v.first_global) (append-nil v.locals) ∙ take_all v.first_global v.locals b.locals_below_globals in
    λ i. record { locals = all i; first_global = e i; globals = f i }

-- of a note of all registers, and of octas that no spill replaced
called-back : (work : RingWork) (w v : Window) → IsRing w → TakesBack (ring_noted work w) v w → spilled_by work w ≡ 0 → octa_noted work w.hidden.stack ≡ None → v.visible.first_global ≡ w.visible.first_global → v.visible.globals ≡ w.visible.globals →
    TakesBack (call_noted work w) v w
unfolding call_noted ring_noted ring_undone hidden_undone
called-back work w v r t z o e f =
    let hidden : hidden_undone (call_noted work w) v.hidden ≡ hidden_undone (ring_noted work w) v.hidden = rw (z, o) refl in
    takes (call_noted work w) v w r tt tt (omega (arith, t.fits.hidden.area)) t.fits.hidden.stays t.fits.hidden.order
    (undone-is (call_noted work w) v w (ap (λ (u : Window). u.size) t.back) (hidden ∙ ap (λ (u : Window). u.hidden) t.back) (locals-back w.visible v.visible r.registers e f))

pub push-called : (w v : Window) (x : ℕ) → IsRing w → push_overfills (windowed w) x ≡ false → spilled_by (Push x) w ≡ 0 → windowed v ≡ pushed (windowed w) x → TakesBack (call_noted (Push x) w) v w
unfolding pushed octa_noted
push-called w v x r o z e = called-back (Push x) w v r (push-back w v x r o e) z refl (ap (λ s. (visible s).first_global) e) (ap (λ s. (visible s).globals) e)

pub pop-called : (w v : Window) (x : ℕ) → IsRing w → pop_underflows (windowed w) ≡ false → windowed v ≡ popped (windowed w) x → TakesBack (call_noted (Pop x) w) v w
unfolding popped spilled_by octa_noted
pop-called w v x r o e = called-back (Pop x) w v r (pop-back w v x r o e) refl refl (ap (λ s. (visible s).first_global) e) (ap (λ s. (visible s).globals) e)

-- FOR THE CODE

-- eight registers, of which the local ones are the first
pub locals-first : (v : Registers) (octas eight : List ℕ) → length v.locals ≤ 8 → octas ≡ registers_below v 8 → eight ≡ octas → take (length v.locals) eight ≡ v.locals
locals-first v octas eight f e g =
    let zs : List ℕ = replicate (8 - length v.locals) 0 in
    ap (take (length v.locals)) (g ∙ e) ∙ ap (λ xs. take (length v.locals) (xs ++ zs)) (take_all 8 v.locals f) ∙ take_at v.locals zs (length v.locals) refl

-- eight octas, of which the hidden ones after those that stay are the first
pub residents-first : (h : HiddenPart) (some eight : List ℕ) (stays from : ℕ) → Fits h (2 ^ 20) → stays ≤ length h.resident → length h.resident ≤ stays + 8 → from ≡ h.spilled + stays →
    ((k : ℕ) → k ≤ 8 → from + k ≤ length (octas_of h) → take k some ≡ take k (drop from (octas_of h))) → eight ≡ some →
    take (length h.resident - stays) eight ≡ drop stays h.resident
residents-first h some eight stays from f low few at g e =
    let n : ℕ = length h.resident - stays in
    let all : length (octas_of h) ≡ h.spilled + length h.resident = length-octas h (2 ^ 20) f in
    let size : length (take h.spilled h.stack) ≡ h.spilled = length-take-le h.spilled h.stack (spilled-below h (2 ^ 20) f) in
    let rest : drop from (octas_of h) ≡ drop stays h.resident =
    ap (λ m. drop m (octas_of h)) (at ∙ ap (λ m. m + stays) (sym size)) ∙ drop-append-add (take h.spilled h.stack) h.resident stays in
    ap (take n) e ∙ g n (omega arith) (omega (arith, all, at, low)) ∙ ap (take n) rest ∙ take_all n (drop stays h.resident) (omega (arith, length-drop stays h.resident))

-- the parts of a note
pub called-is : (w : Window) (stays l spilled count : ℕ) (locals gone : List ℕ) → l ≡ length w.visible.locals → take (length w.visible.locals) locals ≡ w.visible.locals → spilled ≡ w.hidden.spilled → count ≡ length w.hidden.resident - stays →
    take (length w.hidden.resident - stays) gone ≡ drop stays w.hidden.resident →
    record { registers = local (take l locals); spilled = spilled; over = []; stays = stays; gone = take count gone; octa = None } ≡ called_with stays w
called-is w stays l spilled count locals gone a b c d e =
    let shown : take l locals ≡ w.visible.locals = ap (λ n. take n locals) a ∙ b in
    let left : take count gone ≡ drop stays w.hidden.resident = ap (λ n. take n gone) d ∙ e in
    λ i. record { registers = local (shown i); spilled = c i; over = []; stays = stays; gone = left i; octa = None }

above-none : (count size : ℕ) → count < size → above_room count size ≡ 0
above-none count size f = grind (arith, nat_tests)

-- PUSHJ of a small register spills nothing where few registers are local and hidden
pub push-unspilled : (w : Window) (x : ℕ) → IsRing w → x < 8 → length w.visible.locals ≤ 8 → length w.hidden.resident + 8 ≤ 255 → spilled_by (Push x) w ≡ 0
unfolding spilled_by
push-unspilled w x r f l room =
    let below : x < w.visible.first_global = omega (arith, f, r.registers.least_global) in
    let number : push_number w.visible x ≡ x = grind (arith, nat_tests) in
    ap (push_spills w) number ∙ above-none (length w.hidden.resident + (x + 1) + (length w.visible.locals - (x + 1))) w.size (omega (arith, f, l, room, r.least_size))

pub push-stays : (w : Window) (x count spilled : ℕ) → count ≡ w.hidden.spilled + length w.hidden.resident → spilled ≡ w.hidden.spilled → called_with (count - spilled) w ≡ call_noted (Push x) w
unfolding call_noted staying
push-stays w x count spilled e f = let all : count - spilled ≡ length w.hidden.resident = omega (arith, e, f) in ap (λ n. called_with n w) all

pub pop-low : (w : Window) (stays : ℕ) → IsRing w → stays ≡ length (octas_of w.hidden) - (hole_in (octas_of w.hidden) + 1) - w.hidden.spilled → stays ≤ length w.hidden.resident
pop-low w stays r e = omega (arith, e, length-octas w.hidden (2 ^ 20) (fits-of w r))

pub pop-stays : (w : Window) (x stays : ℕ) (o : Option RingWas) → stays ≡ length (octas_of w.hidden) - (hole_in (octas_of w.hidden) + 1) - w.hidden.spilled → IfSome o (λ n. n ≡ called_with stays w) → IfSome o (λ n. n ≡ call_noted (Pop x) w)
unfolding call_noted staying
pop-stays w x stays o e h = subst (λ m. IfSome o (λ n. n ≡ called_with m w)) e h
