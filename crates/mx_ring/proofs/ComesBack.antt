-- UNSAVE brings back what SAVE has hidden.
use Rattle.std.proofs.Common.{◌≡◌, ℕ, ◌+◌, ◌^◌, ◌≤◌, ◌<◌, Bool, true, false, not, ◌||◌, List, ◌++◌, length, take, arith, refl, sym, ◌∙◌, ap}
use Rattle.std.proofs.lemmas.Bool.Decides.{nat_tests}
use Rattle.std.proofs.lemmas.List.{append_assoc, append-nil, length-append, take_at, take_all, take-take}
use Rattle.mx_ring.proofs.Frames.{IsFrame, frame-read}
use Rattle.mx_ring.proofs.Lists.{room-left, save-room}
use Rattle.mx_registers.proofs.Octas.{length-octas, spilled-below}
use Rattle.mx_ring.proofs.Rings.{fits-of, length-frame}
use Rattle.mx_registers.proofs.Spilled.{take-with_part}
use Rattle.mx_word.specs.Lists.{with_part}
use Rattle.mx_registers.specs.Bounds.{AreInBounds}
use Rattle.mx_ring.specs.Bounds.{IsRing}
use Rattle.mx_ring.specs.Frames.{frame, frame_length, frame_registers, is_bad_frame}
use Rattle.mx_registers.specs.HiddenPart.{octas_of, with_spilled}
use Rattle.mx_ring.specs.Kept.{KeepsFrame}
use Rattle.mx_ring.specs.RegisterList.{RegisterList}
use Rattle.mx_registers.specs.Registers.{Registers}
use Rattle.mx_ring.specs.Stack.{Stack, listed, windowed, as_listed, visible, hidden_octas, save_overfills, saved, frame_top, stack_address, stack_index, in_stack_area, octas_to, with_read_back, unsave_refused, unsaved_specials, unsaved}
use Rattle.mx_ring.specs.Window.{Window, as_list}
use Rattle.mx_ring.specs.declared.saved.Saved.{Saved}

-- the address of an octa of the stack area
area-address : (i : ℕ) → i < 2 ^ 20 → in_stack_area (stack_address i) ≡ true
area-address i f = grind (arith, nat_tests)

address-index : (i : ℕ) → stack_index (stack_address i) ≡ i
address-index i = omega arith

good-frame : (now : Stack) (i : ℕ) → i < 2 ^ 20 → is_bad_frame (octas_to now i) i ≡ false → unsave_refused now (stack_address i) ≡ false
unfolding unsave_refused
good-frame now i f e =
    ap (λ (b : Bool). not b || is_bad_frame (octas_to now (stack_index (stack_address i))) (stack_index (stack_address i))) (area-address i f) ∙ ap (λ n. is_bad_frame (octas_to now n) n) (address-index i) ∙ e

-- a frame above what was hidden
kept : (old now : Stack) (s : Saved) → AreInBounds (visible old) → s.a < 2 ^ 18 → frame_top old < 2 ^ 20 → octas_to now (frame_top old) ≡ hidden_octas old ++ frame (visible old) s → frame_top old + 1 ≡ length (octas_to now (frame_top old)) → as_listed (with_read_back now (length (hidden_octas old)) (visible old)) ≡ as_listed old → KeepsFrame old now s
unfolding unsaved unsaved_specials
kept old now s b fa f eo ei back =
    let i : ℕ = frame_top old in
    let read : IsFrame (octas_to now i) i (length (hidden_octas old)) (visible old) s = frame-read (hidden_octas old) (visible old) s (octas_to now i) i b fa eo ei in
    record {
      is_frame = good-frame now i f read.is_good;
      gives_registers = ap (λ n. as_listed (with_read_back now n (frame_registers (octas_to now i) i))) read.bottom ∙ ap (λ (v : Registers). as_listed (with_read_back now (length (hidden_octas old)) v)) read.registers ∙ back;
      gives_specials = read.specials;
    }

pub window-kept : (w : Window) (x : ℕ) (s : Saved) → IsRing w → s.a < 2 ^ 18 → save_overfills (windowed w) ≡ false → KeepsFrame (windowed w) (saved (windowed w) x s) s
unfolding saved with_spilled as_list
window-kept w x s r fa o =
    let i : ℕ = frame_top (windowed w) in
    let below : List ℕ = take w.hidden.spilled w.hidden.stack in
    let octas : List ℕ = octas_of w.hidden in
    let top : List ℕ = frame w.visible s in
    let all : List ℕ = w.hidden.resident ++ top in
    let stack : List ℕ = with_part w.hidden.stack w.hidden.spilled (take (length all) all) in
    let size : length top ≡ frame_length w.visible.first_global (length w.visible.locals) = length-frame w.visible s r.registers in
    let room : length octas + frame_length w.visible.first_global (length w.visible.locals) ≤ 2 ^ 20 = save-room w o in
    let count : length octas ≡ w.hidden.spilled + length w.hidden.resident = length-octas w.hidden (2 ^ 20) (fits-of w r) in
    let more : length all ≡ length w.hidden.resident + length top = length-append w.hidden.resident top in
    let place : i + 1 ≡ w.hidden.spilled + length all = omega (arith, r.registers.one_is_global) in
    let whole : take (length all) all ≡ all = take_all (length all) all (omega arith) in
    let read : take (i + 1) stack ≡ octas ++ top =
    ap (λ n. take n stack) place ∙ ap (λ (ys : List ℕ). take (w.hidden.spilled + length all) (with_part w.hidden.stack w.hidden.spilled ys)) whole ∙ take-with_part w.hidden.stack all w.hidden.spilled (length all) (spilled-below w.hidden (2 ^ 20) (fits-of w r)) refl ∙ sym (append_assoc below w.hidden.resident top) in
    let end : i + 1 ≡ length (take (i + 1) stack) = sym (ap length read ∙ length-append octas top ∙ omega (arith, r.registers.one_is_global)) in
    let rest : take (length octas) stack ≡ octas =
    sym (take-take (length octas) (i + 1) stack (omega (arith, r.registers.one_is_global))) ∙ ap (take (length octas)) read ∙ take_at octas top (length octas) refl in
    kept (windowed w) (saved (windowed w) x s) s r.registers fa (omega (arith, r.registers.one_is_global)) read end (ap (λ (os : List ℕ). listed (record { hidden = os; visible = w.visible })) (append-nil (take (length octas) stack) ∙ rest))

pub list-kept : (l : RegisterList) (x : ℕ) (s : Saved) → AreInBounds l.visible → s.a < 2 ^ 18 → save_overfills (listed l) ≡ false → KeepsFrame (listed l) (saved (listed l) x s) s
unfolding saved save_overfills
list-kept l x s b fa o =
    let i : ℕ = frame_top (listed l) in
    let top : List ℕ = frame l.visible s in
    let size : length top ≡ frame_length l.visible.first_global (length l.visible.locals) = length-frame l.visible s b in
    let room : length l.hidden + frame_length l.visible.first_global (length l.visible.locals) ≤ 2 ^ 20 = room-left (length l.hidden + frame_length l.visible.first_global (length l.visible.locals)) o in
    let place : i + 1 ≡ length (l.hidden ++ top) = sym (length-append l.hidden top ∙ omega (arith, b.one_is_global)) in
    let read : take (i + 1) (l.hidden ++ top) ≡ l.hidden ++ top = take_all (i + 1) (l.hidden ++ top) (omega arith) in
    kept (listed l) (saved (listed l) x s) s b fa (omega (arith, b.one_is_global)) read (place ∙ ap length (sym read)) (ap (λ (os : List ℕ). listed (record { hidden = os; visible = l.visible })) (take_at l.hidden top (length l.hidden) refl))
