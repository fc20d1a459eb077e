-- Saved frames stay spilled, as long as nothing is touched: what each operation on the register stack does to the
-- number of spilled octas.
use Rattle.std.proofs.Common.{◌≡◌, ◌≤◌, ◌<◌, ◌^◌, ℕ, ◌||◌, min, Bool, true, false, cond, length, ◌%◌, Ok, Err, refl, sym, subst, ap, arith}
use Rattle.std.specs.Prelude.{Result, OnOk, OnErr, not}
use Rattle.std.proofs.lemmas.Bool.Decides.{nat_tests}
use Rattle.mx_mem.specs.Memory.{page_count}
use Rattle.mx_ring.proofs.Keeps.{set-spills, push-spills, pop-spills, save-spills, unsave-spills}
use Rattle.mx_ring.specs.Bounds.{IsRing}
use Rattle.mx_ring.specs.Calls.{unsave_answer}
use Rattle.mx_ring.specs.Frames.{is_bad_frame}
use Rattle.mx_ring.specs.Stack.{Stack, windowed, hidden_count, spilled_count, with_register, cut_to, with_global_start, pushed, popped, save_overfills, saved, in_stack_area, stack_index, octas_to, unsave_refused, unsaved_specials, unsaved, with_stack_octa}
use Rattle.mx_ring.specs.Window.{Window}
use Rattle.mx_registers.specs.declared.fault.RingFault.TheVariants.{BadFrame}
use Rattle.mx_ring.specs.declared.saved.Saved.{Saved}
use Rattle.mx_core.specs.Bounds.{IsMachine}
use Rattle.mx_core.specs.Kept.{Kept, state_of}
use Rattle.mx_core.proofs.Kept.Rings.{cut-spilled, globals-spilled, octa-spilled}

spilled-as : (w : Window) (z : Stack) → windowed w ≡ z → w.hidden.spilled ≡ spilled_count z
spilled-as w z e = ap spilled_count e

-- WHAT NEVER LOWERS IT

pub set_marks : (old new : Window) (k x mark : ℕ) → windowed new ≡ with_register (windowed old) k x → mark ≤ old.hidden.spilled → mark ≤ new.hidden.spilled
set_marks old new k x mark e h = omega (arith, h, set-spills old k x, spilled-as new (with_register (windowed old) k x) e)

pub push_marks : (old new : Window) (x mark : ℕ) → windowed new ≡ pushed (windowed old) x → mark ≤ old.hidden.spilled → mark ≤ new.hidden.spilled
push_marks old new x mark e h = omega (arith, h, push-spills old x, spilled-as new (pushed (windowed old) x) e)

pub cut_marks : (old new : Window) (l mark : ℕ) → windowed new ≡ cut_to (windowed old) l → mark ≤ old.hidden.spilled → mark ≤ new.hidden.spilled
cut_marks old new l mark e h = omega (arith, h, cut-spilled (windowed old) l, spilled-as new (cut_to (windowed old) l) e)

pub globals_marks : (old new : Window) (g mark : ℕ) → windowed new ≡ with_global_start (windowed old) g → mark ≤ old.hidden.spilled → mark ≤ new.hidden.spilled
globals_marks old new g mark e h = omega (arith, h, globals-spilled (windowed old) g, spilled-as new (with_global_start (windowed old) g) e)

pub octa_marks : (old new : Window) (i x mark : ℕ) → windowed new ≡ with_stack_octa (windowed old) i x → mark ≤ old.hidden.spilled → mark ≤ new.hidden.spilled
octa_marks old new i x mark e h = omega (arith, h, octa-spilled (windowed old) i x, spilled-as new (with_stack_octa (windowed old) i x) e)

-- the same where an operation may be refused
pub set_keeps : {E : Type 0} (r : Result (Unit {0}) E) (old new : Window) (k x mark : ℕ) → OnOk r (windowed new ≡ with_register (windowed old) k x) → OnErr r (new ≡ old) → mark ≤ old.hidden.spilled → mark ≤ new.hidden.spilled
set_keeps (Ok u) old new k x mark made kept h = set_marks old new k x mark made h
set_keeps (Err e) old new k x mark made kept h = subst (λ (w : Window). mark ≤ w.hidden.spilled) (sym kept) h

pub push_keeps : {E : Type 0} (r : Result (Unit {0}) E) (old new : Window) (x mark : ℕ) → OnOk r (windowed new ≡ pushed (windowed old) x) → OnErr r (new ≡ old) → mark ≤ old.hidden.spilled → mark ≤ new.hidden.spilled
push_keeps (Ok u) old new x mark made kept h = push_marks old new x mark made h
push_keeps (Err e) old new x mark made kept h = subst (λ (w : Window). mark ≤ w.hidden.spilled) (sym kept) h

-- POP, SAVE AND UNSAVE

pub pop_marks : (old new : Window) (x mark n : ℕ) → IsRing old → windowed new ≡ popped (windowed old) x → n ≡ hidden_count (windowed new) → mark ≤ old.hidden.spilled → min mark n ≤ new.hidden.spilled
pop_marks old new x mark n r e f h =
    let hidden : n ≡ hidden_count (popped (windowed old) x) = subst (λ (z : Stack). n ≡ hidden_count z) e f in
    omega (arith, h, pop-spills old x r, hidden, spilled-as new (popped (windowed old) x) e)

pub save_marks : (old new : Window) (x n : ℕ) (s : Saved) → IsRing old → save_overfills (windowed old) ≡ false → windowed new ≡ saved (windowed old) x s → n ≡ hidden_count (windowed new) → n ≤ new.hidden.spilled
save_marks old new x n s r o e f =
    let hidden : n ≡ hidden_count (saved (windowed old) x s) = subst (λ (z : Stack). n ≡ hidden_count z) e f in
    omega (arith, save-spills old x s r o, hidden, spilled-as new (saved (windowed old) x s) e)

pub unsave_marks : (old new : Window) (i n : ℕ) → IsRing old → i < 2 ^ 20 → windowed new ≡ unsaved (windowed old) i → n ≡ hidden_count (windowed new) → n ≤ new.hidden.spilled
unsave_marks old new i n r b e f =
    let hidden : n ≡ hidden_count (unsaved (windowed old) i) = subst (λ (z : Stack). n ≡ hidden_count z) e f in
    omega (arith, unsave-spills old i r b, hidden, spilled-as new (unsaved (windowed old) i) e)

-- a frame that is not refused lies in the stack area
frame-inside : (a : ℕ) (b c : Bool) (f g : Saved) → in_stack_area a ≡ b → Ok f ≡ cond (not b || c) (Err BadFrame) (Ok g) → stack_index a < 2 ^ 20
frame-inside a true c f g i e = grind (arith, nat_tests)
frame-inside a false c f g i e = absurd (cc)

pub frame_inside : (z : Stack) (a : ℕ) (f : Saved) → Ok f ≡ unsave_answer z a → stack_index a < 2 ^ 20
unfolding unsave_refused
frame_inside z a f e = frame-inside a (in_stack_area a) (is_bad_frame (octas_to z (stack_index a)) (stack_index a)) f (unsaved_specials z (stack_index a)) refl e

-- WHAT HOLDS OF EVERY MACHINE

pub machine_kept : (k : Kept) → IsRing k.ring → page_count k.memory ≤ 65536 → length k.special ≡ 32 → k.pc % 4 ≡ 0 → (k.touched ≡ false → k.mark ≤ k.ring.hidden.spilled) → IsMachine (state_of k) k.ring
unfolding state_of
machine_kept k r p n a m = record { over = refl; ring = r; frames_are_spilled = m; pages = p; specials = n; address = a }
