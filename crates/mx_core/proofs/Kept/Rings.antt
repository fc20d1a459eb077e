-- Each operation on a register stack that is a ring: it stays a ring, and the list that it represents does the same.
use Rattle.std.proofs.Common.{◌≡◌, ℕ, ◌+◌, ◌^◌, ◌≤◌, ◌<◌, ◌&&◌, ◌||◌, not, Bool, true, false, length, min, arith, refl, sym, ◌∙◌, ap, ⊎_elim}
use Rattle.std.proofs.lemmas.Bool.{cases_lt}
use Rattle.std.proofs.lemmas.Bool.Decides.{nat_tests}
use Rattle.mx_ring.proofs.Keeps.{set-keeps, cut-keeps, globals-keeps, push-keeps, pop-keeps, save-keeps, octa-keeps, unsave-keeps, set-spills, push-spills, pop-spills, save-spills, unsave-spills}
use Rattle.mx_ring.proofs.Lists.{register-list, cut-list, globals-list, pushed-list, popped-list, refused-list, specials-list, saved-list, unsaved-list}
use Rattle.mx_registers.proofs.Values.{locals-kept, locals-grown}
use Rattle.mx_ring.specs.Bounds.{IsRing}
use Rattle.mx_ring.specs.Frames.{is_bad_frame}
use Rattle.mx_registers.specs.Registers.{Registers, is_marginal, with_value}
use Rattle.mx_ring.specs.Stack.{Stack, listed, windowed, as_listed, visible, local_count, hidden_count, spilled_count, is_too_many, set_overfills, with_register, cut_to, with_global_start, push_overfills, pushed, pop_underflows, popped, save_overfills, saved, octas_to, unsaved, stack_octa, with_stack_octa, in_stack_area, stack_index, unsave_refused, unsaved_specials}
use Rattle.mx_ring.specs.Window.{Window}
use Rattle.mx_ring.specs.declared.saved.Saved.{Saved}
use Rattle.mx_core.proofs.Choices.{chosen}

abbrev pub IsRinged : Stack → Type 0
IsRinged (listed r) = ⊥
IsRinged (windowed w) = IsRing w

abbrev is_window : Stack → Bool
is_window (listed r) = false
is_window (windowed w) = true

ringed : (z : Stack) → is_window z ≡ true → ((v : Window) → windowed v ≡ z → IsRing v) → IsRinged z
ringed (listed r) e h = absurd (cc)
ringed (windowed v) e h = h v refl

-- RINGS STAY RINGS

set-window : (w : Window) (k x : ℕ) → is_window (with_register (windowed w) k x) ≡ true
unfolding with_register
set-window w k x = chosen (λ (z : Stack). is_window z ≡ true) (is_marginal w.visible k) _ _ refl refl

pub set-ringed : (z : Stack) (k x : ℕ) → IsRinged z → set_overfills z k ≡ false → IsRinged (with_register z k x)
set-ringed (listed l) k x r o = absurd r
set-ringed (windowed w) k x r o = ringed _ (set-window w k x) (set-keeps w k x r o)

pub cut-ringed : (z : Stack) (l : ℕ) → IsRinged z → l ≤ local_count z → IsRinged (cut_to z l)
unfolding cut_to
cut-ringed (listed r) l g f = absurd g
cut-ringed (windowed w) l g f = cut-keeps w l g f _ refl

pub globals-ringed : (z : Stack) (g : ℕ) → IsRinged z → local_count z ≤ g → 32 ≤ g → g ≤ 255 → IsRinged (with_global_start z g)
unfolding with_global_start
globals-ringed (listed l) g r f a b = absurd r
globals-ringed (windowed w) g r f a b = globals-keeps w g r f a b _ refl

pub push-ringed : (z : Stack) (x : ℕ) → IsRinged z → push_overfills z x ≡ false → IsRinged (pushed z x)
unfolding pushed
push-ringed (listed l) x r o = absurd r
push-ringed (windowed w) x r o = push-keeps w x r o _ refl

pub pop-ringed : (z : Stack) (x : ℕ) → IsRinged z → pop_underflows z ≡ false → IsRinged (popped z x)
unfolding popped
pop-ringed (listed l) x r o = absurd r
pop-ringed (windowed w) x r o = pop-keeps w x r o _ refl

pub save-ringed : (z : Stack) (x : ℕ) (s : Saved) → IsRinged z → (visible z).first_global ≤ x → save_overfills z ≡ false → IsRinged (saved z x s)
unfolding saved
save-ringed (listed l) x s r g o = absurd r
save-ringed (windowed w) x s r g o = save-keeps w x s r g o _ refl

pub unsave-ringed : (z : Stack) (i : ℕ) → IsRinged z → i < 2 ^ 20 → stack_octa z i < 2 ^ 64 → is_bad_frame (octas_to z i) i ≡ false → IsRinged (unsaved z i)
unfolding unsaved
unsave-ringed (listed l) i r f o b = absurd r
unsave-ringed (windowed w) i r f o b = unsave-keeps w i r f o b _ refl

pub octa-ringed : (z : Stack) (i x : ℕ) → IsRinged z → IsRinged (with_stack_octa z i x)
unfolding with_stack_octa
octa-ringed (listed l) i x r = absurd r
octa-ringed (windowed w) i x r = octa-keeps w i x r _ refl

-- LISTS DO THE SAME

pub set-listed : (z : Stack) (k x : ℕ) → IsRinged z → with_register (as_listed z) k x ≡ as_listed (with_register z k x)
set-listed (listed l) k x r = absurd r
set-listed (windowed w) k x r = sym (register-list w k x r)

pub cut-listed : (z : Stack) (l : ℕ) → IsRinged z → cut_to (as_listed z) l ≡ as_listed (cut_to z l)
cut-listed (listed r) l g = absurd g
cut-listed (windowed w) l g = sym (cut-list w l)

pub globals-listed : (z : Stack) (g : ℕ) → IsRinged z → with_global_start (as_listed z) g ≡ as_listed (with_global_start z g)
globals-listed (listed l) g r = absurd r
globals-listed (windowed w) g r = sym (globals-list w g)

pub push-listed : (z : Stack) (x : ℕ) → IsRinged z → push_overfills z x ≡ false → pushed (as_listed z) x ≡ as_listed (pushed z x)
push-listed (listed l) x r o = absurd r
push-listed (windowed w) x r o = sym (pushed-list w x r o)

pub pop-listed : (z : Stack) (x : ℕ) → IsRinged z → popped (as_listed z) x ≡ as_listed (popped z x)
pop-listed (listed l) x r = absurd r
pop-listed (windowed w) x r = sym (popped-list w x r)

pub save-listed : (z : Stack) (x : ℕ) (s : Saved) → IsRinged z → save_overfills z ≡ false → saved (as_listed z) x s ≡ as_listed (saved z x s)
save-listed (listed l) x s r o = absurd r
save-listed (windowed w) x s r o = sym (saved-list w x s r o)

pub unsave-listed : (z : Stack) (i : ℕ) → IsRinged z → i < spilled_count z → unsaved (as_listed z) i ≡ as_listed (unsaved z i)
unsave-listed (listed l) i r f = absurd r
unsave-listed (windowed w) i r f = sym (unsaved-list w i r f)

-- SPILLED OCTAS

pub set-spilled : (z : Stack) (k x : ℕ) → IsRinged z → spilled_count z ≤ spilled_count (with_register z k x)
set-spilled (listed l) k x r = absurd r
set-spilled (windowed w) k x r = set-spills w k x

pub push-spilled : (z : Stack) (x : ℕ) → IsRinged z → spilled_count z ≤ spilled_count (pushed z x)
push-spilled (listed l) x r = absurd r
push-spilled (windowed w) x r = push-spills w x

pub pop-spilled : (z : Stack) (x m : ℕ) → IsRinged z → m ≤ spilled_count z → min m (hidden_count (popped z x)) ≤ spilled_count (popped z x)
pop-spilled (listed l) x m r f = absurd r
pop-spilled (windowed w) x m r f = omega (arith, pop-spills w x r)

pub save-spilled : (z : Stack) (x : ℕ) (s : Saved) → IsRinged z → save_overfills z ≡ false → hidden_count (saved z x s) ≤ spilled_count (saved z x s)
save-spilled (listed l) x s r o = absurd r
save-spilled (windowed w) x s r o = omega (arith, save-spills w x s r o)

pub unsave-spilled : (z : Stack) (i : ℕ) → IsRinged z → i < 2 ^ 20 → hidden_count (unsaved z i) ≤ spilled_count (unsaved z i)
unsave-spilled (listed l) i r f = absurd r
unsave-spilled (windowed w) i r f = omega (arith, unsave-spills w i r f)

pub cut-spilled : (z : Stack) (l : ℕ) → spilled_count (cut_to z l) ≡ spilled_count z
unfolding cut_to
cut-spilled (listed r) l = refl
cut-spilled (windowed w) l = refl

pub globals-spilled : (z : Stack) (g : ℕ) → spilled_count (with_global_start z g) ≡ spilled_count z
unfolding with_global_start
globals-spilled (listed r) g = refl
globals-spilled (windowed w) g = refl

pub octa-spilled : (z : Stack) (i x : ℕ) → spilled_count (with_stack_octa z i x) ≡ spilled_count z
unfolding with_stack_octa
octa-spilled (listed r) i x = refl
octa-spilled (windowed w) i x = refl

-- ROOM

value-global : (v : Registers) (k x : ℕ) → (with_value v k x).first_global ≡ v.first_global
unfolding with_value
value-global v k x = grind (arith, nat_tests)

pub not-marginal : (v : Registers) (k x : ℕ) → is_marginal (with_value v k x) k ≡ false
not-marginal v k x = ⊎_elim (λ f. ⊎_elim (λ g. local f g) (λ g. marginal f g) (cases_lt k (length v.locals))) (λ f. global f) (cases_lt k v.first_global)
  where
    global : v.first_global ≤ k → is_marginal (with_value v k x) k ≡ false
    global f = let e : (with_value v k x).first_global ≡ v.first_global = value-global v k x in grind (arith, nat_tests)

    local : k < v.first_global → k < length v.locals → is_marginal (with_value v k x) k ≡ false
    local f g = let e : length (with_value v k x).locals ≡ length v.locals = locals-kept v k x (λ h. g) in grind (arith, nat_tests)

    marginal : k < v.first_global → length v.locals ≤ k → is_marginal (with_value v k x) k ≡ false
    marginal f g = let e : length (with_value v k x).locals ≡ k + 1 = locals-grown v k x f g in grind (arith, nat_tests)

pub visible-value : (z : Stack) (k x : ℕ) → visible (with_register z k x) ≡ with_value (visible z) k x
unfolding with_register
visible-value (listed l) k x = chosen (λ (y : Stack). visible y ≡ with_value l.visible k x) (is_marginal l.visible k) _ _ refl refl
visible-value (windowed w) k x = chosen (λ (y : Stack). visible y ≡ with_value w.visible k x) (is_marginal w.visible k) _ _ refl refl

-- a register that is not marginal never overfills the stack
pub room-for : (z : Stack) (k : ℕ) → is_marginal (visible z) k ≡ false → set_overfills z k ≡ false
unfolding set_overfills
room-for z k e = ap (λ (b : Bool). b && is_too_many (hidden_count z + (k + 1))) e

pub room-again : (z : Stack) (k x : ℕ) → set_overfills (with_register z k x) k ≡ false
room-again z k x = room-for (with_register z k x) k (ap (λ (v : Registers). is_marginal v k) (visible-value z k x) ∙ not-marginal (visible z) k x)

pub room-global : (z : Stack) → IsRinged z → set_overfills z 255 ≡ false
room-global (listed l) r = absurd r
room-global (windowed w) r = room-for (windowed w) 255 (let f : w.visible.first_global ≤ 255 = r.registers.one_is_global in grind (arith, nat_tests))

-- UNSAVE IN THE LIST

pub refused-listed : (z : Stack) (a : ℕ) → IsRinged z → (in_stack_area a ≡ true → stack_index a < spilled_count z) → unsave_refused (as_listed z) a ≡ unsave_refused z a
refused-listed (listed l) a r f = absurd r
refused-listed (windowed w) a r f = refused-list w a r f

pub frame-listed : (z : Stack) (i : ℕ) → IsRinged z → i < spilled_count z → unsaved_specials (as_listed z) i ≡ unsaved_specials z i
frame-listed (listed l) i r f = absurd r
frame-listed (windowed w) i r f = specials-list w i r f

pub area-of-frame : (z : Stack) (a : ℕ) → unsave_refused z a ≡ false → in_stack_area a ≡ true
unfolding unsave_refused
area-of-frame z a e = first-of (in_stack_area a) _ e
  where
    first-of : (b c : Bool) → (not b || c) ≡ false → b ≡ true
    first-of true c e = refl
    first-of false c e = absurd (cc)
