-- Where there is nothing, 0 is shown.
use Rattle.std.proofs.Common.{◌≡◌, ◌≢◌, ◌≤◌, ◌<◌, ℕ, ◌-◌, ◌*◌, ◌^◌, ◌==◌, ◌||◌, nat_le, nat_lt, Bool, true, false, cond, length, arith, refl, sym, subst, ◌∙◌, ap}
use Rattle.std.proofs.lemmas.Bool.{cond_both}
use Rattle.std.proofs.lemmas.Bool.Decides.{nat_tests}
use Rattle.std.proofs.lemmas.List.{get_or_past}
use Rattle.mx_registers.specs.Bounds.{AreInBounds}
use Rattle.mx_registers.specs.Registers.{Registers, value_of}
use Rattle.mx_ring.specs.Stack.{visible, register, in_stack_area, stack_octa, stack_index}
use Rattle.mx_ring.specs.Window.{Window}
use Rattle.mx_code.specs.SpecialRegisters.{rC, rO, rS, rG, rL}
use Rattle.mx_core.specs.Bounds.{IsMachine}
use Rattle.mx_core.specs.State.{State, special_register, global_start, octa}
use Rattle.mx_record.specs.Pictures.{global_shown, octa_shown, special_shown}

-- SPECIAL REGISTERS

register-beyond : (s : State) (q : ℕ) → length s.special ≡ 32 → 32 ≤ q → special_register s q ≡ 0
unfolding special_register
register-beyond s q h l =
    cond_both (q == rC) _ _ (λ x. x ≡ 0) (λ e. absurd (grind (arith, nat_tests))) (λ _.
    cond_both (q == rO) _ _ (λ x. x ≡ 0) (λ e. absurd (grind (arith, nat_tests))) (λ _.
    cond_both (q == rS) _ _ (λ x. x ≡ 0) (λ e. absurd (grind (arith, nat_tests))) (λ _.
    cond_both (q == rG) _ _ (λ x. x ≡ 0) (λ e. absurd (grind (arith, nat_tests))) (λ _.
    cond_both (q == rL) _ _ (λ x. x ≡ 0) (λ e. absurd (grind (arith, nat_tests))) (λ _.
    get_or_past s.special q 0 (omega (arith, h, l)))))))

pub special-beyond : (s : State) (w : Window) (q : ℕ) → IsMachine s w → 32 ≤ q → special_shown s q ≡ 0
special-beyond s w q m l = cond_both (q == rC) 0 (special_register s q) (λ x. x ≡ 0) (λ _. refl) (λ _. register-beyond s q m.specials l)

pub specials-beyond : (s t : State) (v w : Window) (q : ℕ) → IsMachine s v → IsMachine t w → 32 ≤ q → special_shown s q ≡ special_shown t q
specials-beyond s t v w q m n l = special-beyond s v q m l ∙ sym (special-beyond t w q n l)

-- GLOBAL REGISTERS

value-beyond : (v : Registers) (q : ℕ) → AreInBounds v → 256 ≤ q → value_of v q ≡ 0
unfolding value_of
value-beyond v q b l =
    cond_both (nat_le v.first_global q) _ _ (λ x. x ≡ 0) (λ _. get_or_past v.globals (q - v.first_global) 0 (omega (arith, b.all_globals, l))) (λ e. absurd (let g = b.one_is_global in grind (arith, nat_tests)))

in-bounds : (s : State) (w : Window) → IsMachine s w → AreInBounds (visible s.stack)
in-bounds s w m = subst (λ z. AreInBounds (visible z)) (sym m.over) m.ring.registers

pub global-beyond : (s : State) (w : Window) (q : ℕ) → IsMachine s w → 256 ≤ q → global_shown s q ≡ 0
unfolding register
global-beyond s w q m l = cond_both (nat_lt q (global_start s)) 0 (register s.stack q) (λ x. x ≡ 0) (λ _. refl) (λ _. value-beyond (visible s.stack) q (in-bounds s w m) l)

pub globals-beyond : (s t : State) (v w : Window) (q : ℕ) → IsMachine s v → IsMachine t w → 256 ≤ q → global_shown s q ≡ global_shown t q
globals-beyond s t v w q m n l = global-beyond s v q m l ∙ sym (global-beyond t w q n l)

global-below : (s : State) (q : ℕ) → q < global_start s → global_shown s q ≡ 0
global-below s q l = cond_both (nat_lt q (global_start s)) 0 (register s.stack q) (λ x. x ≡ 0) (λ _. refl) (λ e. absurd (grind (arith, nat_tests)))

pub globals-below : (s t : State) (q : ℕ) → q < global_start s → q < global_start t → global_shown s q ≡ global_shown t q
globals-below s t q l m = global-below s q l ∙ sym (global-below t q m)

-- OCTAS

pub octa-is : (s : State) (a : ℕ) → in_stack_area a ≡ false → octa s a ≡ s.octas a
unfolding octa
octa-is s a e = ap (λ (b : Bool). cond b (stack_octa s.stack (stack_index a)) (s.octas a)) e

or-second : (b c : Bool) → (b || c) ≡ false → c ≡ false
or-second true c e = absurd (cc)
or-second false c e = e

-- where the octa is 0, and beyond the last one
pub octa-zero : (s : State) (n : ℕ) → octa s (8 * n) ≡ 0 → octa_shown s n ≡ 0
octa-zero s n e = cond_both (nat_le (2 ^ 60) n || in_stack_area (8 * n)) 0 (s.octas (8 * n)) (λ x. x ≡ 0) (λ _. refl) (λ f. sym (octa-is s (8 * n) (or-second _ _ f)) ∙ e)

pub octa-beyond : (s : State) (n : ℕ) → 2 ^ 60 ≤ n → octa_shown s n ≡ 0
octa-beyond s n l = cond_both (nat_le (2 ^ 60) n || in_stack_area (8 * n)) 0 (s.octas (8 * n)) (λ x. x ≡ 0) (λ _. refl) (λ f. absurd (grind (arith, nat_tests)))

-- an octa that is not 0 is shown as 0 in the stack area alone, and so in each state
pub octa-hidden : (s t : State) (n : ℕ) → octa s (8 * n) ≢ 0 → octa_shown s n ≡ 0 → octa_shown t n ≡ 0
octa-hidden s t n ne e =
    cond_both (nat_le (2 ^ 60) n || in_stack_area (8 * n)) 0 (t.octas (8 * n)) (λ x. x ≡ 0) (λ _. refl)
    (λ f. absurd (ne (octa-is s (8 * n) (or-second _ _ f) ∙ sym (ap (λ b. cond b 0 (s.octas (8 * n))) f) ∙ e)))

pub ruleset octa_showing = (octa-is)
