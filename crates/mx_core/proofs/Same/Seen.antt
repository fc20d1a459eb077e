-- What a machine over a window and the one over the list that it represents both read.
use Rattle.std.proofs.Common.{◌≡◌, ℕ, ◌==◌, Bool, true, false, cond, refl, sym, ◌∙◌, ap}
use Rattle.mx_ring.specs.Stack.{Stack, listed, windowed, as_listed, visible, hidden_octas, register, set_overfills, in_stack_area, stack_octa, stack_index}
use Rattle.mx_ring.specs.Window.{as_list}
use Rattle.mx_code.specs.SpecialRegisters.{rC, rO, rS}
use Rattle.mx_core.specs.State.{State, special_register, octa}

-- a state with this register stack
abbrev pub over : State → Stack → State
over s z = record s { stack = z }

pub same-visible : (z : Stack) → visible (as_listed z) ≡ visible z
unfolding as_list
same-visible (listed r) = refl
same-visible (windowed w) = refl

pub same-hidden : (z : Stack) → hidden_octas (as_listed z) ≡ hidden_octas z
unfolding as_list
same-hidden (listed r) = refl
same-hidden (windowed w) = refl

pub same-register : (z : Stack) (k : ℕ) → register (as_listed z) k ≡ register z k
unfolding as_list register
same-register (listed r) k = refl
same-register (windowed w) k = refl

-- the special registers other than rS
not-reached : (a b c : Bool) (x y u v v' r : ℕ) → c ≡ false → cond a x (cond b y (cond c v r)) ≡ cond a x (cond b y (cond c v' r))
not-reached a b true x y u v v' r e = absurd (cc)
not-reached a b false x y u v v' r e = refl

pub same-special : (s : State) (z : Stack) (code : ℕ) → (code == rS) ≡ false → special_register (over s (as_listed z)) code ≡ special_register (over s z) code
unfolding as_list special_register
same-special s (listed r) code e = refl
same-special s (windowed w) code e = not-reached (code == rC) (code == rO) (code == rS) _ _ 0 _ _ _ e

-- memory outside the stack area
pub same-octa : (s : State) (z : Stack) (a : ℕ) → in_stack_area a ≡ false → octa (over s (as_listed z)) a ≡ octa (over s z) a
unfolding octa
same-octa s z a e = ap (λ (b : Bool). cond b (stack_octa (as_listed z) (stack_index a)) (s.octas a)) e ∙ sym (ap (λ (b : Bool). cond b (stack_octa z (stack_index a)) (s.octas a)) e)

pub same-overfills : (z : Stack) (k : ℕ) → set_overfills (as_listed z) k ≡ set_overfills z k
unfolding as_list set_overfills
same-overfills (listed r) k = refl
same-overfills (windowed w) k = refl
